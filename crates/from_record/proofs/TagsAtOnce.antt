-- The OR of two tags is at most 1 where both are, so that one test of an OR stands for a test of each tag.
-- Assumes nothing.
use Prim.Native.Nat.{ℕ, ◌≤◌}
use mathlib.Core.Path.{◌≡◌, refl}
use mathlib.Core.Bool.{Bool, true, false, ◌&&◌}
use lib.Dec.{leb}
use lib.Bits.{bit_or, and_le_l, and_le_r, or_lt, or_add_and}
use native.Mathlib.Omega.{arith}
use borrow.Author.Tests.{leb-true, leb-false, le-leb, lt-leb}
use Rattle.record.specs.declared.DeviceRecord.{DeviceRecord}
use Rattle.from_record.specs.Tags.{good_terminals, good_histories, good_stage, good_tags}

pub or_above_l : (a b : ℕ) → a ≤ bit_or a b
or_above_l a b = omega (arith, or_add_and a b, and_le_r a b)

pub or_above_r : (a b : ℕ) → b ≤ bit_or a b
or_above_r a b = omega (arith, or_add_and a b, and_le_l a b)

by_both : (a b : ℕ) (s t : Bool) → leb a 1 ≡ s → leb b 1 ≡ t → leb (bit_or a b) 1 ≡ (s && t)
by_both a b true true h k = le-leb (bit_or a b) 1 (omega (arith, or_lt 1 a b (omega (arith, leb-true a 1 h)) (omega (arith, leb-true b 1 k))))
by_both a b true false h k = lt-leb (bit_or a b) 1 (omega (arith, or_above_r a b, leb-false b 1 k))
by_both a b false t h k = lt-leb (bit_or a b) 1 (omega (arith, or_above_l a b, leb-false a 1 h))

pub or_known : (a b : ℕ) → leb (bit_or a b) 1 ≡ (leb a 1 && leb b 1)
or_known a b = by_both a b (leb a 1) (leb b 1) refl refl

-- the third of six by itself, behind the others but the last
third_apart : (a b m t h s : Bool) → (a && b && m && t && h && s) ≡ (a && b && t && h && m && s)
third_apart false b m t h s = refl
third_apart true false m t h s = refl
third_apart true true true true true s = refl
third_apart true true true true false s = refl
third_apart true true true false h s = refl
third_apart true true false true true s = refl
third_apart true true false true false s = refl
third_apart true true false false h s = refl

-- the OR of the card's two tags, the terminals' and the histories'
abbrev pub or_of : DeviceRecord → ℕ → ℕ → ℕ
or_of d t h = bit_or (bit_or (bit_or d.card.rd_card.tag d.card.rs_card.tag) t) h

-- every tag is known where the OR is at most 1, the method's is at most 3 and the stage is one
pub tags_at_once : (d : DeviceRecord) (t h : ℕ) → leb t 1 ≡ good_terminals d.terminals → leb h 1 ≡ good_histories d.histories →
    good_tags d ≡ (leb (or_of d t h) 1 && leb d.method.tag 3 && good_stage d.stage)
unfolding good_tags
tags_at_once d t h e f = rw (or_known _ _, or_known _ _, or_known _ _, e, f) (third_apart (leb d.card.rd_card.tag 1) (leb d.card.rs_card.tag 1) (leb d.method.tag 3) (good_terminals d.terminals) (good_histories d.histories) (good_stage d.stage))
