-- By the tags' words: whether every tag is known of the record that the words are.
-- Assumes nothing.
use Prim.Native.Nat.{ℕ}
use mathlib.Core.Path.{◌≡◌, refl, ◌∙◌}
use mathlib.Core.List.{List}
use mathlib.Core.Bool.{Bool, true, false, ◌&&◌}
use lib.Dec.{leb}
use lib.Bits.{bit_or}
use lib.ListN.{get_or}
use lib.Ieee.{Float, nan}
use Rattle.from_record.specs.Tags.{good_terminals, good_histories, good_stage, good_tags}
use Rattle.from_record.proofs.TagsAtOnce.{or_known, tags_at_once}
use Rattle.record_words.specs.Words.{whole_of, given_at, node_at, history_at, card_of, terminals_of, histories_of, method_of, record_of}

pub terminals_known : (w : List Float) (a b c d e f : ℕ) → a ≡ whole_of (get_or w 54 nan) → b ≡ whole_of (get_or w 56 nan) → c ≡ whole_of (get_or w 58 nan) → d ≡ whole_of (get_or w 60 nan) → e ≡ whole_of (get_or w 62 nan) → f ≡ whole_of (get_or w 64 nan) →
    leb (bit_or (bit_or (bit_or (bit_or (bit_or a b) c) d) e) f) 1 ≡ good_terminals (terminals_of w)
unfolding good_terminals terminals_of node_at
terminals_known w a b c d e f ea eb ec ed ee ef = rw (or_known _ _, or_known _ _, or_known _ _, or_known _ _, or_known _ _, ea, eb, ec, ed, ee, ef)

pub histories_known : (w : List Float) (a b c d e : ℕ) → a ≡ whole_of (get_or w 90 nan) → b ≡ whole_of (get_or w 94 nan) → c ≡ whole_of (get_or w 98 nan) → d ≡ whole_of (get_or w 102 nan) → e ≡ whole_of (get_or w 106 nan) →
    leb (bit_or (bit_or (bit_or (bit_or a b) c) d) e) 1 ≡ good_histories (histories_of w)
unfolding good_histories histories_of history_at given_at
histories_known w a b c d e ea eb ec ed ee = rw (or_known _ _, or_known _ _, or_known _ _, or_known _ _, ea, eb, ec, ed, ee)

-- the OR of the card's two tags, the terminals' and the histories'
abbrev pub or_of : ℕ → ℕ → ℕ → ℕ → ℕ
or_of a b t h = bit_or (bit_or (bit_or a b) t) h

regroup : (p q r s : Bool) → (p && q && (r && s)) ≡ (p && q && r && s)
regroup true true true s = refl
regroup true true false s = refl
regroup true false r s = refl
regroup false q r s = refl

pub known_tags : (w : List Float) (a b t h m s : ℕ) → a ≡ whole_of (get_or w 5 nan) → b ≡ whole_of (get_or w 7 nan) →
    leb t 1 ≡ good_terminals (terminals_of w) → leb h 1 ≡ good_histories (histories_of w) →
    m ≡ whole_of (get_or w 109 nan) → s ≡ whole_of (get_or w 112 nan) →
    good_tags (record_of w) ≡ (leb (or_of a b t h) 1 && leb m 3 && leb 1 s && leb s 5)
unfolding record_of card_of given_at method_of good_stage
known_tags w a b t h m s ea eb et eh em es = rw (ea, eb, em, es) (tags_at_once (record_of w) t h et eh ∙ regroup (leb (or_of (whole_of (get_or w 5 nan)) (whole_of (get_or w 7 nan)) t h) 1) (leb (whole_of (get_or w 109 nan)) 3) (leb 1 (whole_of (get_or w 112 nan))) (leb (whole_of (get_or w 112 nan)) 5))
