-- A bank's devices with their cells, read one by one; a bank whose tags are all known.
use mathlib.Core.Path.{◌≡◌, refl, sym, ap, subst}
use mathlib.Core.Bool.{Bool, true, false, cond, not, ◌||◌}
use mathlib.Core.List.{List, [], ◌∷◌}
use Prim.Native.Nat.{ℕ, suc, ◌≤◌, ◌<◌}
use lib.Dec.{T, leb}
use lib.ListN.{length, get_or, drop, drop_of_length-le}
use lib.Seq.{drop-cons}
use lib.Ieee.{Float}
use Rattle.from_record.specs.Devices.{device_from}
use Rattle.from_record.specs.Tags.{good_tags}
use Rattle.record_loading.specs.Load.{kind_from, good_load}
use Rattle.record_words.specs.Words.{record_of}
use Rattle.resolved_rows.specs.LoadResolved.{resolved_row_of}
use Rattle.record_resolved.specs.Steps.{resolved_number}
use Rattle.bridge.specs.Runs.{any_of}
use Rattle.bridge.proofs.Runs.{none_at}
use Rattle.device_bank.specs.Bank.{bank_good}
use Rattle.bank_resolved.specs.Resolved.{Celled, celled_of}

-- the device of the number j
abbrev pub celled_at : List (List Float) → List (List ℕ) → ℕ → Celled
celled_at bank cells j = record { device = device_from (record_of (get_or bank j [])); cells = get_or cells j [] }

pub celled_here : (bank : List (List Float)) (cells : List (List ℕ)) (j : ℕ) → j < length bank → j < length cells
    → celled_of (drop j bank) (drop j cells) ≡ celled_at bank cells j ∷ celled_of (drop (suc j) bank) (drop (suc j) cells)
unfolding celled_of
celled_here bank cells j h g = rw (drop-cons bank j [] h, drop-cons cells j [] g) refl

pub no_device_left : (bank : List (List Float)) (cells : List (List ℕ)) (i : ℕ) → length bank ≤ i → celled_of (drop i bank) (drop i cells) ≡ []
unfolding celled_of
no_device_left bank cells i h = ap (λ (ws : List (List Float)). celled_of ws (drop i cells)) (drop_of_length-le bank h)

-- ---- tags
unless_not : (b : Bool) → not b ≡ true → b ≡ false
unless_not true e = absurd (subst T (sym e) tt)
unless_not false e = refl

not_not : (b : Bool) → not b ≡ false → b ≡ true
not_not true e = refl
not_not false e = absurd (subst T e tt)

tags_or : (a b : Bool) → not (a || b) ≡ true → not b ≡ true
tags_or true b e = absurd (subst T (sym e) tt)
tags_or false b e = e

-- the tags of the records behind the first
pub rest_good : (w : List Float) (ws : List (List Float)) → bank_good (w ∷ ws) ≡ true → bank_good ws ≡ true
unfolding bank_good any_of
rest_good w ws e = tags_or (not (good_tags (record_of w))) (any_of (λ (w : List Float). not (good_tags (record_of w))) ws) e

tags_and : (a b : Bool) → a ≡ true → not b ≡ true → not (not a || b) ≡ true
tags_and a b e f = rw e f

-- those of a record in front of them
pub one_more_good : (w : List Float) (ws : List (List Float)) → good_tags (record_of w) ≡ true → bank_good ws ≡ true → bank_good (w ∷ ws) ≡ true
unfolding bank_good any_of
one_more_good w ws e f = tags_and (good_tags (record_of w)) (any_of (λ (w : List Float). not (good_tags (record_of w))) ws) e f

module _ (bank : List (List Float)) (t : ℕ) (tags : bank_good bank ≡ true) (kind : leb t 1 ≡ true) (j : ℕ) (h : j < length bank) where
  pub load_good : good_load (record_of (get_or bank j [])) t ≡ true
  unfolding bank_good good_load
  load_good =
      rw
      (not_not (good_tags (record_of (get_or bank j []))) (none_at (λ (w : List Float). not (good_tags (record_of w))) bank [] j h (unless_not (any_of (λ (w : List Float). not (good_tags (record_of w))) bank) tags)), kind)

  pub by_row : (alpha : Float) (w : List ℕ) (rows values : ℕ) → resolved_number (record_of (get_or bank j [])) t alpha w rows values ≡ resolved_row_of (device_from (record_of (get_or bank j []))) (kind_from t alpha) w rows values
  unfolding resolved_number
  by_row alpha w rows values = ap (λ (b : Bool). cond b (resolved_row_of (device_from (record_of (get_or bank j []))) (kind_from t alpha) w rows values) 100) load_good
