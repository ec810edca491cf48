-- Runs that rise: no run leaves the rows, and no two overlap. How one pass from the first run to the last knows that they rise.
use mathlib.Core.Path.{◌≡◌, refl, sym, ap, ◌∙◌, subst}
use mathlib.Core.Bool.{Bool, true, false, not, ◌&&◌, ◌||◌}
use mathlib.Core.List.{List, [], ◌∷◌}
use Prim.Native.Nat.{ℕ, suc, ◌+◌, ◌≤◌, ◌<◌}
use native.Mathlib.Nat.{le_refl}
use native.Mathlib.Numerals.{add-one}
use native.Mathlib.Omega.{arith}
use lib.ListN.{length, get_or, drop, drop_of_length-le}
use lib.Seq.{drop-cons}
use lib.Dec.{T, eqb, ltb}
use borrow.Author.Tests.{eq-eqb, le-ltb, ltb-false, not-true}
use Rattle.bridge.specs.Runs.{any_of, Run, end_of, overlap, any_overlap, leaves, runs_of, bad_runs, bridge_refused}
use Rattle.bridge.specs.Steps.{limit_of, rising}
use Rattle.bridge.proofs.Runs.{no_run, length_runs, run_at}

both_hold : (p q : Bool) → (p && q) ≡ true → (p ≡ true) × (q ≡ true)
both_hold true q e = (refl, e)
both_hold false q e = absurd (subst T (sym e) tt)

begins_behind : (p r s : Bool) → (p && false && r && s) ≡ false
begins_behind true r s = refl
begins_behind false r s = refl

apart : (a b : Run) → end_of a ≤ b.start → overlap a b ≡ false
unfolding overlap
apart a b h = simp (le-ltb b.start (end_of a) h) (begins_behind (ltb a.start (end_of b)) (not (eqb a.count 0)) (not (eqb b.count 0)))

module _ (rows : ℕ) where
  rises : (a : Run) (rest : List Run) → rising rows (a ∷ rest) ≡ true → (end_of a ≤ limit_of rows rest) × (rising rows rest ≡ true)
  unfolding rising leaves
  rises a rest e =
      let h = both_hold (not (leaves (limit_of rows rest) a)) (rising rows rest) e in
      (ltb-false (limit_of rows rest) (end_of a) (not-true _ h.0), h.1)

  limit_inside : (runs : List Run) → rising rows runs ≡ true → limit_of rows runs ≤ rows
  unfolding limit_of
  limit_inside [] e = le_refl rows
  limit_inside (a ∷ rest) e =
      let h = rises a rest e in
      let l = limit_inside rest h.1 in
      omega (arith, h.0, l)

  -- a run that ended before rising ones begin overlaps none of them
  none_behind : (a : Run) (runs : List Run) → end_of a ≤ limit_of rows runs → rising rows runs ≡ true → any_of (overlap a) runs ≡ false
  unfolding any_of limit_of
  none_behind a [] l e = refl
  none_behind a (b ∷ rest) l e =
      let h = rises b rest e in
      rw (apart a b l) (none_behind a rest (omega (arith, l, h.0)) h.1)

  pub rising_inside : (runs : List Run) → rising rows runs ≡ true → any_of (leaves rows) runs ≡ false
  unfolding any_of leaves
  rising_inside [] e = refl
  rising_inside (a ∷ rest) e =
      let h = rises a rest e in
      let l = limit_inside rest h.1 in
      rw (le-ltb rows (end_of a) (omega (arith, h.0, l))) (rising_inside rest h.1)

  pub rising_apart : (runs : List Run) → rising rows runs ≡ true → any_overlap runs ≡ false
  unfolding any_overlap
  rising_apart [] e = refl
  rising_apart (a ∷ rest) e =
      let h = rises a rest e in
      rw (none_behind a rest h.0 h.1) (rising_apart rest h.1)

-- ---- the pass: the runs before the number k end where the next one begins, or before
module _ (starts counts : List ℕ) (rows : ℕ) (same : length starts ≡ length counts) where
  abbrev runs : List Run
  runs = runs_of starts counts

  abbrev read : ℕ → Run
  read k = record { start = get_or starts k 0; count = get_or counts k 0 }

  split : (k : ℕ) → k < length starts → drop k runs ≡ read k ∷ drop (k + 1) runs
  split k h =
      drop-cons runs k no_run (omega (arith, length_runs starts counts same))
      ∙ ap (λ (a : Run). a ∷ drop (suc k) runs) (run_at starts counts same k h)
      ∙ ap (λ (n : ℕ). read k ∷ drop n runs) (sym (add-one k))

  ended : (k : ℕ) → length starts ≤ k → drop k runs ≡ []
  ended k h = drop_of_length-le runs (omega (arith, length_runs starts counts same))

  pub limit_next : (k : ℕ) → k < length starts → get_or starts k 0 ≡ limit_of rows (drop k runs)
  unfolding limit_of
  limit_next k h = sym (ap (limit_of rows) (split k h))

  pub limit_last : (k : ℕ) → length starts ≤ k → rows ≡ limit_of rows (drop k runs)
  unfolding limit_of
  limit_last k h = sym (ap (limit_of rows) (ended k h))

  module _ (k limit : ℕ) (h : k < length starts) (is : limit ≡ limit_of rows (drop (k + 1) runs)) (so_far : rising rows runs ≡ rising rows (drop k runs)) where
    step : rising rows runs ≡ (not (leaves limit (read k)) && rising rows (drop (k + 1) runs))
    unfolding rising
    step = so_far ∙ ap (rising rows) (split k h) ∙ ap (λ (n : ℕ). not (leaves n (read k)) && rising rows (drop (k + 1) runs)) (sym is)

    pub one_fails : (r : Bool) → r ≡ leaves limit (read k) → r ≡ true → false ≡ rising rows runs
    one_fails r e t = sym (step ∙ rw (← e, t))

    pub one_rises : (r : Bool) → r ≡ leaves limit (read k) → r ≡ false → rising rows runs ≡ rising rows (drop (k + 1) runs)
    one_rises r e t = step ∙ rw (← e, t)

  pub all_rose : (k : ℕ) → length starts ≤ k → rising rows runs ≡ rising rows (drop k runs) → true ≡ rising rows runs
  unfolding rising
  all_rose k h so_far = sym (so_far ∙ ap (rising rows) (ended k h))

-- ---- row 14 by the one pass: where the runs rise, none leaves the rows and no two overlap
either_way : (r t u v w : Bool) → (r ≡ true → (v ≡ false) × (w ≡ false)) → (t || (u || v || w)) ≡ (t || u || (not r && (v || w)))
either_way r true u v w h = refl
either_way r false true v w h = refl
either_way true false false v w h = rw ((h refl).0, (h refl).1)
either_way false false false v w h = refl

pub refused_by_pass : (starts counts : List ℕ) (rows devices : ℕ) → bridge_refused starts counts rows devices
    ≡ (ltb 64 devices || not (eqb (length starts) (length counts)) || (not (rising rows (runs_of starts counts)) && (any_of (leaves rows) (runs_of starts counts) || any_overlap (runs_of starts counts))))
unfolding bridge_refused bad_runs
refused_by_pass starts counts rows devices =
    either_way (rising rows (runs_of starts counts)) (ltb 64 devices) (not (eqb (length starts) (length counts))) (any_of (leaves rows) (runs_of starts counts)) (any_overlap (runs_of starts counts))
    (λ h. (rising_inside rows (runs_of starts counts) h, rising_apart rows (runs_of starts counts) h))

-- ---- row 14 does not apply
pub all_rise : (starts counts : List ℕ) (rows devices : ℕ) → devices ≤ 64 → length starts ≡ length counts
    → (r : Bool) → r ≡ rising rows (runs_of starts counts) → r ≡ true → false ≡ bridge_refused starts counts rows devices
unfolding bridge_refused bad_runs
all_rise starts counts rows devices few same r e t =
    let h = sym e ∙ t in
    rw (le-ltb 64 devices few, eq-eqb (length starts) (length counts) same, rising_inside rows (runs_of starts counts) h, rising_apart rows (runs_of starts counts) h)
