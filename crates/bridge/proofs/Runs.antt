-- Runs read one by one out of two slices.
use mathlib.Core.Path.{◌≡◌, refl, sym, ap, ◌∙◌, subst}
use mathlib.Core.Bool.{Bool, true, false, not, ◌&&◌, ◌||◌}
use mathlib.Core.List.{List, [], ◌∷◌}
use Prim.Native.Nat.{ℕ, zero, suc, ◌+◌, ◌≤◌, ◌<◌}
use native.Mathlib.Nat.{suc_inj, suc-ne-zero, le_of_suc-le-suc, not-suc-le-zero}
use native.Mathlib.Numerals.{add-one}
use native.Mathlib.Omega.{arith}
use lib.ListN.{length, get_or, drop, drop_of_length-le}
use lib.Seq.{drop-cons}
use lib.Dec.{T, eqb, leb, ltb}
use borrow.Author.Tests.{ltb-false, eqb-true, leb-false}
use Rattle.std.specs.List.{zip, list_any}
use Rattle.bridge.specs.Runs.{any_of, Run, overlap, any_overlap, leaves, runs_of, bad_runs, bridge_refused, block_refused}

pub neither : (a b : Bool) → (a || b) ≡ false → (a ≡ false) × (b ≡ false)
neither true b e = absurd (subst T e tt)
neither false b e = (refl, e)

-- ---- one of a list
module _ {A : Type 0} (p : A → Bool) (xs : List A) (none : A) where
  abbrev from : ℕ → Bool
  from k = any_of p (drop k xs)

  step : (k : ℕ) → k < length xs → from k ≡ (p (get_or xs k none) || from (k + 1))
  unfolding any_of
  step k h = ap (any_of p) (drop-cons xs k none h) ∙ ap (λ (n : ℕ). p (get_or xs k none) || from n) (sym (add-one k))

  pub any_here : (k : ℕ) → k < length xs → p (get_or xs k none) ≡ true → true ≡ from k
  any_here k h e = sym (step k h ∙ rw e)

  pub any_later : (k : ℕ) → k < length xs → p (get_or xs k none) ≡ false → from k ≡ from (k + 1)
  any_later k h e = step k h ∙ rw e

  pub any_end : (k : ℕ) → length xs ≤ k → false ≡ from k
  unfolding any_of
  any_end k h = sym (ap (any_of p) (drop_of_length-le xs h))

pub none_at : {A : Type 0} (p : A → Bool) (xs : List A) (none : A) (k : ℕ) → k < length xs → any_of p xs ≡ false → p (get_or xs k none) ≡ false
unfolding any_of
none_at p [] none k h e = absurd (not-suc-le-zero h)
none_at p (x ∷ xs) none zero h e = (neither (p x) (any_of p xs) e).0
none_at p (x ∷ xs) none (suc k) h e = none_at p xs none k (le_of_suc-le-suc h) (neither (p x) (any_of p xs) e).1

-- ---- the runs of two slices
pub no_run : Run
no_run = record { start = 0; count = 0 }

pub length_runs : (starts counts : List ℕ) → length starts ≡ length counts → length (runs_of starts counts) ≡ length starts
unfolding runs_of
length_runs [] counts e = refl
length_runs (s ∷ starts) [] e = absurd (suc-ne-zero (length starts) e)
length_runs (s ∷ starts) (n ∷ counts) e = ap suc (length_runs starts counts (suc_inj e))

pub run_at : (starts counts : List ℕ) → length starts ≡ length counts → (k : ℕ) → k < length starts
    → get_or (runs_of starts counts) k no_run ≡ record { start = get_or starts k 0; count = get_or counts k 0 }
unfolding runs_of
run_at [] counts e k h = absurd (not-suc-le-zero h)
run_at (s ∷ starts) [] e k h = absurd (suc-ne-zero (length starts) e)
run_at (s ∷ starts) (n ∷ counts) e zero h = refl
run_at (s ∷ starts) (n ∷ counts) e (suc k) h = run_at starts counts (suc_inj e) k (le_of_suc-le-suc h)

-- a condition asked of the runs of two slices, as they are read beside one another
pub any_beside : (p : Run → Bool) (starts counts : List ℕ) → list_any (λ (q : ℕ × ℕ). p (record { start = q.0; count = q.1 })) (zip starts counts) ≡ any_of p (runs_of starts counts)
unfolding any_of runs_of
any_beside p [] counts = refl
any_beside p (s ∷ starts) [] = refl
any_beside p (s ∷ starts) (n ∷ counts) = ap (λ (b : Bool). p (record { start = s; count = n }) || b) (any_beside p starts counts)

module _ (p : Run → Bool) (starts counts : List ℕ) (same : length starts ≡ length counts) (k : ℕ) where
  abbrev read : Run
  read = record { start = get_or starts k 0; count = get_or counts k 0 }

  inside : k < length starts → k < length (runs_of starts counts)
  inside h = omega (arith, length_runs starts counts same)

  pub run_here : k < length starts → (r : Bool) → r ≡ p read → r ≡ true → true ≡ any_of p (drop k (runs_of starts counts))
  run_here h r e t = any_here p (runs_of starts counts) no_run k (inside h) (ap p (run_at starts counts same k h) ∙ sym e ∙ t)

  pub run_later : k < length starts → (r : Bool) → r ≡ p read → r ≡ false → any_of p (drop k (runs_of starts counts)) ≡ any_of p (drop (k + 1) (runs_of starts counts))
  run_later h r e t = any_later p (runs_of starts counts) no_run k (inside h) (ap p (run_at starts counts same k h) ∙ sym e ∙ t)

  pub run_end : length starts ≤ k → false ≡ any_of p (drop k (runs_of starts counts))
  run_end h = any_end p (runs_of starts counts) no_run k (omega (arith, length_runs starts counts same))

third_false : (p q r : Bool) → (p && q && false && r) ≡ false
third_false true true r = refl
third_false true false r = refl
third_false false q r = refl

-- an empty run shares a row with none
pub empty_shares_none : (a : Run) → a.count ≡ 0 → (xs : List Run) → any_of (overlap a) xs ≡ false
unfolding any_of overlap
empty_shares_none a e [] = refl
empty_shares_none a e (x ∷ xs) =
    ap (λ (n : ℕ). (ltb a.start (x.start + x.count) && ltb x.start (a.start + n) && not (eqb n 0) && not (eqb x.count 0)) || any_of (overlap a) xs) e
    ∙ ap (λ (b : Bool). b || any_of (overlap a) xs) (third_false (ltb a.start (x.start + x.count)) (ltb x.start (a.start + 0)) (not (eqb x.count 0)))
    ∙ empty_shares_none a e xs

-- ---- two of a list
module _ (starts counts : List ℕ) (same : length starts ≡ length counts) where
  abbrev runs : List Run
  runs = runs_of starts counts

  abbrev later : ℕ → Bool
  later k = any_of (overlap (record { start = get_or starts k 0; count = get_or counts k 0 })) (drop (k + 1) runs)

  pairs : (k : ℕ) → k < length starts → any_overlap (drop k runs) ≡ (later k || any_overlap (drop (k + 1) runs))
  unfolding any_overlap
  pairs k h =
      ap any_overlap (drop-cons runs k no_run (omega (arith, length_runs starts counts same)))
      ∙ ap (λ (n : ℕ). any_of (overlap (get_or runs k no_run)) (drop n runs) || any_overlap (drop n runs)) (sym (add-one k))
      ∙ ap (λ (a : Run). any_of (overlap a) (drop (k + 1) runs) || any_overlap (drop (k + 1) runs)) (run_at starts counts same k h)

  pub pair_here : (k : ℕ) → k < length starts → (r : Bool) → r ≡ later k → r ≡ true → true ≡ any_overlap (drop k runs)
  pair_here k h r e t = sym (pairs k h ∙ ap (λ (b : Bool). b || any_overlap (drop (k + 1) runs)) (sym e ∙ t))

  pub pair_later : (k : ℕ) → k < length starts → (r : Bool) → r ≡ later k → r ≡ false → any_overlap (drop k runs) ≡ any_overlap (drop (k + 1) runs)
  pair_later k h r e t = pairs k h ∙ ap (λ (b : Bool). b || any_overlap (drop (k + 1) runs)) (sym e ∙ t)

  pub pair_end : (k : ℕ) → length starts ≤ k → false ≡ any_overlap (drop k runs)
  unfolding any_overlap
  pair_end k h = let l : length runs ≤ k = omega (arith, length_runs starts counts same) in sym (ap any_overlap (drop_of_length-le runs l))

-- ---- where row 14 does not apply, the block has a run, and it lies inside
not_fails : (b : Bool) → not b ≡ false → b ≡ true
not_fails true e = refl
not_fails false e = absurd (subst T e tt)

pub record RunInside (block : ℕ) (starts counts : List ℕ) (rows : ℕ) : Type 0 where
  pub there : block < length starts
  pub same : length starts ≡ length counts
  pub inside : get_or starts block 0 + get_or counts block 0 ≤ rows

pub run_inside : (block : ℕ) (starts counts : List ℕ) (rows devices : ℕ) → block_refused block starts counts rows devices ≡ false → RunInside block starts counts rows
unfolding block_refused bridge_refused bad_runs leaves
run_inside block starts counts rows devices e =
    let a = neither (bridge_refused starts counts rows devices) (leb (length starts) block) e in
    let b = neither (ltb 64 devices) (bad_runs starts counts rows) a.0 in
    let c = neither (not (eqb (length starts) (length counts)) || any_of (leaves rows) (runs_of starts counts)) (any_overlap (runs_of starts counts)) b.1 in
    let f = neither (not (eqb (length starts) (length counts))) (any_of (leaves rows) (runs_of starts counts)) c.0 in
    let same = eqb-true (length starts) (length counts) (not_fails _ f.0) in
    let there = leb-false (length starts) block a.1 in
    record { there = there; same = same; inside = inside same there f.1 }
  where
    inside : length starts ≡ length counts → block < length starts → any_of (leaves rows) (runs_of starts counts) ≡ false → get_or starts block 0 + get_or counts block 0 ≤ rows
    inside same there none =
        ltb-false rows (get_or starts block 0 + get_or counts block 0)
        (ap (leaves rows) (sym (run_at starts counts same block there)) ∙ none_at (leaves rows) (runs_of starts counts) no_run block (omega (arith, length_runs starts counts same)) none)
