-- A list changed element by element from the front.
use Rattle.std.proofs.Common.{ℕ, zero, suc, ◌<◌, ◌≤◌, ◌≡◌, refl, ap, List, [], ◌∷◌, ◌++◌, length, take, drop, get_or, set, arith}
use Rattle.std.specs.Prelude.{map}
use native.Mathlib.Nat.{le_of_suc-le-suc}

pub one_more : {A : Type 0} (f : A → A) (d : A) (xs : List A) (i : ℕ) → i < length xs → set (map f (take i xs) ++ drop i xs) i (f (get_or (map f (take i xs) ++ drop i xs) i d)) ≡ map f (take (suc i) xs) ++ drop (suc i) xs
one_more f d [] i h = absurd (none h)
  where
    none : i < 0 → ⊥
    none h = omega arith
one_more f d (x ∷ xs) zero h = refl
one_more {A = A} f d (x ∷ xs) (suc i) h = ap (λ (l : List A). f x ∷ l) (one_more f d xs i (le_of_suc-le-suc h))

pub all : {A : Type 0} (f : A → A) (xs : List A) (i : ℕ) → length xs ≤ i → map f (take i xs) ++ drop i xs ≡ map f xs
all f [] zero h = refl
all f [] (suc i) h = refl
all f (x ∷ xs) zero h = absurd (none h)
  where
    none : suc (length xs) ≤ 0 → ⊥
    none h = omega arith
all {A = A} f (x ∷ xs) (suc i) h = ap (λ (l : List A). f x ∷ l) (all f xs i (le_of_suc-le-suc h))
