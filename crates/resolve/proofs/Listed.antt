-- A list of a known length is its elements one by one.
use mathlib.Core.Path.{◌≡◌, sym, ap, ◌∙◌}
use mathlib.Core.List.{List, [], ◌∷◌, ◌++◌}
use Prim.Native.Nat.{ℕ, zero, suc, ◌+◌, ◌≤◌}
use native.Mathlib.Omega.{arith}
use lib.ListN.{length, get_or, drop, drop_of_length-le}
use lib.Seq.{drop-cons}
use Rattle.resolve.specs.Resolve.{numbers_from}

listed : (xs : List ℕ) (k n : ℕ) → length xs ≡ k + n → drop k xs ≡ numbers_from xs k n
unfolding numbers_from
listed xs k zero e = let h : length xs ≤ k = omega arith in drop_of_length-le xs h
listed xs k (suc n) e = drop-cons xs k 0 (omega arith) ∙ ap (λ (zs : List ℕ). get_or xs k 0 ∷ zs) (listed xs (suc k) n (omega arith))

pub joined_list : (a b c d e f r m : ℕ) (p q : List ℕ) → length p ≡ 24 → length q ≡ 5
    → a ∷ b ∷ c ∷ d ∷ e ∷ f ∷ r ∷ m ∷ (numbers_from p 0 24 ++ numbers_from q 0 5) ≡ ((a ∷ b ∷ c ∷ d ∷ e ∷ f ∷ []) ++ (r ∷ m ∷ []) ++ p ++ q)
joined_list a b c d e f r m p q h i =
    ap (λ (zs : List ℕ). a ∷ b ∷ c ∷ d ∷ e ∷ f ∷ r ∷ m ∷ (zs ++ numbers_from q 0 5)) (sym (listed p 0 24 h))
    ∙ ap (λ (zs : List ℕ). a ∷ b ∷ c ∷ d ∷ e ∷ f ∷ r ∷ m ∷ (p ++ zs)) (sym (listed q 0 5 i))
