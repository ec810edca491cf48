-- What the prover over fractions can do, one example each: these break if it stops working. What it costs: docs/PROVING.md.
use Prim.Native.Nat.{◌^◌}
use mathlib.Core.List.{[], ◌∷◌}
use Rattle.exact.specs.Fraction.{ℚ, ◌//◌, nat, ◌+q◌, ◌-q◌, ◌*q◌, ◌≤q◌, ◌≈q◌}
use Rattle.exact.proofs.FractionProver.{qv, ##, ◌÷◌, ◌⊞◌, ◌⊟◌, ◌⊠◌, leq, req, linq, ◌⊑◌by◌}

-- ---- equations and orders that hold as they stand
difference_of_squares : (x y : ℚ) → (x +q y) *q (x -q y) ≈q x *q x -q y *q y
difference_of_squares x y = req (x ∷ y ∷ []) ((qv 0 ⊞ qv 1) ⊠ (qv 0 ⊟ qv 1)) (qv 0 ⊠ qv 0 ⊟ qv 1 ⊠ qv 1) tt tt

-- coefficients 1 / n!
horner_is_the_series : (x : ℚ) → ((((1 // 120 *q x +q 1 // 24) *q x +q 1 // 6) *q x +q 1 // 2) *q x +q nat 1) *q x +q nat 1 ≈q nat 1 +q x +q 1 // 2 *q (x *q x) +q 1 // 6 *q (x *q x *q x) +q 1 // 24 *q (x *q x *q x *q x) +q 1 // 120 *q (x *q x *q x *q x *q x)
horner_is_the_series x =
    let X = qv 0 in
    req (x ∷ []) (((((1 ÷ 120 ⊠ X ⊞ 1 ÷ 24) ⊠ X ⊞ 1 ÷ 6) ⊠ X ⊞ 1 ÷ 2) ⊠ X ⊞ ## 1) ⊠ X ⊞ ## 1) (## 1 ⊞ X ⊞ 1 ÷ 2 ⊠ (X ⊠ X) ⊞ 1 ÷ 6 ⊠ (X ⊠ X ⊠ X) ⊞ 1 ÷ 24 ⊠ (X ⊠ X ⊠ X ⊠ X) ⊞ 1 ÷ 120 ⊠ (X ⊠ X ⊠ X ⊠ X ⊠ X)) tt tt

-- five factors of five terms, with signs, in another order
fifth_power_with_signs : (x y z w v : ℚ) → let s = x -q y +q z -q w +q v in s *q s *q s *q s *q s ≤q (v +q x -q y +q z -q w) *q s *q (s *q s *q s)
fifth_power_with_signs x y z w v =
    let s = qv 0 ⊟ qv 1 ⊞ qv 2 ⊟ qv 3 ⊞ qv 4 in
    leq (x ∷ y ∷ z ∷ w ∷ v ∷ []) (s ⊠ s ⊠ s ⊠ s ⊠ s) ((qv 4 ⊞ qv 0 ⊟ qv 1 ⊞ qv 2 ⊟ qv 3) ⊠ s ⊠ (s ⊠ s ⊠ s)) tt

-- less by a constant
less_by_a_constant : (x : ℚ) → x *q x +q 1 // 3 ≤q x *q x +q 1 // 2
less_by_a_constant x = leq (x ∷ []) (qv 0 ⊠ qv 0 ⊞ 1 ÷ 3) (qv 0 ⊠ qv 0 ⊞ 1 ÷ 2) tt

-- ---- orders from hypotheses, each taken so many times
six_errors_add : (a b c d e f g p q r s t u : ℚ) → b -q a ≤q p → c -q b ≤q q → d -q c ≤q r → e -q d ≤q s → f -q e ≤q t → g -q f ≤q u → g -q a ≤q p +q q +q r +q s +q t +q u
six_errors_add a b c d e f g p q r s t u =
    linq (a ∷ b ∷ c ∷ d ∷ e ∷ f ∷ g ∷ p ∷ q ∷ r ∷ s ∷ t ∷ u ∷ [])
    ((qv 1 ⊟ qv 0 ⊑ qv 7 by 1) ∷ (qv 2 ⊟ qv 1 ⊑ qv 8 by 1) ∷ (qv 3 ⊟ qv 2 ⊑ qv 9 by 1) ∷ (qv 4 ⊟ qv 3 ⊑ qv 10 by 1) ∷ (qv 5 ⊟ qv 4 ⊑ qv 11 by 1) ∷ (qv 6 ⊟ qv 5 ⊑ qv 12 by 1) ∷ [])
    0 (qv 6 ⊟ qv 0) (qv 7 ⊞ qv 8 ⊞ qv 9 ⊞ qv 10 ⊞ qv 11 ⊞ qv 12) tt

-- constants of 1,128 bits
bounds_of_a_thousand_bits : (x y : ℚ) → x ≤q 1 // 2 ^ 1075 *q 3 // 2 ^ 53 +q 1 // 2 ^ 1070 → y ≤q 1 // 2 ^ 1071 → x +q y ≤q 1 // 2 ^ 1069
bounds_of_a_thousand_bits x y = linq (x ∷ y ∷ []) ((qv 0 ⊑ 1 ÷ 2 ^ 1075 ⊠ 3 ÷ 2 ^ 53 ⊞ 1 ÷ 2 ^ 1070 by 1) ∷ (qv 1 ⊑ 1 ÷ 2 ^ 1071 by 1) ∷ []) 0 (qv 0 ⊞ qv 1) (1 ÷ 2 ^ 1069) tt

-- a factor divided out: the 2 says that three times the goal follows
thirds : (x y z : ℚ) → nat 3 *q x ≤q nat 2 *q y → nat 2 *q y ≤q z +q nat 1 → x ≤q 1 // 3 *q z +q 1 // 3
thirds x y z = linq (x ∷ y ∷ z ∷ []) ((## 3 ⊠ qv 0 ⊑ ## 2 ⊠ qv 1 by 1) ∷ (## 2 ⊠ qv 1 ⊑ qv 2 ⊞ ## 1 by 1) ∷ []) 2 (qv 0) (1 ÷ 3 ⊠ qv 2 ⊞ 1 ÷ 3) tt

-- ---- what it does not do: a product of two facts is handed over as one more, here 0 ≤ (a - x) (b - y)
two_bounds_multiplied : (x y a b : ℚ) → nat 0 ≤q (a -q x) *q (b -q y) → a *q y +q x *q b ≤q a *q b +q x *q y
two_bounds_multiplied x y a b = linq (x ∷ y ∷ a ∷ b ∷ []) ((## 0 ⊑ (qv 2 ⊟ qv 0) ⊠ (qv 3 ⊟ qv 1) by 1) ∷ []) 0 (qv 2 ⊠ qv 1 ⊞ qv 0 ⊠ qv 3) (qv 2 ⊠ qv 3 ⊞ qv 0 ⊠ qv 1) tt
