-- The error calculus in use: a sum of two products, Horner's rule, a quotient by a constant that is no float, a sum by induction on the number of its terms.
use Prim.Native.Nat.{ℕ, suc, ◌^◌, ◌≤◌, zero-le}
use mathlib.Core.Path.{sym}
use native.Mathlib.Numerals.{add-one}
use mathlib.Core.List.{[], ◌∷◌}
use lib.Dec.{T}
use lib.IntN.{pos}
use lib.Ieee.{Float, binary64, add, fits, of_bits}
use lib.Ieee.Scale.{finite}
use Rattle.exact.specs.Fraction.{ℚ, ◌//◌, nat, ◌+q◌, ◌-q◌, ◌*q◌, ◌/q◌, absq, ◌≤q◌, ◌≈q◌}
use Rattle.exact.specs.FloatValue.{value}
use Rattle.exact.specs.Float64.{◌⊕◌, ◌⊖◌, ◌⊗◌, ◌⊘◌}
use Rattle.exact.specs.Size.{AtMost}
use Rattle.exact.proofs.FractionLaws.{≈_refl, ≈_sym, ≈_trans, *_cong, nat_+, ≤_trans, ≤_of_≈, *_mono, *_comm, lit_≤}
use Rattle.exact.proofs.FractionProver.{qv, ##, ◌÷◌, ◌⊞◌, ◌⊠◌, linq, ◌⊑◌by◌, nat_≤, nat_≡}
use Rattle.exact.proofs.ErrorCalculus.{Est, weaken, given, given_at_most, est_⊕, est_⊗, est_⊘, est_⊖_fits, est_literal, est_add_fits}
use Rattle.exact.proofs.RelativeErrors.{Rel, rel_at_most, rel_⊖, rel_⊗}
use Rattle.exact.proofs.Computing.{computing}

-- a b + c d, each of size 1024 at most
two_products : (a b c d : Float) → AtMost a (pos 10) → AtMost b (pos 10) → AtMost c (pos 10) → AtMost d (pos 10) → Est binary64 (a ⊗ b ⊕ c ⊗ d) (value a *q value b +q value c *q value d) (nat (2 ^ 21)) (1 // 2 ^ 30)
unfolding computing
two_products a b c d A B C D =
    let p = est_⊗ (given_at_most A) (given_at_most B) (nat (2 ^ 20)) (1 // 2 ^ 32) tt in
    let q = est_⊗ (given_at_most C) (given_at_most D) (nat (2 ^ 20)) (1 // 2 ^ 32) tt in
    est_⊕ p q (nat (2 ^ 21)) (1 // 2 ^ 30) tt

-- Horner's rule: ((c0 x + c1) x + c2) x + c3, each of size 1 at most
horner : (x c0 c1 c2 c3 : Float) → AtMost x (pos 0) → AtMost c0 (pos 0) → AtMost c1 (pos 0) → AtMost c2 (pos 0) → AtMost c3 (pos 0)
    → Est binary64 (((c0 ⊗ x ⊕ c1) ⊗ x ⊕ c2) ⊗ x ⊕ c3) (((value c0 *q value x +q value c1) *q value x +q value c2) *q value x +q value c3) (nat 4) (21 // 2 ^ 53)
unfolding computing
horner x c0 c1 c2 c3 X C0 C1 C2 C3 =
    let p = est_⊕ (est_⊗ (given_at_most C0) (given_at_most X) (nat 1) (2 // 2 ^ 53) tt) (given_at_most C1) (nat 2) (5 // 2 ^ 53) tt in
    let q = est_⊕ (est_⊗ p (given_at_most X) (nat 2) (8 // 2 ^ 53) tt) (given_at_most C2) (nat 3) (12 // 2 ^ 53) tt in
    est_⊕ (est_⊗ q (given_at_most X) (nat 3) (16 // 2 ^ 53) tt) (given_at_most C3) (nat 4) (21 // 2 ^ 53) tt

-- (x - y) / 0.1, where 0.1 stands for a tenth
tenths : (x y : Float) → AtMost x (pos 3) → AtMost y (pos 3) → T (fits binary64 x) → T (fits binary64 y) → Est binary64 ((x ⊖ y) ⊘ of_bits binary64 0x3fb9_9999_9999_999a) ((value x -q value y) /q (1 // 10)) (nat 160) (1 // 2 ^ 44)
unfolding computing
tenths x y X Y p q =
    est_⊘ (est_⊖_fits (given_at_most X) (given_at_most Y) (nat 16) (16 // 2 ^ 53) p q tt) (est_literal 0x3fb9_9999_9999_999a (1 // 10) (1 // 10) (1 // 2 ^ 57) tt) (nat 160) (1 // 2 ^ 44) (1 // 10) (lit_≤ tt) tt

-- b (v - w) (v - w), with an error relative to |b| (|v| + |w|) (|v| + |w|): five roundings
square_law : (b v w : Float) → AtMost b (pos 20) → AtMost v (pos 11) → AtMost w (pos 11)
    → Rel (b ⊗ ((v ⊖ w) ⊗ (v ⊖ w))) (value b *q ((value v -q value w) *q (value v -q value w))) (absq (value b) *q ((absq (value v) +q absq (value w)) *q (absq (value v) +q absq (value w)))) (nat (2 ^ 44)) (5 // 2 ^ 53) (1 // 2 ^ 1039)
unfolding computing
square_law b v w X Y Z =
    let d = rel_⊖ (rel_at_most Y) (rel_at_most Z) (nat (2 ^ 12)) (1 // 2 ^ 53) (1 // 2 ^ 1074) tt in
    rel_⊗ (rel_at_most X) (rel_⊗ d d (nat (2 ^ 24)) (13 // 2 ^ 55) (1 // 2 ^ 1060) tt) (nat (2 ^ 44)) (5 // 2 ^ 53) (1 // 2 ^ 1039) tt

-- ---- a sum of n values of size 1 at most, one after another: n n 2 ^ -53 away at most
sum_step : (n : ℕ) → n ≤ 2 ^ 52 → (r x : Float) (z : ℚ) → T (fits binary64 r) → T (fits binary64 x) → T (finite x) → absq (value x) ≤q nat 1
    → Est binary64 r z (nat n) (nat n *q nat n *q (1 // 2 ^ 53)) → Est binary64 (add binary64 r x) (z +q value x) (nat (suc n)) (nat (suc n) *q nat (suc n) *q (1 // 2 ^ 53))
sum_step n l r x z R X t h E =
    let N = nat n in
    let N₀ : nat 0 ≤q N = nat_≤ {a = 0} zero-le in
    let N₁ : N ≤q nat (2 ^ 52) = nat_≤ l in
    let N₂ : N *q N ≤q nat (2 ^ 52) *q N = ≤_trans (*_mono N₀ N₁) (≤_of_≈ (*_comm N (nat (2 ^ 52)))) in
    let top = linq (N ∷ []) ((qv 0 ⊑ ## (2 ^ 52) by 13510798882111488) ∷ (qv 0 ⊠ qv 0 ⊑ ## (2 ^ 52) ⊠ qv 0 by 1) ∷ []) 9007199254740991 (qv 0 ⊞ qv 0 ⊠ qv 0 ⊠ 1 ÷ 2 ^ 53 ⊞ (## 1 ⊞ ## 0)) (## (2 ^ 1023)) tt N₁ N₂ in
    let e = linq (N ∷ []) ((## 0 ⊑ qv 0 by 4503599627370496) ∷ (qv 0 ⊠ qv 0 ⊑ ## (2 ^ 52) ⊠ qv 0 by 1) ∷ []) 81129638414606681695789005144063
    (1 ÷ 2 ^ 53 ⊠ (qv 0 ⊞ qv 0 ⊠ qv 0 ⊠ 1 ÷ 2 ^ 53 ⊞ (## 1 ⊞ ## 0)) ⊞ (qv 0 ⊠ qv 0 ⊠ 1 ÷ 2 ^ 53 ⊞ ## 0)) ((qv 0 ⊞ ## 1) ⊠ (qv 0 ⊞ ## 1) ⊠ 1 ÷ 2 ^ 53) tt N₀ N₂ in
    let s : nat n +q nat 1 ≈q nat (suc n) = ≈_sym (≈_trans (nat_≡ (sym (add-one n))) (nat_+ n 1)) in
    weaken (est_add_fits binary64 E (given binary64 x t h) R X top) (≤_of_≈ s) (≤_trans e (≤_of_≈ (*_cong (*_cong s s) (≈_refl (1 // 2 ^ 53)))))
