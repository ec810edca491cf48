-- The sign of an exponent and its size, by the tests of the code and by its value. Assumes nothing.
use mathlib.Core.Path.{◌≡◌, refl, sym, ◌∙◌, subst}
use mathlib.Core.Bool.{Bool, true, false, ◌||◌}
use mathlib.Core.List.{[], ◌∷◌}
use Prim.Native.Nat.{ℕ, zero, suc, ◌+◌, ◌*◌, ◌<◌}
use native.Mathlib.Nat.{zero-lt-suc, mul-pos}
use native.Mathlib.Omega.{arith}
use lib.Dec.{T, eqb, ltb→lt, eqb→eq}
use lib.IntN.{ℤ}
use lib.Ieee.{Float, nan, inf, fin, up, down, lt, eq, below, level, of_bits}
use lib.Ieee.Fits.{and_l, up_pos, down_pos}
use lib.Ieee.Scale.{finite}
use borrow.Author.Tests.{lt-ltb}
use Rattle.exact.specs.Fraction.{nat, negq, absq, ◌≤q◌, ◌≈q◌}
use Rattle.exact.specs.FloatValue.{value, signed}
use Rattle.exact.specs.Float64.{+0}
use Rattle.exact.proofs.FractionLaws.{≈_sym, ≤_of_≈, ≤_trans, neg_cong}
use Rattle.exact.proofs.FractionProver.{qv, ##, ⊝, linq, ◌⊑◌by◌}
use Rattle.exact.proofs.Closeness.{le_abs, neg_le_abs}
use Rattle.exact.proofs.Comparisons.{lt→≤}
use Rattle.exact.proofs.Tests.{clash}
use Rattle.exact.proofs.Rounding.{neg_finite, value_neg}
use Rattle.series.proofs.Quotients.{◌⟫◌}
use Rattle.logarithm.proofs.Accuracy.{zero_finite}
use Rattle.power.specs.Power.{four, minus_four}

strict_signed : (s t : Bool) (a c b d : ℕ) (C : 0 < c) (D : 0 < d) → T (below s (a * d) t (b * c)) → signed t b d D ≤q signed s a c C → ⊥
strict_signed false false a c b d C D h k = let l = ltb→lt (a * d) (b * c) h in let m = k.le in omega arith
strict_signed false true a c b d C D h k = absurd h
strict_signed true false a c b d C D h k = let l = ltb→lt 0 (a * d + b * c) h in let m = k.le in omega arith
strict_signed true true a c b d C D h k = let l = ltb→lt (b * c) (a * d) h in let m = k.le in omega arith

-- a smaller float has a smaller value
pub lt_strict : (x y : Float) → T (finite x) → T (finite y) → T (lt x y) → value y ≤q value x → ⊥
unfolding lt value
lt_strict nan y p q h k = absurd p
lt_strict (inf s) y p q h k = absurd p
lt_strict (fin s m e) nan p q h k = absurd q
lt_strict (fin s m e) (inf t) p q h k = absurd q
lt_strict (fin s m e) (fin t n d) p q h k = strict_signed s t (m * up e) (down e) (n * up d) (down d) (down_pos e) (down_pos d) h k

four_finite : T (finite four)
unfolding of_bits
four_finite = tt

four_value : value four ≈q nat 4
unfolding of_bits value nat
four_value = record { eq = refl }

minus_four_value : value minus_four ≈q negq (nat 4)
minus_four_value = value_neg four ⟫ neg_cong four_value

module _ (p : Float) (t : T (finite p)) (h : absq (value p) ≤q nat 4) where
  pub not_above_four : lt four p ≡ false
  not_above_four = by_test (lt four p) refl
    where
      by_test : (b : Bool) → lt four p ≡ b → b ≡ false
      by_test false e = refl
      by_test true e = absurd (lt_strict four p four_finite t (subst T (sym e) tt) (≤_trans (≤_trans (le_abs (value p)) h) (≤_of_≈ (≈_sym four_value))))

  pub not_below_four : lt p minus_four ≡ false
  not_below_four = by_test (lt p minus_four) refl
    where
      by_test : (b : Bool) → lt p minus_four ≡ b → b ≡ false
      by_test false e = refl
      by_test true e = absurd (lt_strict p minus_four t (neg_finite four four_finite) (subst T (sym e) tt)
          (≤_trans (≤_of_≈ minus_four_value) (linq (value p ∷ absq (value p) ∷ []) ((⊝ (qv 0) ⊑ qv 1 by 1) ∷ (qv 1 ⊑ ## 4 by 1) ∷ []) 0 (⊝ (## 4)) (qv 0) tt (neg_le_abs (value p)) h)))

-- ---- zero
zero_level : (s : Bool) (a b : ℕ) → a ≡ 0 → b ≡ 0 → level s a false b ≡ true
zero_level s a b p q = (λ i. level s (p i) false (q i)) ∙ at s
  where
    at : (s : Bool) → level s 0 false 0 ≡ true
    at true = refl
    at false = refl

pub equal_zero : (x : Float) → eq x +0 ≡ true → value x ≈q nat 0
unfolding eq value nat of_bits
equal_zero nan e = absurd (subst T (sym e) tt)
equal_zero (inf s) e = absurd (subst T (sym e) tt)
equal_zero (fin false m d) e = record { eq = plain (m * up d) (down d) (eqb→eq (m * up d * 1) (0 * 1 * down d) (and_l (eqb (m * up d * 1) (0 * 1 * down d)) (true || eqb (m * up d * 1) 0) (subst T (sym e) tt))) }
  where
    plain : (a c : ℕ) → a * 1 ≡ 0 * 1 * c → a * 1 + 0 * c ≡ 0 * c + 0 * 1
    plain a c e = omega arith
equal_zero (fin true m d) e = record { eq = plain (m * up d) (down d) (eqb→eq (m * up d * 1) (0 * 1 * down d) (and_l (eqb (m * up d * 1) (0 * 1 * down d)) (false || eqb (m * up d * 1) 0) (subst T (sym e) tt))) }
  where
    plain : (a c : ℕ) → a * 1 ≡ 0 * 1 * c → 0 * 1 + 0 * c ≡ 0 * c + a * 1
    plain a c e = omega arith

-- a finite number that is not zero has one of two signs
pub data SignOf (p : Float) : Type 0 where
  above_0 : lt +0 p ≡ true → lt p +0 ≡ false → SignOf p
  below_0 : lt +0 p ≡ false → lt p +0 ≡ true → SignOf p

first : (m u d : ℕ) → 0 < m → 0 < u → 0 * 1 * d < m * u * 1
first m u d h k = omega (arith, mul-pos h k)

first' : (m u d : ℕ) → 0 < m → 0 < u → 0 < m * u * 1 + 0 * 1 * d
first' m u d h k = omega (arith, mul-pos h k)

not_both : (p : Float) → T (finite p) → lt +0 p ≡ true → lt p +0 ≡ true → ⊥
not_both p t e f = lt_strict +0 p zero_finite t (subst T (sym e) tt) (lt→≤ p +0 t zero_finite (subst T (sym f) tt))

pub opposite : (p : Float) → T (finite p) → lt +0 p ≡ true → lt p +0 ≡ false
opposite p t e = by_test (lt p +0) refl
  where
    by_test : (b : Bool) → lt p +0 ≡ b → b ≡ false
    by_test false f = refl
    by_test true f = absurd (not_both p t e f)

opposite' : (p : Float) → T (finite p) → lt p +0 ≡ true → lt +0 p ≡ false
opposite' p t e = by_test (lt +0 p) refl
  where
    by_test : (b : Bool) → lt +0 p ≡ b → b ≡ false
    by_test false f = refl
    by_test true f = absurd (not_both p t f e)

pub plus_above : (m : ℕ) (d : ℤ) → lt +0 (fin false (suc m) d) ≡ true
unfolding lt of_bits
plus_above m d = lt-ltb (0 * 1 * down d) (suc m * up d * 1) (first (suc m) (up d) (down d) (zero-lt-suc m) (up_pos d))

pub minus_below : (m : ℕ) (d : ℤ) → lt (fin true (suc m) d) +0 ≡ true
unfolding lt of_bits
minus_below m d = lt-ltb 0 (suc m * up d * 1 + 0 * 1 * down d) (first' (suc m) (up d) (down d) (zero-lt-suc m) (up_pos d))

pub zero_equal : (s : Bool) (d : ℤ) → eq (fin s zero d) +0 ≡ true
unfolding eq of_bits
zero_equal s d = zero_level s (0 * up d * 1) (0 * 1 * down d) (none (up d)) (none' (down d))
  where
    none : (u : ℕ) → 0 * u * 1 ≡ 0
    none u = omega arith

    none' : (d : ℕ) → 0 * 1 * d ≡ 0
    none' d = omega arith

pub sign_of_exponent : (p : Float) → T (finite p) → eq p +0 ≡ false → SignOf p
sign_of_exponent nan t e = absurd t
sign_of_exponent (inf s) t e = absurd t
sign_of_exponent (fin s zero d) t e = clash (sym (zero_equal s d) ∙ e)
sign_of_exponent (fin false (suc m) d) t e = above_0 (plus_above m d) (opposite (fin false (suc m) d) t (plus_above m d))
sign_of_exponent (fin true (suc m) d) t e = below_0 (opposite' (fin true (suc m) d) t (minus_below m d)) (minus_below m d)
