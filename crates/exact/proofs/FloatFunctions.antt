-- The methods of f64 that specs/Float64 defines, in exact values: absolute value, maximum, sign. Each keeps finite floats finite and held by the format.
use Prim.Native.Nat.{ℕ, zero, suc, ◌*◌, ◌<◌}
use mathlib.Core.Path.{◌≡◌, refl, sym, subst}
use mathlib.Core.Logic.{◌⊎◌, inl, inr}
use mathlib.Core.Bool.{Bool, true, false, not, cond}
use native.Mathlib.Omega.{arith}
use lib.Dec.{T}
use lib.Ieee.{Float, nan, inf, fin, Format, binary64, up, down, lt, fits, is_nan, of_bits}
use lib.Ieee.Fits.{down_pos}
use lib.Ieee.Scale.{finite}
use Rattle.exact.specs.Fraction.{nat, negq, absq, maxq, ◌≤q◌, ◌<q◌, ◌≈q◌}
use Rattle.exact.specs.FloatValue.{signed, value}
use Rattle.exact.specs.Float64.{◌<f◌, +1, -1, absolute, signum, maximum}
use Rattle.exact.proofs.FractionLaws.{≈_refl, ≈_sym, ≈_trans, ≤_refl}
use Rattle.exact.proofs.StrictOrder.{≤_of_<, not_≤_of_<, nat_nonneg}
use Rattle.exact.proofs.AbsoluteValue.{abs_neg, abs_cong, abs_of_nonneg, abs_of_nonpos}
use Rattle.exact.proofs.Maximum.{max_is_l, max_is_r}
use Rattle.exact.proofs.Comparisons.{lt→<, nlt→≤}
use Rattle.exact.proofs.Constants.{value_+1, value_minus_1, constant_fits}

-- ---- absolute
pub absolute_finite : (x : Float) → T (finite x) → T (finite (absolute x))
unfolding absolute
absolute_finite nan t = t
absolute_finite (inf s) t = t
absolute_finite (fin s m e) t = tt

pub finite_of_absolute : (x : Float) → T (finite (absolute x)) → T (finite x)
unfolding absolute
finite_of_absolute nan t = t
finite_of_absolute (inf s) t = t
finite_of_absolute (fin s m e) t = tt

pub absolute_fits : (f : Format) (x : Float) → T (fits f x) → T (fits f (absolute x))
unfolding absolute fits
absolute_fits f nan t = t
absolute_fits f (inf s) t = tt
absolute_fits f (fin s zero e) t = t
absolute_fits f (fin s (suc m) e) t = t

nonneg_signed : (a c : ℕ) (C : 0 < c) → nat 0 ≤q signed false a c C
unfolding nat
nonneg_signed a c C = record { le = omega arith }

nonpos_signed : (a c : ℕ) (C : 0 < c) → signed true a c C ≤q nat 0
unfolding nat
nonpos_signed a c C = record { le = omega arith }

neg_signed : (a c : ℕ) (C : 0 < c) → signed false a c C ≈q negq (signed true a c C)
unfolding negq
neg_signed a c C = ≈_refl (signed false a c C)

pub value_absolute : (x : Float) → value (absolute x) ≈q absq (value x)
unfolding absolute value
value_absolute nan = ≈_sym (abs_of_nonneg (≤_refl (nat 0)))
value_absolute (inf s) = ≈_sym (abs_of_nonneg (≤_refl (nat 0)))
value_absolute (fin false m e) = ≈_sym (abs_of_nonneg (nonneg_signed (m * up e) (down e) (down_pos e)))
value_absolute (fin true m e) = ≈_trans (neg_signed (m * up e) (down e) (down_pos e)) (≈_sym (abs_of_nonpos (nonpos_signed (m * up e) (down e) (down_pos e))))

-- ---- maximum: of two finite floats, one of them, and it is at least both
pub maximum_is : (x y : Float) → T (not (is_nan x)) → maximum x y ≡ cond (x <f y) y x
unfolding maximum is_nan
maximum_is nan y t = absurd t
maximum_is (inf s) y t = refl
maximum_is (fin s m e) y t = refl

finite_number : (x : Float) → T (finite x) → T (not (is_nan x))
unfolding is_nan
finite_number nan t = t
finite_number (inf s) t = absurd t
finite_number (fin s m e) t = tt

module _ (x y : Float) (p : T (finite x)) (q : T (finite y)) where
  -- what holds of y where x < y, and of x otherwise
  pub maximum_by : (P : Float → Type 0) → (value x <q value y → P y) → (value y ≤q value x → P x) → P (maximum x y)
  maximum_by P f g = subst P (sym (maximum_is x y (finite_number x p))) (go (lt x y) (λ (t : T (lt x y)). f (lt→< x y p q t)) (λ (t : T (not (lt x y))). g (nlt→≤ x y p q t)))
    where
      go : (b : Bool) → (T b → P y) → (T (not b) → P x) → P (cond b y x)
      go true h k = h tt
      go false h k = k tt

  pub maximum_finite : T (finite (maximum x y))
  maximum_finite = maximum_by (λ z. T (finite z)) (λ h. q) (λ h. p)

  pub maximum_fits : (f : Format) → T (fits f x) → T (fits f y) → T (fits f (maximum x y))
  maximum_fits f a b = maximum_by (λ z. T (fits f z)) (λ h. b) (λ h. a)

  pub maximum_either : (maximum x y ≡ x) ⊎ (maximum x y ≡ y)
  maximum_either = maximum_by (λ z. (z ≡ x) ⊎ (z ≡ y)) (λ h. inr refl) (λ h. inl refl)

  pub maximum_≥_l : value x ≤q value (maximum x y)
  maximum_≥_l = maximum_by (λ z. value x ≤q value z) (λ h. ≤_of_< h) (λ h. ≤_refl (value x))

  pub maximum_≥_r : value y ≤q value (maximum x y)
  maximum_≥_r = maximum_by (λ z. value y ≤q value z) (λ h. ≤_refl (value y)) (λ h. h)

  pub value_maximum : value (maximum x y) ≈q maxq (value x) (value y)
  value_maximum = maximum_by (λ z. value z ≈q maxq (value x) (value y)) (λ h. ≈_sym (max_is_r (≤_of_< h))) (λ h. ≈_sym (max_is_l h))

-- ---- signum: ±1 by the sign
pub signum_either : (x : Float) → T (not (is_nan x)) → (signum x ≡ +1) ⊎ (signum x ≡ -1)
unfolding signum is_nan
signum_either nan t = absurd t
signum_either (inf true) t = inr refl
signum_either (inf false) t = inl refl
signum_either (fin true m e) t = inr refl
signum_either (fin false m e) t = inl refl

pub signum_of_pos : (x : Float) → T (finite x) → nat 0 <q value x → signum x ≡ +1
unfolding signum value
signum_of_pos nan t h = absurd t
signum_of_pos (inf s) t h = absurd t
signum_of_pos (fin false m e) t h = refl
signum_of_pos (fin true m e) t h = absurd (not_≤_of_< h (nonpos_signed (m * up e) (down e) (down_pos e)))

pub signum_of_neg : (x : Float) → T (finite x) → value x <q nat 0 → signum x ≡ -1
unfolding signum value
signum_of_neg nan t h = absurd t
signum_of_neg (inf s) t h = absurd t
signum_of_neg (fin true m e) t h = refl
signum_of_neg (fin false m e) t h = absurd (not_≤_of_< h (nonneg_signed (m * up e) (down e) (down_pos e)))

module _ (x : Float) (t : T (finite x)) where
  by_sign : (P : Float → Type 0) → P +1 → P -1 → P (signum x)
  by_sign P a b = elim (signum_either x (finite_number x t)) [ inl e ↦ subst P (sym e) a | inr e ↦ subst P (sym e) b ]

  pub signum_finite : T (finite (signum x))
  unfolding of_bits
  signum_finite = by_sign (λ z. T (finite z)) tt tt

  pub signum_fits : T (fits binary64 (signum x))
  signum_fits = by_sign (λ z. T (fits binary64 z)) (constant_fits 0x3ff0_0000_0000_0000) (constant_fits 0xbff0_0000_0000_0000)

  pub abs_signum : absq (value (signum x)) ≈q nat 1
  abs_signum = by_sign (λ z. absq (value z) ≈q nat 1) (≈_trans (abs_cong value_+1) one) (≈_trans (abs_cong value_minus_1) (≈_trans (abs_neg (nat 1)) one))
    where
      one : absq (nat 1) ≈q nat 1
      one = abs_of_nonneg (nat_nonneg 1)
