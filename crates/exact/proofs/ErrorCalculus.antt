-- A forward error analysis, step by step. `Est f x z B e` says that x is finite, that the exact value z that it stands for is at most B in size, and that x is at most e away from z.
-- A law for each operation, with its bounds as formulas; at the end the same for binary64 with closed bounds, where one test computes: `est_⊗ X Y B e tt`.
use Prim.Native.Nat.{ℕ, ◌^◌}
use mathlib.Core.Bool.{Bool, ◌&&◌}
use mathlib.Core.List.{[], ◌∷◌}
use lib.Dec.{T}
use lib.IntN.{ℤ}
use lib.Ieee.{Float, Format, binary64, emax, prec, neg, add, sub, mul, div, fits, of_bits}
use lib.Ieee.Scale.{finite}
use Rattle.exact.specs.Fraction.{ℚ, ◌//◌, nat, ◌+q◌, negq, ◌-q◌, ◌*q◌, ◌/q◌, absq, maxq, ◌≤q◌, ◌<q◌, ◌≈q◌, Within, leqb, ltqb}
use Rattle.exact.specs.FloatValue.{value, eps, tiny}
use Rattle.exact.specs.Float64.{◌⊕◌, ◌⊖◌, ◌⊗◌, ◌⊘◌, absolute, maximum}
use Rattle.exact.specs.Size.{exp2, AtMost}
use Rattle.exact.proofs.NatProver.{and_l, and_r}
use Rattle.exact.proofs.FractionLaws.{≈_refl, ≈_sym, ≤_of_≈, ≤_refl, ≤_trans, +_mono, *_mono, lit_≤}
use Rattle.exact.proofs.FractionProver.{qv, ##, ◌⊞◌, ◌⊟◌, linq, ◌⊑◌by◌}
use Rattle.exact.proofs.StrictOrder.{<_≤_trans, lit_<}
use Rattle.exact.proofs.AbsoluteValue.{abs_nonneg, abs_cong, abs_neg, abs_abs, not_zero_of_abs}
use Rattle.exact.proofs.Maximum.{max_by, ≤_max_l, ≤_max_r}
use Rattle.exact.proofs.Closeness.{abs_*_le, abs_+_le, abs_minus_le, abs_of_within, within_refl, within_sym, within_trans, within_+, within_minus, within_*, within_mono, within_≈, within_nonneg, within_abs_abs, within_max, *_mono₂}
use Rattle.exact.proofs.FractionDivision.{abs_div_le, within_div}
use Rattle.exact.proofs.Rounding.{Rounded, OnGrid, near, near_grid, finite_of, mul_rounded, add_rounded, sub_rounded, div_rounded_q, frac_nonneg, fits_grid, grid_+, grid_minus, value_neg, neg_finite, within_neg}
use Rattle.exact.proofs.FloatFunctions.{absolute_finite, value_absolute, maximum_finite, value_maximum}

pub record Est (f : Format) (x : Float) (z B e : ℚ) : Type 0 where
  pub fin : T (finite x)
  pub size : absq z ≤q B
  pub close : Within (value x) z e

pub est_size : {f : Format} {x : Float} {z B e : ℚ} → Est f x z B e → absq (value x) ≤q B +q e
est_size E = abs_of_within E.close E.size

pub weaken : {f : Format} {x : Float} {z B e C g : ℚ} → Est f x z B e → B ≤q C → e ≤q g → Est f x z C g
weaken E b e = record { fin = E.fin; size = ≤_trans E.size b; close = within_mono E.close e }

pub est_≈ : {f : Format} {x : Float} {z w B e : ℚ} → Est f x z B e → z ≈q w → Est f x w B e
est_≈ {x = x} E h = record { fin = E.fin; size = ≤_trans (≤_of_≈ (abs_cong (≈_sym h))) E.size; close = within_≈ (≈_refl (value x)) h E.close }

-- a value that is given
pub given : (f : Format) (x : Float) {B : ℚ} → T (finite x) → absq (value x) ≤q B → Est f x (value x) B (nat 0)
given f x t h = record { fin = t; size = h; close = within_refl (value x) }

pub given_at_most : {x : Float} {a : ℤ} → AtMost x a → Est binary64 x (value x) (exp2 a) (nat 0)
given_at_most {x} X = given binary64 x X.fin X.size

-- ---- a result: what is rounded, y, is at most M in size, and at most d away from z
pub est_rounded : (f : Format) (r : Float) (y z B M d : ℚ) → Rounded f r y → absq z ≤q B → absq y ≤q M → M ≤q nat (2 ^ emax f) → Within y z d → Est f r z B (eps f *q M +q tiny f +q d)
est_rounded f r y z B M d R b m l w =
    let t = finite_of f r y R (≤_trans m l) in
    record {
      fin = t;
      size = b;
      close = within_trans (within_mono (near f r y R t) (+_mono (*_mono (frac_nonneg 1 (2 ^ prec f)) m) (≤_refl (tiny f)))) w;
    }

-- and a whole number of the format's smallest values: with no `tiny`
pub est_rounded_grid : (f : Format) (r : Float) (y z B M d : ℚ) → Rounded f r y → OnGrid f y → absq z ≤q B → absq y ≤q M → M ≤q nat (2 ^ emax f) → Within y z d → Est f r z B (eps f *q M +q d)
est_rounded_grid f r y z B M d R g b m l w =
    let t = finite_of f r y R (≤_trans m l) in
    record {
      fin = t;
      size = b;
      close = within_trans (within_mono (near_grid f r y R g t) (*_mono (frac_nonneg 1 (2 ^ prec f)) m)) w;
    }

-- ---- the operations
module _ (f : Format) {x y : Float} {z w B C e g : ℚ} (X : Est f x z B e) (Y : Est f y w C g) where
  pub est_add : (B +q e) +q (C +q g) ≤q nat (2 ^ emax f) → Est f (add f x y) (z +q w) (B +q C) (eps f *q ((B +q e) +q (C +q g)) +q tiny f +q (e +q g))
  est_add l =
      est_rounded f (add f x y) (value x +q value y) (z +q w) (B +q C) ((B +q e) +q (C +q g)) (e +q g) (add_rounded f x y X.fin Y.fin)
      (abs_+_le z w X.size Y.size) (abs_+_le (value x) (value y) (est_size X) (est_size Y)) l (within_+ X.close Y.close)

  pub est_sub : (B +q e) +q (C +q g) ≤q nat (2 ^ emax f) → Est f (sub f x y) (z -q w) (B +q C) (eps f *q ((B +q e) +q (C +q g)) +q tiny f +q (e +q g))
  est_sub l =
      est_rounded f (sub f x y) (value x -q value y) (z -q w) (B +q C) ((B +q e) +q (C +q g)) (e +q g) (sub_rounded f x y X.fin Y.fin)
      (abs_minus_le z w X.size Y.size) (abs_minus_le (value x) (value y) (est_size X) (est_size Y)) l (within_minus X.close Y.close)

  -- of two values that the format holds, with no `tiny`
  pub est_add_fits : T (fits f x) → T (fits f y) → (B +q e) +q (C +q g) ≤q nat (2 ^ emax f) → Est f (add f x y) (z +q w) (B +q C) (eps f *q ((B +q e) +q (C +q g)) +q (e +q g))
  est_add_fits a b l =
      est_rounded_grid f (add f x y) (value x +q value y) (z +q w) (B +q C) ((B +q e) +q (C +q g)) (e +q g) (add_rounded f x y X.fin Y.fin) (grid_+ (fits_grid f x X.fin a) (fits_grid f y Y.fin b))
      (abs_+_le z w X.size Y.size) (abs_+_le (value x) (value y) (est_size X) (est_size Y)) l (within_+ X.close Y.close)

  pub est_sub_fits : T (fits f x) → T (fits f y) → (B +q e) +q (C +q g) ≤q nat (2 ^ emax f) → Est f (sub f x y) (z -q w) (B +q C) (eps f *q ((B +q e) +q (C +q g)) +q (e +q g))
  est_sub_fits a b l =
      est_rounded_grid f (sub f x y) (value x -q value y) (z -q w) (B +q C) ((B +q e) +q (C +q g)) (e +q g) (sub_rounded f x y X.fin Y.fin) (grid_minus (fits_grid f x X.fin a) (fits_grid f y Y.fin b))
      (abs_minus_le z w X.size Y.size) (abs_minus_le (value x) (value y) (est_size X) (est_size Y)) l (within_minus X.close Y.close)

  pub est_mul : (B +q e) *q (C +q g) ≤q nat (2 ^ emax f) → Est f (mul f x y) (z *q w) (B *q C) (eps f *q ((B +q e) *q (C +q g)) +q tiny f +q ((B +q e) *q g +q C *q e))
  est_mul l =
      est_rounded f (mul f x y) (value x *q value y) (z *q w) (B *q C) ((B +q e) *q (C +q g)) ((B +q e) *q g +q C *q e) (mul_rounded f x y X.fin Y.fin)
      (abs_*_le z w X.size Y.size) (abs_*_le (value x) (value y) (est_size X) (est_size Y)) l
      (within_mono (within_* X.close Y.close)
      (+_mono (*_mono₂ (abs_nonneg (value x)) (within_nonneg Y.close) (est_size X) (≤_refl g)) (*_mono₂ (abs_nonneg w) (within_nonneg X.close) Y.size (≤_refl e))))

  -- b ≤ |w|, and more than y's error
  pub est_div : (b : ℚ) → nat 0 <q b -q g → b ≤q absq w → (B +q e) /q (b -q g) ≤q nat (2 ^ emax f)
      → Est f (div f x y) (z /q w) (B /q b) (eps f *q ((B +q e) /q (b -q g)) +q tiny f +q (e +q B /q b *q g) /q (b -q g))
  est_div b p h l =
      let G = within_nonneg Y.close in
      let b_pos : nat 0 <q b = <_≤_trans p (linq (b ∷ g ∷ []) ((## 0 ⊑ qv 1 by 1) ∷ []) 0 (qv 0 ⊟ qv 1) (qv 0) tt G) in
      -- b - g ≤ |y|
      let m : b -q g ≤q absq (value y) = linq (b ∷ g ∷ absq w ∷ absq (value y) ∷ []) ((qv 0 ⊑ qv 2 by 1) ∷ (qv 2 ⊑ qv 3 ⊞ qv 1 by 1) ∷ []) 0 (qv 0 ⊟ qv 1) (qv 3) tt h (abs_of_within (within_sym Y.close) (≤_refl (absq (value y)))) in
      let nw = not_zero_of_abs (<_≤_trans b_pos h) in
      let s = abs_div_le z w b_pos X.size h in
      est_rounded f (div f x y) (value x /q value y) (z /q w) (B /q b) ((B +q e) /q (b -q g)) ((e +q B /q b *q g) /q (b -q g)) (div_rounded_q f x y X.fin Y.fin (not_zero_of_abs (<_≤_trans p m)))
      s (abs_div_le (value x) (value y) p (est_size X) m) l (within_div p m nw s X.close Y.close)

  pub est_maximum : Est f (maximum x y) (maxq z w) (maxq B C) (maxq e g)
  est_maximum = record {
    fin = maximum_finite x y X.fin Y.fin;
    size = max_by (λ v. absq v ≤q maxq B C) z w (λ h. ≤_trans Y.size (≤_max_r B C)) (λ h. ≤_trans X.size (≤_max_l B C));
    close = within_≈ (≈_sym (value_maximum x y X.fin Y.fin)) (≈_refl (maxq z w)) (within_max X.close Y.close);
  }

-- with no error of their own
pub est_neg : (f : Format) {x : Float} {z B e : ℚ} → Est f x z B e → Est f (neg x) (negq z) B e
est_neg f {x} {z} X = record { fin = neg_finite x X.fin; size = ≤_trans (≤_of_≈ (abs_neg z)) X.size; close = within_≈ (≈_sym (value_neg x)) (≈_refl (negq z)) (within_neg X.close) }

pub est_absolute : (f : Format) {x : Float} {z B e : ℚ} → Est f x z B e → Est f (absolute x) (absq z) B e
est_absolute f {x} {z} X = record { fin = absolute_finite x X.fin; size = ≤_trans (≤_of_≈ (abs_abs z)) X.size; close = within_≈ (≈_sym (value_absolute x)) (≈_refl (absq z)) (within_abs_abs X.close) }

-- ---- closed bounds, for binary64: one test says that nothing overflows, that D bounds the size and that d bounds the error
three : (a b c : Bool) → T (a && (b && c)) → T a × T b × T c
three a b c t = let u = and_r a (b && c) t in (and_l a (b && c) t, and_l b c u, and_r b c u)

abbrev top : ℚ
top = nat (2 ^ emax binary64)

abbrev sum_error : ℚ → ℚ → ℚ → ℚ → ℚ
sum_error B e C g = eps binary64 *q ((B +q e) +q (C +q g)) +q (e +q g)

abbrev sum_error_tiny : ℚ → ℚ → ℚ → ℚ → ℚ
sum_error_tiny B e C g = eps binary64 *q ((B +q e) +q (C +q g)) +q tiny binary64 +q (e +q g)

abbrev product_error : ℚ → ℚ → ℚ → ℚ → ℚ
product_error B e C g = eps binary64 *q ((B +q e) *q (C +q g)) +q tiny binary64 +q ((B +q e) *q g +q C *q e)

abbrev quotient_error : ℚ → ℚ → ℚ → ℚ → ℚ
quotient_error B e b g = eps binary64 *q ((B +q e) /q (b -q g)) +q tiny binary64 +q (e +q B /q b *q g) /q (b -q g)

unfoldable pub sum_test : (B e C g D d : ℚ) → Bool
unfolding leqb nat ◌//◌ ◌+q◌ ◌*q◌
sum_test B e C g D d = leqb ((B +q e) +q (C +q g)) top && (leqb (B +q C) D && leqb (sum_error_tiny B e C g) d)

unfoldable pub sum_fits_test : (B e C g D d : ℚ) → Bool
unfolding leqb nat ◌//◌ ◌+q◌ ◌*q◌
sum_fits_test B e C g D d = leqb ((B +q e) +q (C +q g)) top && (leqb (B +q C) D && leqb (sum_error B e C g) d)

unfoldable pub product_test : (B e C g D d : ℚ) → Bool
unfolding leqb nat ◌//◌ ◌+q◌ ◌*q◌
product_test B e C g D d = leqb ((B +q e) *q (C +q g)) top && (leqb (B *q C) D && leqb (product_error B e C g) d)

unfoldable pub quotient_test : (B e b g D d : ℚ) → Bool
unfolding leqb ltqb nat ◌//◌ ◌+q◌ ◌-q◌ ◌*q◌ ◌/q◌
quotient_test B e b g D d = ltqb (nat 0) (b -q g) && (leqb ((B +q e) /q (b -q g)) top && (leqb (B /q b) D && leqb (quotient_error B e b g) d))

module _ {x y : Float} {z w B C e g : ℚ} (X : Est binary64 x z B e) (Y : Est binary64 y w C g) (D d : ℚ) where
  pub est_⊕ : T (sum_test B e C g D d) → Est binary64 (x ⊕ y) (z +q w) D d
  unfolding sum_test
  est_⊕ t = let (o, s, r) = three (leqb ((B +q e) +q (C +q g)) top) (leqb (B +q C) D) (leqb (sum_error_tiny B e C g) d) t in weaken (est_add binary64 X Y (lit_≤ o)) (lit_≤ s) (lit_≤ r)

  pub est_⊖ : T (sum_test B e C g D d) → Est binary64 (x ⊖ y) (z -q w) D d
  unfolding sum_test
  est_⊖ t = let (o, s, r) = three (leqb ((B +q e) +q (C +q g)) top) (leqb (B +q C) D) (leqb (sum_error_tiny B e C g) d) t in weaken (est_sub binary64 X Y (lit_≤ o)) (lit_≤ s) (lit_≤ r)

  pub est_⊕_fits : T (fits binary64 x) → T (fits binary64 y) → T (sum_fits_test B e C g D d) → Est binary64 (x ⊕ y) (z +q w) D d
  unfolding sum_fits_test
  est_⊕_fits p q t = let (o, s, r) = three (leqb ((B +q e) +q (C +q g)) top) (leqb (B +q C) D) (leqb (sum_error B e C g) d) t in weaken (est_add_fits binary64 X Y p q (lit_≤ o)) (lit_≤ s) (lit_≤ r)

  pub est_⊖_fits : T (fits binary64 x) → T (fits binary64 y) → T (sum_fits_test B e C g D d) → Est binary64 (x ⊖ y) (z -q w) D d
  unfolding sum_fits_test
  est_⊖_fits p q t = let (o, s, r) = three (leqb ((B +q e) +q (C +q g)) top) (leqb (B +q C) D) (leqb (sum_error B e C g) d) t in weaken (est_sub_fits binary64 X Y p q (lit_≤ o)) (lit_≤ s) (lit_≤ r)

  pub est_⊗ : T (product_test B e C g D d) → Est binary64 (x ⊗ y) (z *q w) D d
  unfolding product_test
  est_⊗ t = let (o, s, r) = three (leqb ((B +q e) *q (C +q g)) top) (leqb (B *q C) D) (leqb (product_error B e C g) d) t in weaken (est_mul binary64 X Y (lit_≤ o)) (lit_≤ s) (lit_≤ r)

  -- by a divisor w with b ≤ |w|
  pub est_⊘ : (b : ℚ) → b ≤q absq w → T (quotient_test B e b g D d) → Est binary64 (x ⊘ y) (z /q w) D d
  unfolding quotient_test
  est_⊘ b h t =
      let rest = leqb ((B +q e) /q (b -q g)) top && (leqb (B /q b) D && leqb (quotient_error B e b g) d) in
      let (o, s, r) = three (leqb ((B +q e) /q (b -q g)) top) (leqb (B /q b) D) (leqb (quotient_error B e b g) d) (and_r (ltqb (nat 0) (b -q g)) rest t) in
      weaken (est_div binary64 X Y b (lit_< (and_l (ltqb (nat 0) (b -q g)) rest t)) h (lit_≤ o)) (lit_≤ s) (lit_≤ r)

-- a constant for z, which need not be a float: |z| ≤ B, and the float is within e of it
unfoldable pub literal_test : ℕ → (z B e : ℚ) → Bool
unfolding of_bits value leqb absq nat ◌//◌ negq ◌-q◌
literal_test n z B e = (finite (of_bits binary64 n) && leqb (absq z) B) && (leqb (value (of_bits binary64 n) -q z) e && leqb (z -q value (of_bits binary64 n)) e)

pub est_literal : (n : ℕ) (z B e : ℚ) → T (literal_test n z B e) → Est binary64 (of_bits binary64 n) z B e
unfolding literal_test
est_literal n z B e t =
    let x = of_bits binary64 n in
    let a = finite x && leqb (absq z) B in let b = leqb (value x -q z) e && leqb (z -q value x) e in
    record {
      fin = and_l (finite x) (leqb (absq z) B) (and_l a b t);
      size = lit_≤ (and_r (finite x) (leqb (absq z) B) (and_l a b t));
      close = record { above = lit_≤ (and_l (leqb (value x -q z) e) (leqb (z -q value x) e) (and_r a b t)); below = lit_≤ (and_r (leqb (value x -q z) e) (leqb (z -q value x) e) (and_r a b t)) };
    }
