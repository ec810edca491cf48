-- The numbers that a format holds: at most `prec` digits, times a power of two from the smallest value on, below 2 ^ (emax + 1).
-- A float that fits is one, so is each power of two in the range; a closed fraction is tested by computation. An operation whose exact result is one makes no error.
use Prim.Native.Nat.{ℕ, zero, suc, ◌+◌, ◌-◌, ◌*◌, ◌/◌, ◌%◌, ◌^◌, ◌≤◌, ◌<◌}
use mathlib.Core.Path.{◌≡◌, sym, ap, ◌∙◌, subst}
use mathlib.Core.List.{[], ◌∷◌}
use mathlib.Core.Bool.{Bool, true, false, not, ◌&&◌}
use native.Mathlib.Nat.{le_trans, le_of_eq, lt_of_lt_of_le, lt_of_le_of_lt, lt_of_mul-lt-mul_right, mul-lt-mul_of_pos_right, mul-one, one-mul}
use native.Mathlib.Omega.{arith}
use lib.Dec.{T, leb, ltb, eqb, leb→le, ltb→lt, nltb→le, eqb→eq, lit≤}
use lib.Pow.{pow-add, pow_pos, pow_mono}
use lib.IntN.{ℤ, pos, negsuc}
use lib.Ieee.{Float, nan, inf, fin, Format, binary64, prec, emax, low, up, down, size, add, sub, mul, div, fits}
use lib.Ieee.Fits.{down_pos, kept-lt}
use lib.Ieee.Scale.{finite, overflow}
use Rattle.exact.specs.Fraction.{ℚ, nat, ◌+q◌, negq, ◌-q◌, ◌*q◌, ◌/q◌, ◌≈q◌}
use Rattle.exact.specs.FloatValue.{signed, value}
use Rattle.exact.proofs.NatProver.{and_l, and_r}
use Rattle.exact.proofs.FractionLaws.{≈_refl, ≈_trans, +_cong, *_cong, *_cong_r, one_*, neg_cong}
use Rattle.exact.proofs.FractionProver.{qv, ##, ◌⊞◌, ◌⊠◌, ⊝, req}
use Rattle.exact.proofs.Rounding.{Rounded, signed_not, rounded_≈, add_rounded, sub_rounded, mul_rounded, div_rounded_q, pow_le_inv}
use Rattle.exact.proofs.ExactResults.{exact_of}

-- ±digits * 2 ^ place of the format's smallest values
pub record Representable (f : Format) (z : ℚ) : Type 0 where
  pub sign : Bool
  pub digits : ℕ
  pub place : ℕ
  pub few : digits < 2 ^ prec f
  pub small : digits * 2 ^ place < overflow f
  pub is : signed sign (digits * 2 ^ place) (2 ^ low f) (pow_pos (low f)) ≈q z

pub representable_≈ : {f : Format} {z w : ℚ} → Representable f z → z ≈q w → Representable f w
representable_≈ h e = record { sign = h.sign; digits = h.digits; place = h.place; few = h.few; small = h.small; is = ≈_trans h.is e }

pub representable_neg : {f : Format} {z : ℚ} → Representable f z → Representable f (negq z)
representable_neg {f} h = record {
  sign = not h.sign;
  digits = h.digits;
  place = h.place;
  few = h.few;
  small = h.small;
  is = ≈_trans (signed_not h.sign (h.digits * 2 ^ h.place) (2 ^ low f) (pow_pos (low f))) (neg_cong h.is);
}

-- ---- no error
pub rounded_exact : {f : Format} {x : Float} {z : ℚ} → Rounded f x z → Representable f z → T (finite x) × (value x ≈q z)
rounded_exact {f} {x} {z} r h = exact_of f x z r h.sign h.digits h.place h.few h.small h.is

module _ (f : Format) (x y : Float) (p : T (finite x)) (q : T (finite y)) where
  pub add_exact : Representable f (value x +q value y) → T (finite (add f x y)) × (value (add f x y) ≈q value x +q value y)
  add_exact h = rounded_exact (add_rounded f x y p q) h

  pub sub_exact : Representable f (value x -q value y) → T (finite (sub f x y)) × (value (sub f x y) ≈q value x -q value y)
  sub_exact h = rounded_exact (sub_rounded f x y p q) h

  pub mul_exact : Representable f (value x *q value y) → T (finite (mul f x y)) × (value (mul f x y) ≈q value x *q value y)
  mul_exact h = rounded_exact (mul_rounded f x y p q) h

  pub div_exact : ¬ (value y ≈q nat 0) → Representable f (value x /q value y) → T (finite (div f x y)) × (value (div f x y) ≈q value x /q value y)
  div_exact n h = rounded_exact (div_rounded_q f x y p q n) h

-- ---- which numbers
-- 2 ^ e is 2 ^ j of the smallest values
place_of : (e : ℤ) (l : ℕ) → down e ≤ 2 ^ l → (j : ℕ) × (up e * 2 ^ l ≡ 2 ^ j * down e)
place_of (pos k) l h = (k + l, sym (pow-add 2 k l) ∙ sym (mul-one (2 ^ (k + l))))
place_of (negsuc k) l h = (l - suc k, one-mul (2 ^ l) ∙ sym (sym (pow-add 2 (l - suc k) (suc k)) ∙ ap (λ (t : ℕ). 2 ^ t) (back l (suc k) (pow_le_inv (suc k) l h))))
  where
    back : (a b : ℕ) → b ≤ a → a - b + b ≡ a
    back a b h = omega arith

signed_same : (s : Bool) (a c b d : ℕ) (C : 0 < c) (D : 0 < d) → a * d ≡ b * c → signed s a c C ≈q signed s b d D
signed_same true a c b d C D e = record { eq = omega arith }
signed_same false a c b d C D e = record { eq = omega arith }

-- m 2 ^ e
pub scaled_representable : (f : Format) (s : Bool) (m : ℕ) (e : ℤ) → m < 2 ^ prec f → down e ≤ 2 ^ low f → m * up e < 2 ^ suc (emax f) * down e → Representable f (signed s (m * up e) (down e) (down_pos e))
scaled_representable f s m e a b c =
    let (j, g) = place_of e (low f) b in record {
      sign = s;
      digits = m;
      place = j;
      few = a;
      small = in_range m (up e) (down e) (2 ^ j) (2 ^ low f) (2 ^ suc (emax f)) (2 ^ (low f + suc (emax f))) (down_pos e) (pow_pos (low f)) g (pow-add 2 (low f) (suc (emax f))) c;
      is = signed_same s (m * 2 ^ j) (2 ^ low f) (m * up e) (down e) (pow_pos (low f)) (down_pos e) (same m (up e) (down e) (2 ^ j) (2 ^ low f) g);
    }
  where
    same : (m u d j l : ℕ) → u * l ≡ j * d → m * j * d ≡ m * u * l
    same m u d j l g = omega (arith, ap (λ (t : ℕ). m * t) g)

    in_range : (m u d j l t o : ℕ) → 0 < d → 0 < l → u * l ≡ j * d → o ≡ l * t → m * u < t * d → m * j < o
    in_range m u d j l t o D L g e c = lt_of_mul-lt-mul_right d (lt_of_le_of_lt (le_of_eq (same m u d j l g)) (lt_of_lt_of_le (mul-lt-mul_of_pos_right c L) (le_of_eq (omega (arith, ap (λ (k : ℕ). k * d) e)))))

pub fits_representable : (f : Format) (x : Float) → T (finite x) → T (fits f x) → Representable f (value x)
unfolding fits value
fits_representable f nan t h = absurd t
fits_representable f (inf s) t h = absurd t
fits_representable f (fin s zero e) t h = record { sign = s; digits = 0; place = 0; few = pow_pos (prec f); small = pow_pos (low f + suc (emax f)); is = signed_same s 0 (2 ^ low f) (0 * up e) (down e) (pow_pos (low f)) (down_pos e) (omega arith) }
fits_representable f (fin s (suc m) e) t h =
    let a = eqb (suc m % 2) 1 in let b = ltb (suc m) (2 ^ prec f) in let c = leb (down e) (2 ^ low f) in let d = ltb (suc m * up e) (2 ^ suc (emax f) * down e) in
    scaled_representable f s (suc m) e (ltb→lt (suc m) (2 ^ prec f) (and_r a b (and_l (a && b) c (and_l (a && b && c) d h)))) (leb→le (down e) (2 ^ low f) (and_r (a && b) c (and_l (a && b && c) d h))) (ltb→lt (suc m * up e) (2 ^ suc (emax f) * down e) (and_r (a && b && c) d h))

-- ---- times ±1 and plus 0
module _ (f : Format) (x c : Float) (p : T (finite x)) (i : T (fits f x)) (q : T (finite c)) where
  pub mul_one_exact : value c ≈q nat 1 → T (finite (mul f x c)) × (value (mul f x c) ≈q value x)
  mul_one_exact h = rounded_exact (rounded_≈ (mul_rounded f x c p q) (≈_trans (*_cong_r (value x) h) (req (value x ∷ []) (qv 0 ⊠ ## 1) (qv 0) tt tt))) (fits_representable f x p i)

  pub one_mul_exact : value c ≈q nat 1 → T (finite (mul f c x)) × (value (mul f c x) ≈q value x)
  one_mul_exact h = rounded_exact (rounded_≈ (mul_rounded f c x q p) (≈_trans (*_cong h (≈_refl (value x))) (one_* (value x)))) (fits_representable f x p i)

  pub mul_minus_one_exact : value c ≈q negq (nat 1) → T (finite (mul f x c)) × (value (mul f x c) ≈q negq (value x))
  mul_minus_one_exact h = rounded_exact (rounded_≈ (mul_rounded f x c p q) (≈_trans (*_cong_r (value x) h) (req (value x ∷ []) (qv 0 ⊠ ⊝ (## 1)) (⊝ (qv 0)) tt tt))) (representable_neg (fits_representable f x p i))

  pub minus_one_mul_exact : value c ≈q negq (nat 1) → T (finite (mul f c x)) × (value (mul f c x) ≈q negq (value x))
  minus_one_mul_exact h = rounded_exact (rounded_≈ (mul_rounded f c x q p) (≈_trans (*_cong h (≈_refl (value x))) (req (value x ∷ []) (⊝ (## 1) ⊠ qv 0) (⊝ (qv 0)) tt tt))) (representable_neg (fits_representable f x p i))

  pub add_zero_exact : value c ≈q nat 0 → T (finite (add f x c)) × (value (add f x c) ≈q value x)
  add_zero_exact h = rounded_exact (rounded_≈ (add_rounded f x c p q) (≈_trans (+_cong (≈_refl (value x)) h) (req (value x ∷ []) (qv 0 ⊞ ## 0) (qv 0) tt tt))) (fits_representable f x p i)

-- whole numbers below 2 ^ 53
pub nat_representable : (f : Format) (n : ℕ) → n < 2 ^ prec f → Representable f (nat n)
unfolding nat
nat_representable f n h = representable_≈ (scaled_representable f false n (pos 0) h (pow_mono {i = 0} (omega arith)) (le_trans (le_of_eq (ap suc (mul-one n))) (le_trans h (le_trans (pow_mono (wide f)) (le_of_eq (sym (mul-one (2 ^ suc (emax f))))))))) (record { eq = omega arith })
  where
    wide : (f : Format) → prec f ≤ suc (emax f)
    wide lib.Ieee.Format.binary32 = lit≤ tt
    wide lib.Ieee.Format.binary64 = lit≤ tt

-- ---- a closed fraction, by computation
-- n / d in units of the smallest value: a whole number w, whose last digits beyond `prec` are zeros
unfoldable pub representable_test : Format → ℚ → Bool
unfolding size
representable_test f z =
    let n = z.p - z.q + (z.q - z.p) in
    let w = n * 2 ^ low f / z.d in
    let k = size w - prec f in
    eqb (w * z.d) (n * 2 ^ low f) && (eqb (w / 2 ^ k * 2 ^ k) w && ltb w (overflow f))

pub representable : {f : Format} {z : ℚ} → T (representable_test f z) → Representable f z
unfolding representable_test
representable {f} {z} t =
    let n = z.p - z.q + (z.q - z.p) in
    let w = n * 2 ^ low f / z.d in
    let k = size w - prec f in
    let a = eqb (w * z.d) (n * 2 ^ low f) in let b = eqb (w / 2 ^ k * 2 ^ k) w in let c = ltb w (overflow f) in
    let e : w * z.d ≡ n * 2 ^ low f = eqb→eq (w * z.d) (n * 2 ^ low f) (and_l a (b && c) t) in
    let g : w / 2 ^ k * 2 ^ k ≡ w = eqb→eq (w / 2 ^ k * 2 ^ k) w (and_l b c (and_r a (b && c) t)) in
    record {
      sign = ltb z.p z.q;
      digits = w / 2 ^ k;
      place = k;
      few = kept-lt (prec f) w;
      small = lt_of_le_of_lt (le_of_eq g) (ltb→lt w (overflow f) (and_r b c (and_r a (b && c) t)));
      is = subst (λ (v : ℕ). signed (ltb z.p z.q) v (2 ^ low f) (pow_pos (low f)) ≈q z) (sym g) (by_sign (ltb z.p z.q) (ltb→lt z.p z.q) (nltb→le z.p z.q) w e);
    }
  where
    above : (n p q d u w : ℕ) → n + q ≡ p → w * d ≡ n * u → w * d + q * u ≡ p * u + 0 * d
    above n p q d u w i e = omega (arith, ap (λ (t : ℕ). t * u) i)

    below : (n p q d u w : ℕ) → n + p ≡ q → w * d ≡ n * u → 0 * d + q * u ≡ p * u + w * d
    below n p q d u w i e = omega (arith, ap (λ (t : ℕ). t * u) i)

    by_sign : (s : Bool) → (T s → z.p < z.q) → (T (not s) → z.q ≤ z.p) → (w : ℕ) → w * z.d ≡ (z.p - z.q + (z.q - z.p)) * 2 ^ low f → signed s w (2 ^ low f) (pow_pos (low f)) ≈q z
    by_sign true h g w e = let l = h tt in record { eq = below (z.p - z.q + (z.q - z.p)) z.p z.q z.d (2 ^ low f) w (omega arith) e }
    by_sign false h g w e = let l = g tt in record { eq = above (z.p - z.q + (z.q - z.p)) z.p z.q z.d (2 ^ low f) w (omega arith) e }
