-- A number and its root in units of the smallest value: the root is strictly nearer than any other representable number, and its square is close to the number.
use Rattle.std.proofs.Common.{◌≡◌, ℕ, zero, suc, ◌+◌, ◌*◌, ◌^◌, ◌<◌, ◌≤◌, Bool, true, false, T, ℤ, sym, refl, ap, ◌∙◌, subst, le_trans, mul-le-mul_right, zero-lt-suc, mul-pos, arith, pow_pos}
use lib.Ieee.{Float, nan, inf, fin, binary64, up, down, fits, lt, of_bits, to_bits, units}
use lib.Ieee.Fits.{up_pos, down_pos}
use lib.Ieee.Bits.{of_bits-to_bits}
use Rattle.exact.specs.Fraction.{ℚ, ◌//◌, nat, ◌*q◌, ◌≤q◌, ◌<q◌, ◌≈q◌, Within}
use Rattle.exact.specs.FloatValue.{signed, value}
use Rattle.exact.specs.Size.{NonNegative}
use Rattle.exact.proofs.FractionLaws.{≈_sym, +_cong, *_cong, *_cong_r, ≤_of_≈, ≤_trans}
use Rattle.exact.proofs.StrictOrder.{<-≈}
use Rattle.exact.proofs.Closeness.{within_≈, within_mono}
use Rattle.exact.proofs.RoundingGrid.{value_finite}
use Rattle.exact.proofs.Rounding.{value_≈}
use Rattle.exact.proofs.Representable.{Representable}
use Rattle.exact.proofs.PositivePatterns.{units_of, units_of_pattern, bits_above}
use Rattle.square_root.specs.SquareRoot.{nearest_root, sqrt_of}
use Rattle.square_root.specs.CorrectlyRounded.{square_of_sum}
use Rattle.square_root.proofs.WholeRoot.{Nearest, nearest_lo, nearest_hi}
use Rattle.square_root.proofs.Patterns.{units_value, units_fit}
use Rattle.square_root.proofs.RootDigits.{four_is, four_pos, nearest_of, root_of_lem}
use Rattle.square_root.proofs.Digits.{root_of_pattern, scaled_of_pattern}
use Rattle.square_root.proofs.Cases.{above_zero}
use Rattle.square_root.proofs.Neighbours.{Nearer, nearer}
use Rattle.square_root.proofs.UnitFractions.{unit_<, unit_nonneg, middle_above, middle_below, square_close, smallest, units_of_lem}

pub record Rooted (x r : Float) : Type 0 where
  pub x_units : ℕ
  pub r_units : ℕ
  pub x_is : value x ≈q smallest x_units
  pub r_is : value r ≈q smallest r_units
  pub held : T (fits binary64 r)
  pub sign : NonNegative r
  pub near : Nearer (x_units * 2 ^ 1074) r_units
  pub close_above : 2 ^ 51 * (r_units * r_units) ≤ 2 ^ 51 * (x_units * 2 ^ 1074) + x_units * 2 ^ 1074
  pub close_below : 2 ^ 51 * (x_units * 2 ^ 1074) ≤ 2 ^ 51 * (r_units * r_units) + x_units * 2 ^ 1074

-- ---- what it says in fractions
square_cong : {r y r' y' : ℚ} → r ≈q r' → y ≈q y' → square_of_sum r y ≈q square_of_sum r' y'
square_cong e f = *_cong (+_cong e f) (+_cong e f)

module _ {x r : Float} (R : Rooted x r) where
  module _ {w : ℚ} (p : Representable binary64 w) (W : nat 0 ≤q w) where
    pub nearer_above : value r <q w → nat 4 *q value x <q square_of_sum (value r) w
    nearer_above h =
        let e = units_of_lem p W in
        <-≈ (*_cong_r (nat 4) (≈_sym R.x_is)) (square_cong (≈_sym R.r_is) (≈_sym e))
        (middle_above (2 ^ 1074) (pow_pos 1074) R.r_units (p.digits * 2 ^ p.place) R.x_units
        (R.near.above p.digits p.place p.few (unit_< (2 ^ 1074) (pow_pos 1074) (<-≈ R.r_is e h))))

    pub nearer_below : w <q value r → square_of_sum (value r) w <q nat 4 *q value x
    nearer_below h =
        let e = units_of_lem p W in
        <-≈ (square_cong (≈_sym R.r_is) (≈_sym e)) (*_cong_r (nat 4) (≈_sym R.x_is))
        (middle_below (2 ^ 1074) (pow_pos 1074) R.r_units (p.digits * 2 ^ p.place) R.x_units
        (R.near.below p.digits p.place p.few (unit_< (2 ^ 1074) (pow_pos 1074) (<-≈ e R.r_is h))))

  pub close : Within (value r *q value r) (value x) (1 // 2 ^ 51 *q value x)
  close =
      within_mono
      (within_≈ (*_cong (≈_sym R.r_is) (≈_sym R.r_is)) (≈_sym R.x_is) (square_close (2 ^ 1074) (pow_pos 1074) R.r_units R.x_units (2 ^ 51) (pow_pos 51) R.close_above R.close_below))
      (≤_of_≈ (*_cong_r (1 // 2 ^ 51) (≈_sym R.x_is)))

-- ---- a zero
zero_is : (s : Bool) (u d L : ℕ) (D : 0 < d) (l : 0 < L) → signed s (0 * u) d D ≈q signed false 0 L l
zero_is true u d L D l = record { eq = omega arith }
zero_is false u d L D l = record { eq = omega arith }

zero_rooted : (s : Bool) (e : ℤ) → T (fits binary64 (fin s zero e)) → NonNegative (fin s zero e) → Rooted (fin s zero e) (fin s zero e)
unfolding value
zero_rooted s e h c = record {
  x_units = 0;
  r_units = 0;
  x_is = zero_is s (up e) (down e) (2 ^ 1074) (down_pos e) (pow_pos 1074);
  r_is = zero_is s (up e) (down e) (2 ^ 1074) (down_pos e) (pow_pos 1074);
  held = h;
  sign = c;
  near = record { above = λ j i f h. go (j * 2 ^ i) (2 ^ 1074) h; below = λ j i f h. absurd (none (j * 2 ^ i) h) };
  close_above = least (2 ^ 1074);
  close_below = least (2 ^ 1074);
}
  where
    go : (t L : ℕ) → 0 < t → 4 * (0 * L) < (0 + t) * (0 + t)
    go t L h = omega (arith, mul-pos h h)

    none : (t : ℕ) → t < 0 → ⊥
    none t h = omega arith

    least : (L : ℕ) → 0 ≤ 2 ^ 51 * (0 * L) + 0 * L
    least L = omega arith

-- ---- a positive number, by its pattern
-- |q * q - N| ≤ q ≤ N / 2 ^ 51, times Q = P * P
module _ (N q P Q : ℕ) (r : Nearest N q) (lo : 2 ^ 104 ≤ N) (hi : q ≤ 2 ^ 53) (e : Q ≡ P * P) where
  square_above : 2 ^ 51 * (q * P * (q * P)) ≤ 2 ^ 51 * (N * Q) + N * Q
  square_above =
      let a : 2 ^ 51 * (q * q) ≤ 2 ^ 51 * N + N = let h = r.low in omega arith in
      le_trans (omega (arith, ap (λ (t : ℕ). q * q * t) e)) (le_trans (mul-le-mul_right Q a) (omega arith))

  square_below : 2 ^ 51 * (N * Q) ≤ 2 ^ 51 * (q * P * (q * P)) + N * Q
  square_below =
      let a : 2 ^ 51 * N ≤ 2 ^ 51 * (q * q) + N = let h = r.high in omega arith in
      le_trans (omega arith) (le_trans (mul-le-mul_right Q a) (omega (arith, ap (λ (t : ℕ). q * q * t) e)))

pattern_rooted : (b : ℕ) → 0 < b → b < 2047 * 2 ^ 52 → Rooted (of_bits binary64 b) (sqrt_of (of_bits binary64 b))
pattern_rooted b low high =
    let d = scaled_of_pattern b low high in
    let N = d.0 in
    let k = d.1 in
    let s = d.2 in
    let n = nearest_of s in
    let q = nearest_root N in
    let q_lo = nearest_lo N q n s.low in
    let q_hi = nearest_hi N q n s.high in
    let r = units binary64 false q k in
    let e : sqrt_of (of_bits binary64 b) ≡ r = root_of_pattern b low high ∙ root_of_lem s in
    let h = units_value q k q_lo q_hi s.top in
    let is : value r ≈q smallest (q * 2 ^ k) = value_≈ r false (q * 2 ^ k) (2 ^ 1074) (pow_pos 1074) h in
    subst (λ (r : Float). Rooted (of_bits binary64 b) r) (sym e)
    (record {
      x_units = units_of b;
      r_units = q * 2 ^ k;
      x_is = value_≈ (of_bits binary64 b) false (units_of b) (2 ^ 1074) (pow_pos 1074) (units_of_pattern b high);
      r_is = is;
      held = units_fit q k q_lo q_hi s.top;
      sign = record {
        fin = value_finite r false (q * 2 ^ k) (2 ^ 1074) h;
        sign = ≤_trans (unit_nonneg (2 ^ 1074) (pow_pos 1074) (q * 2 ^ k)) (≤_of_≈ (≈_sym is));
      };
      near = subst (λ (A : ℕ). Nearer A (q * 2 ^ k)) (sym s.is) (nearer N k q (4 ^ k) n s.low q_lo (four_is k) (four_pos k));
      close_above = subst (λ (A : ℕ). 2 ^ 51 * (q * 2 ^ k * (q * 2 ^ k)) ≤ 2 ^ 51 * A + A) (sym s.is) (square_above N q (2 ^ k) (4 ^ k) n s.low q_hi (four_is k));
      close_below = subst (λ (A : ℕ). 2 ^ 51 * A ≤ 2 ^ 51 * (q * 2 ^ k * (q * 2 ^ k)) + A) (sym s.is) (square_below N q (2 ^ k) (4 ^ k) n s.low q_hi (four_is k));
    })

positive_rooted : (m : ℕ) (e : ℤ) → T (fits binary64 (fin false (suc m) e)) → Rooted (fin false (suc m) e) (sqrt_of (fin false (suc m) e))
unfolding lt
positive_rooted m e h =
    let x = fin false (suc m) e in
    let b = to_bits binary64 x in
    let p = bits_above x h (above_zero m e) refl in
    subst (λ (x : Float). Rooted x (sqrt_of x)) (of_bits-to_bits binary64 x h) (pattern_rooted b p.0 p.1)

negative : (a d : ℕ) (D : 0 < d) → 0 < a → nat 0 ≤q signed true a d D → ⊥
unfolding nat
negative a d D A h = let e = h.le in omega arith

pub rooted : (x : Float) → T (fits binary64 x) → NonNegative x → Rooted x (sqrt_of x)
unfolding sqrt_of value
rooted nan h c = absurd c.fin
rooted (inf s) h c = absurd c.fin
rooted (fin s zero e) h c = zero_rooted s e h c
rooted (fin true (suc m) e) h c = absurd (negative (suc m * up e) (down e) (down_pos e) (mul-pos (zero-lt-suc m) (up_pos e)) c.sign)
rooted (fin false (suc m) e) h c = positive_rooted m e h
