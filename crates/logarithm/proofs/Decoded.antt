-- The logarithm of a positive finite number by its bits: the number as a fraction above 1, or its reciprocal as one. Assumes nothing.
use Rattle.std.proofs.Common.{◌≡◌, ℕ, ◌+◌, ◌-◌, ◌*◌, ◌/◌, ◌%◌, ◌^◌, ◌<◌, ◌≤◌, Bool, cond, ltb, sym, refl, ap, ◌∙◌, le_trans, le_of_lt, mul-le-mul_right, mod-lt, mul_assoc, mul-le-mul, mul-le-mul_left, lt_of_not-le, mul_left_comm, arith, lit≤, pow_pos, pow_mono, pow-add, le-ltb, lt-ltb}
use native.Mathlib.Decide.{dec_le}
use lib.Count.{count_leading_zeros}
use Rattle.exact.proofs.PositivePatterns.{units_of}
use Rattle.exact.proofs.LeadingDigits.{lead}
use Rattle.logarithm.specs.FixedPoint.{ln_mant_of, twos_of}
use Rattle.logarithm.specs.Logarithm.{log_above, log_below, log_bits}
use Rattle.logarithm.specs.declared.Log.TheVariants.{Above, Below}
use Rattle.logarithm.proofs.WholeBounds.{Fixed, above, below}

pub data Decoded (b : ℕ) : Type 0 where
  over : (v u w : ℕ) → log_bits b ≡ Above v → Fixed v u w → units_of b * w ≡ u * 2 ^ 1074 → Decoded b
  under : (v u w : ℕ) → log_bits b ≡ Below v → Fixed v u w → 0 < u → units_of b * u ≡ w * 2 ^ 1074 → Decoded b

two_le : (n : ℕ) → 1 ≤ n → 2 ≤ 2 ^ n
two_le n h = pow_mono h

-- ---- subnormal
module _ (b : ℕ) (b_pos : 0 < b) (h : b < 2 ^ 52) where
  abbrev z : ℕ
  z = count_leading_zeros 64 b

  small : Decoded b
  unfolding log_bits log_below units_of
  small =
      let l = lead 1 tt b b_pos h in
      let m = b * 2 ^ (z - 1) in
      under (twos_of (1011 + z) - ln_mant_of m / 2048) (2 ^ (1011 + z) * 2 ^ 62) m
      (ap (λ (t : Bool). cond t (log_below m (1011 + z)) (cond (ltb (b / 2 ^ 52) 1023) (log_below ((b % 2 ^ 52 + 2 ^ 52) * 1024) (1023 - b / 2 ^ 52)) (log_above ((b % 2 ^ 52 + 2 ^ 52) * 1024) (b / 2 ^ 52 - 1023)))) (lt-ltb b (2 ^ 52) h))
      (below m (1011 + z) l.from l.below (few z l.high) (some z) (spare m (2 ^ (1011 + z)) l.below (le_trans (lit≤ tt) (pow_mono (far z)))))
      (product (2 ^ (1011 + z)) (pow_pos (1011 + z)))
      (ap (λ (t : Bool). cond t b ((b % 2 ^ 52 + 2 ^ 52) * 2 ^ (b / 2 ^ 52 - 1)) * (2 ^ (1011 + z) * 2 ^ 62)) (lt-ltb b (2 ^ 52) h) ∙ ap (λ (e : ℕ). b * (e * 2 ^ 62)) (ap (λ (e : ℕ). 2 ^ e) (exponent z l.low) ∙ pow-add 2 (z - 1) 1012) ∙ sort b (2 ^ (z - 1)) (2 ^ 1012) (2 ^ 62))
    where
      few : (z : ℕ) → z ≤ 63 → 1011 + z ≤ 1074
      few z h = omega arith

      some : (z : ℕ) → 0 < 1011 + z
      some z = omega arith

      far : (z : ℕ) → 2 ≤ 1011 + z
      far z = omega arith

      spare : (m p : ℕ) → m < 2 ^ 63 → 4 ≤ p → m * (2 ^ 53 + 1) ≤ p * 2 ^ 62 * 2 ^ 53
      spare m p h k = le_trans (mul-le-mul_right (2 ^ 53 + 1) (le_of_lt h)) (le_trans (lit≤ {m = 2 ^ 63 * (2 ^ 53 + 1)} {n = 4 * 2 ^ 62 * 2 ^ 53} tt) (mul-le-mul_right (2 ^ 53) (mul-le-mul_right (2 ^ 62) k)))

      product : (p : ℕ) → 0 < p → 0 < p * 2 ^ 62
      product p h = omega arith

      exponent : (z : ℕ) → 12 ≤ z → 1011 + z ≡ z - 1 + 1012
      exponent z h = omega arith

      sort : (b p q r : ℕ) → b * (p * q * r) ≡ b * p * (q * r)
      sort b p q r = simp (mul_assoc) refl

-- ---- normal
module _ (b : ℕ) (h : 2 ^ 52 ≤ b) (top : b < 2047 * 2 ^ 52) (not_one : b ≡ 1023 * 2 ^ 52 → ⊥) where
  abbrev t : ℕ
  t = b % 2 ^ 52 + 2 ^ 52

  abbrev f : ℕ
  f = b / 2 ^ 52

  abbrev m : ℕ
  m = t * 1024

  rest : b % 2 ^ 52 < 2 ^ 52
  rest = mod-lt b (pow_pos 52)

  m_from : 2 ^ 62 ≤ m
  m_from = from (b % 2 ^ 52)
    where
      from : (r : ℕ) → 2 ^ 62 ≤ (r + 2 ^ 52) * 1024
      from r = omega arith

  m_below : m < 2 ^ 63
  m_below = to (b % 2 ^ 52) rest
    where
      to : (r : ℕ) → r < 2 ^ 52 → (r + 2 ^ 52) * 1024 < 2 ^ 63
      to r h = omega arith

  is_normal : {X : Type 0} (x y z : X) → cond (ltb b (2 ^ 52)) x y ≡ y
  is_normal x y z = ap (λ (t : Bool). cond t x y) (le-ltb b (2 ^ 52) h)

  large : 1023 ≤ f → Decoded b
  unfolding log_bits log_above units_of
  large k =
      over (twos_of (f - 1023) + ln_mant_of m / 2048) (2 ^ (f - 1023) * m) (2 ^ 62)
      (ap (λ (t : Bool). cond t (log_below (b * 2 ^ (count_leading_zeros 64 b - 1)) (1011 + count_leading_zeros 64 b)) (cond (ltb f 1023) (log_below m (1023 - f)) (log_above m (f - 1023)))) (le-ltb b (2 ^ 52) h)
      ∙ ap (λ (t : Bool). cond t (log_below m (1023 - f)) (log_above m (f - 1023))) (le-ltb f 1023 k))
      (above m (f - 1023) m_from m_below (few b top) (spare (dec_le f 1023)))
      (ap (λ (t' : Bool). cond t' b (t * 2 ^ (f - 1)) * 2 ^ 62) (le-ltb b (2 ^ 52) h) ∙ ap (λ (e : ℕ). t * e * 2 ^ 62) (ap (λ (e : ℕ). 2 ^ e) (exponent f k) ∙ pow-add 2 (f - 1023) 1022) ∙ sort t (2 ^ (f - 1023)) (2 ^ 1022) (2 ^ 62) 1024 (2 ^ 1074) refl)
    where
      few : (b : ℕ) → b < 2047 * 2 ^ 52 → b / 2 ^ 52 - 1023 ≤ 1074
      few b h = omega arith

      exponent : (f : ℕ) → 1023 ≤ f → f - 1 ≡ f - 1023 + 1022
      exponent f h = omega arith

      sort : (t p q r s a : ℕ) → q * r ≡ s * a → t * (p * q) * r ≡ p * (t * s) * a
      sort t p q r s a e = left t p q r ∙ ap (λ (x : ℕ). t * p * x) e ∙ right t p s a
        where
          left : (t p q r : ℕ) → t * (p * q) * r ≡ t * p * (q * r)
          left t p q r = simp (mul_assoc) refl

          right : (t p s a : ℕ) → t * p * (s * a) ≡ p * (t * s) * a
          right t p s a = simp (mul_assoc, mul_left_comm) refl

      some : b / 2 ^ 52 ≤ 1023 → 1023 ≤ b / 2 ^ 52 → (b ≡ 1023 * 2 ^ 52 → ⊥) → 1 ≤ b % 2 ^ 52
      some p q n = omega arith

      more : (r P : ℕ) → 1 ≤ P → 1 ≤ r → 2 ^ 62 * (2 ^ 53 + 1) ≤ P * ((r + 2 ^ 52) * 1024) * 2 ^ 53
      more r P p h = le_trans (le_trans (lit≤ {m = 2 ^ 62 * (2 ^ 53 + 1)} {n = 1 * ((1 + 2 ^ 52) * 1024) * 2 ^ 53} tt) (mul-le-mul_right (2 ^ 53) (mul-le-mul_left 1 (add h)))) (mul-le-mul_right (2 ^ 53) (mul-le-mul_right ((r + 2 ^ 52) * 1024) p))
        where
          add : 1 ≤ r → (1 + 2 ^ 52) * 1024 ≤ (r + 2 ^ 52) * 1024
          add h = omega arith

      much : (P M : ℕ) → 2 ≤ P → 2 ^ 62 ≤ M → 2 ^ 62 * (2 ^ 53 + 1) ≤ P * M * 2 ^ 53
      much P M p h = le_trans (lit≤ {m = 2 ^ 62 * (2 ^ 53 + 1)} {n = 2 * 2 ^ 62 * 2 ^ 53} tt) (mul-le-mul_right (2 ^ 53) (mul-le-mul p h))

      next : (f : ℕ) → 1023 < f → 1 ≤ f - 1023
      next f h = omega arith

      spare : Dec (f ≤ 1023) → 2 ^ 62 * (2 ^ 53 + 1) ≤ 2 ^ (f - 1023) * m * 2 ^ 53
      spare (yes l) = more (b % 2 ^ 52) (2 ^ (f - 1023)) (pow_pos (f - 1023)) (some l k not_one)
      spare (no g) = much (2 ^ (f - 1023)) m (two_le (f - 1023) (next f (lt_of_not-le g))) m_from

  below_one : f < 1023 → Decoded b
  unfolding log_bits log_below units_of
  below_one k =
      under (twos_of (1023 - f) - ln_mant_of m / 2048) (2 ^ (1023 - f) * 2 ^ 62) m
      (ap (λ (t : Bool). cond t (log_below (b * 2 ^ (count_leading_zeros 64 b - 1)) (1011 + count_leading_zeros 64 b)) (cond (ltb f 1023) (log_below m (1023 - f)) (log_above m (f - 1023)))) (le-ltb b (2 ^ 52) h)
      ∙ ap (λ (t : Bool). cond t (log_below m (1023 - f)) (log_above m (f - 1023))) (lt-ltb f 1023 k))
      (below m (1023 - f) m_from m_below (few f) (some f k) (spare (b % 2 ^ 52) (2 ^ (1023 - f)) rest (two_le (1023 - f) (some f k))))
      (product (2 ^ (1023 - f)) (pow_pos (1023 - f)))
      (ap (λ (t' : Bool). cond t' b (t * 2 ^ (f - 1)) * (2 ^ (1023 - f) * 2 ^ 62)) (le-ltb b (2 ^ 52) h) ∙ sort t (2 ^ (f - 1)) (2 ^ (1023 - f)) (2 ^ 62) 1024 (2 ^ 1074) (2 ^ 1022) (sym (pow-add 2 (f - 1) (1023 - f)) ∙ ap (λ (e : ℕ). 2 ^ e) (exponent b h k)) refl)
    where
      few : (f : ℕ) → 1023 - f ≤ 1074
      few f = omega arith

      some : (f : ℕ) → f < 1023 → 0 < 1023 - f
      some f h = omega arith

      product : (p : ℕ) → 0 < p → 0 < p * 2 ^ 62
      product p h = omega arith

      exponent : (b : ℕ) → 2 ^ 52 ≤ b → b / 2 ^ 52 < 1023 → b / 2 ^ 52 - 1 + (1023 - b / 2 ^ 52) ≡ 1022
      exponent b h k = omega arith

      sort : (t p q r s a c : ℕ) → p * q ≡ c → c * r ≡ s * a → t * p * (q * r) ≡ t * s * a
      sort t p q r s a c e g = left t p q r ∙ ap (λ (x : ℕ). t * (x * r)) e ∙ ap (λ (x : ℕ). t * x) g ∙ sym (mul_assoc t s a)
        where
          left : (t p q r : ℕ) → t * p * (q * r) ≡ t * (p * q * r)
          left t p q r = simp (mul_assoc) refl

      spare : (r P : ℕ) → r < 2 ^ 52 → 2 ≤ P → (r + 2 ^ 52) * 1024 * (2 ^ 53 + 1) ≤ P * 2 ^ 62 * 2 ^ 53
      spare r P h p = le_trans (mul-le-mul_right (2 ^ 53 + 1) (last r h)) (le_trans (lit≤ {m = (2 ^ 53 - 1) * 1024 * (2 ^ 53 + 1)} {n = 2 * 2 ^ 62 * 2 ^ 53} tt) (mul-le-mul_right (2 ^ 53) (mul-le-mul_right (2 ^ 62) p)))
        where
          last : (r : ℕ) → r < 2 ^ 52 → (r + 2 ^ 52) * 1024 ≤ (2 ^ 53 - 1) * 1024
          last r h = omega arith

pub decoded : (b : ℕ) → 0 < b → b < 2047 * 2 ^ 52 → (b ≡ 1023 * 2 ^ 52 → ⊥) → Decoded b
decoded b p q n = normal? (dec_le (2 ^ 52) b)
  where
    half? : 2 ^ 52 ≤ b → Dec (1023 ≤ b / 2 ^ 52) → Decoded b
    half? h (yes k) = large b h q n k
    half? h (no g) = below_one b h q n (lt_of_not-le g)

    normal? : Dec (2 ^ 52 ≤ b) → Decoded b
    normal? (yes h) = half? h (dec_le 1023 (b / 2 ^ 52))
    normal? (no g) = small b p (lt_of_not-le g)
