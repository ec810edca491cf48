-- The digits and the exponent of a positive finite number, from its pattern: it is d * 2 ^ e / 2 ^ 2148 with a d of 53 digits, and its root is `root_of` that.
use Rattle.std.proofs.Common.{◌≡◌, ℕ, zero, suc, ◌+◌, ◌-◌, ◌*◌, ◌/◌, ◌%◌, ◌^◌, ◌<◌, ◌≤◌, true, false, T, sym, ap, ◌∙◌, subst, mul_assoc, mul-pos, lt_of_not-le, mul_right_comm, mul-div_cancel, arith, pow_pos, pow-add}
use mathlib.Core.Path.{transport}
use native.Mathlib.Decide.{dec_le}
use lib.Count.{count_leading_zeros}
use lib.Ieee.{Float, nan, inf, fin, binary64, up, down, of_bits}
use lib.Ieee.Fits.{down_pos}
use lib.Ieee.Exact.{HasValue}
use Rattle.exact.proofs.PositivePatterns.{units_of, units_small, units_large, units_of_pattern}
use Rattle.exact.proofs.LeadingDigits.{Lead, lead}
use Rattle.square_root.specs.SquareRoot.{root_of, sqrt_of}
use Rattle.square_root.proofs.RootDigits.{Scaled, scaled, moved, large, shifted}

-- ---- brought to 53 digits
pub subnormal : (b z : ℕ) → b < 2 ^ 52 → Lead 11 b z → (b * 2 ^ (z - 11)) % 2 ^ 64 * 2 ^ (1085 - z) ≡ units_of b * 2 ^ 1074
subnormal b z k l =
    ap (λ (x : ℕ). x * 2 ^ (1085 - z)) l.same ∙ mul_assoc b (2 ^ (z - 11)) (2 ^ (1085 - z))
    ∙ ap (λ (x : ℕ). b * x) (sym (pow-add 2 (z - 11) (1085 - z)) ∙ ap (λ (x : ℕ). 2 ^ x) (sum z l.low l.high))
    ∙ ap (λ (x : ℕ). x * 2 ^ 1074) (sym (units_small b k))
  where
    sum : (z : ℕ) → 12 ≤ z → z ≤ 63 → z - 11 + (1085 - z) ≡ 1074
    sum z h k = omega arith

pub normal : (b : ℕ) → 2 ^ 52 ≤ b → (b % 2 ^ 52 + 2 ^ 52) * 2 ^ (1073 + b / 2 ^ 52) ≡ units_of b * 2 ^ 1074
normal b k =
    ap (λ (x : ℕ). (b % 2 ^ 52 + 2 ^ 52) * 2 ^ x) (sum b k)
    ∙ ap (λ (x : ℕ). (b % 2 ^ 52 + 2 ^ 52) * x) (pow-add 2 (b / 2 ^ 52 - 1) 1074)
    ∙ sym (mul_assoc (b % 2 ^ 52 + 2 ^ 52) (2 ^ (b / 2 ^ 52 - 1)) (2 ^ 1074))
    ∙ ap (λ (x : ℕ). x * 2 ^ 1074) (sym (units_large b k))
  where
    sum : (b : ℕ) → 2 ^ 52 ≤ b → 1073 + b / 2 ^ 52 ≡ b / 2 ^ 52 - 1 + 1074
    sum b h = omega arith

-- d * 2 ^ e / 2 ^ 2148 is the number of the pattern b, and d has 53 digits
pub record Parts (b d e : ℕ) : Type 0 where
  pub low : 2 ^ 52 ≤ d
  pub high : d < 2 ^ 53
  pub from : 104 ≤ e
  pub to : e ≤ 3200
  pub is : d * 2 ^ e ≡ units_of b * 2 ^ 1074

pub parts_subnormal : (b : ℕ) → 0 < b → b < 2 ^ 52 → Parts b ((b * 2 ^ (count_leading_zeros 64 b - 11)) % 2 ^ 64) (1085 - count_leading_zeros 64 b)
parts_subnormal b h k =
    let l = lead 11 tt b h k in
    let z = count_leading_zeros 64 b in
    record {
      low = subst (λ (x : ℕ). 2 ^ 52 ≤ x) (sym l.same) l.from;
      high = subst (λ (x : ℕ). x < 2 ^ 53) (sym l.same) l.below;
      from = least z l.high;
      to = most z;
      is = subnormal b z k l;
    }
  where
    least : (z : ℕ) → z ≤ 63 → 104 ≤ 1085 - z
    least z h = omega arith

    most : (z : ℕ) → 1085 - z ≤ 3200
    most z = omega arith

pub parts_normal : (b : ℕ) → 2 ^ 52 ≤ b → b < 2047 * 2 ^ 52 → Parts b (b % 2 ^ 52 + 2 ^ 52) (1073 + b / 2 ^ 52)
parts_normal b h k = record { low = omega arith; high = omega arith; from = omega arith; to = omega arith; is = normal b h }

-- the number of the pattern b is m * 2 ^ 42 * 4 ^ k / 2 ^ 2148, and m has 63 or 64 digits
pub record Halved (b m k : ℕ) : Type 0 where
  pub low : 2 ^ 62 ≤ m
  pub is : Scaled (units_of b * 2 ^ 1074) (m * 2 ^ 42) k

pub halved : (b d e m k : ℕ) → Parts b d e → d * 2 ^ (10 + e % 2) ≡ m → (e - 52) / 2 ≡ k → Halved b m k
halved b d e m k p f g =
    let n = sym (moved d p.low p.high (e % 2)) in
    transport (λ i. Halved b (f i) (g i)) (record {
      low = large d p.low p.high (e % 2) (omega arith);
      is = transport (λ i. Scaled (p.is i) (n i) ((e - 52) / 2)) (scaled d p.low p.high e p.from p.to);
    })

-- a normal number: of the digits at the top of a word one is taken off where the exponent is odd
pub halved_normal : (b : ℕ) → 2 ^ 52 ≤ b → b < 2047 * 2 ^ 52 → Halved b (((b % 2 ^ 52 + 2 ^ 52) * 2 ^ 11) % 2 ^ 64 / 2 ^ (b / 2 ^ 52 % 2)) ((b / 2 ^ 52 + 1021) / 2)
halved_normal b h k = halved b _ _ _ _ (parts_normal b h k) (digits (b % 2 ^ 52 + 2 ^ 52) (b / 2 ^ 52) (omega arith)) (omega arith)
  where
    at : (d t u : ℕ) → d < 2 ^ 53 → t < 2 → u + t ≡ 1 → d * 2 ^ (10 + u) ≡ (d * 2 ^ 11) % 2 ^ 64 / 2 ^ t
    at d zero u h k e = subst (λ (u : ℕ). d * 2 ^ (10 + u) ≡ (d * 2 ^ 11) % 2 ^ 64 / 2 ^ 0) (last u e) (omega arith)
      where
        last : (u : ℕ) → u + 0 ≡ 1 → 1 ≡ u
        last u e = omega arith
    at d (suc zero) u h k e = subst (λ (u : ℕ). d * 2 ^ (10 + u) ≡ (d * 2 ^ 11) % 2 ^ 64 / 2 ^ 1) (last u e) (omega arith)
      where
        last : (u : ℕ) → u + 1 ≡ 1 → 0 ≡ u
        last u e = omega arith
    at d (suc (suc t)) u h k e = omega arith

    digits : (d x : ℕ) → d < 2 ^ 53 → d * 2 ^ (10 + (1073 + x) % 2) ≡ (d * 2 ^ 11) % 2 ^ 64 / 2 ^ (x % 2)
    digits d x h = at d (x % 2) ((1073 + x) % 2) h (omega arith) (omega arith)

pub halved_subnormal : (b : ℕ) → 0 < b → b < 2 ^ 52 → Halved b ((b * 2 ^ (count_leading_zeros 64 b - 1 + (1085 - count_leading_zeros 64 b) % 2)) % 2 ^ 64) ((1085 - count_leading_zeros 64 b - 52) / 2)
halved_subnormal b h k =
    let l = lead 11 tt b h k in
    let z = count_leading_zeros 64 b in
    let t = (1085 - z) % 2 in
    let p = parts_subnormal b h k in
    halved b _ _ _ _ p
    (sym (shifted _ p.low p.high t (omega arith))
    ∙ ap (λ (n : ℕ). n % 2 ^ 64) (ap (λ (n : ℕ). n * 2 ^ (10 + t)) l.same ∙ mul_assoc b (2 ^ (z - 11)) (2 ^ (10 + t)) ∙ ap (λ (n : ℕ). b * n) (sym (pow-add 2 (z - 11) (10 + t)) ∙ ap (λ (i : ℕ). 2 ^ i) (sum z t l.low))))
    (λ i. (1085 - z - 52) / 2)
  where
    sum : (z t : ℕ) → 12 ≤ z → z - 11 + (10 + t) ≡ z - 1 + t
    sum z t h = omega arith

-- ---- the root by the units
same : (n d u : ℕ) → 0 < d → n * 2 ^ 1074 ≡ u * d → n * 2 ^ 2148 / d ≡ u * 2 ^ 1074
same n d u h e =
    ap (λ (z : ℕ). z / d) (ap (λ (z : ℕ). n * z) (pow-add 2 1074 1074) ∙ sym (mul_assoc n (2 ^ 1074) (2 ^ 1074)) ∙ ap (λ (z : ℕ). z * 2 ^ 1074) e ∙ mul_right_comm u d (2 ^ 1074))
    ∙ mul-div_cancel (u * 2 ^ 1074) h

pub root_of_units : (x : Float) (u : ℕ) → 0 < u → HasValue x false u (2 ^ 1074) → sqrt_of x ≡ root_of (u * 2 ^ 1074)
unfolding sqrt_of
root_of_units nan u h v = absurd v
root_of_units (inf t) u h v = absurd v
root_of_units (fin s zero d) u h v = absurd (none u (up d) (down d) (2 ^ 1074) (mul-pos h (down_pos d)) v.1)
  where
    none : (u a d n : ℕ) → 0 < u * d → 0 * a * n ≡ u * d → ⊥
    none u a d n h e = omega arith
root_of_units (fin true (suc m) d) u h v = absurd (subst T v.0 tt)
root_of_units (fin false (suc m) d) u h v = ap root_of (same (suc m * up d) (down d) u (down_pos d) v.1)

pub units_pos : (b : ℕ) → 0 < b → 0 < units_of b
units_pos b h = either (dec_le (2 ^ 52) b)
  where
    some : (x : ℕ) → 0 < x + 2 ^ 52
    some x = omega arith

    either : Dec (2 ^ 52 ≤ b) → 0 < units_of b
    either (yes g) = subst (λ (n : ℕ). 0 < n) (sym (units_large b g)) (mul-pos (some (b % 2 ^ 52)) (pow_pos (b / 2 ^ 52 - 1)))
    either (no f) = subst (λ (n : ℕ). 0 < n) (sym (units_small b (lt_of_not-le f))) h

pub root_of_pattern : (b : ℕ) → 0 < b → b < 2047 * 2 ^ 52 → sqrt_of (of_bits binary64 b) ≡ root_of (units_of b * 2 ^ 1074)
root_of_pattern b h k = root_of_units (of_bits binary64 b) (units_of b) (units_pos b h) (units_of_pattern b k)

-- ---- the square of the root, in squares of the unit: N * 4 ^ k
pub scaled_of_pattern : (b : ℕ) → 0 < b → b < 2047 * 2 ^ 52 → (N : ℕ) × (k : ℕ) × Scaled (units_of b * 2 ^ 1074) N k
scaled_of_pattern b h t = either (dec_le (2 ^ 52) b)
  where
    of_parts : (d e : ℕ) → Parts b d e → (N : ℕ) × (k : ℕ) × Scaled (units_of b * 2 ^ 1074) N k
    of_parts d e p = subst (λ (A : ℕ). (N : ℕ) × (k : ℕ) × Scaled A N k) p.is (_, _, scaled d p.low p.high e p.from p.to)

    either : Dec (2 ^ 52 ≤ b) → (N : ℕ) × (k : ℕ) × Scaled (units_of b * 2 ^ 1074) N k
    either (yes g) = of_parts _ _ (parts_normal b g t)
    either (no f) = of_parts _ _ (parts_subnormal b h (lt_of_not-le f))
