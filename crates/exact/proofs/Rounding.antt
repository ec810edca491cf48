-- The rounding-error law, in exact fractions: a finite result is within `err` of the exact value, for `round` and for each operation.
use Prim.Native.Nat.{ℕ, zero, suc, ◌+◌, ◌-◌, ◌*◌, ◌%◌, ◌^◌, ◌≤◌, ◌<◌, max}
use mathlib.Core.Path.{◌≡◌, refl, sym, ap, ◌∙◌, subst}
use mathlib.Core.Logic.{◌⊎◌, inl, inr}
use mathlib.Core.Bool.{Bool, true, false, not, ◌&&◌, cond}
use native.Mathlib.Nat.{le_trans, le_of_eq, mul-le-mul_right, mul-le-mul_left, mul-pos, max-eq_left, pow-succ', le_of_mul-le-mul_right, eq-zero-or-pos, not-le_of_lt, add-sub_of_le, one-mul, sub-le, add-mul}
use native.Mathlib.Omega.{arith}
use lib.Dec.{T, ltb, leb, leb→le, nleb→lt, eqb, ltb→lt, nltb→le, lit≤, eqb→eq}
use lib.Pow.{pow-add, pow_pos, pow_mono, pow-lt}
use lib.IntN.{ℤ, pos, negsuc}
use lib.Ieee.{Float, nan, inf, fin, Format, binary64, prec, emax, low, up, down, unlike, odd, units, round, sum, neg, add, sub, mul, div, fits}
use lib.Ieee.Order.{kept, drop}
use lib.Ieee.Fits.{round_is, down_pos, up_pos, two, two-le_pos, and_l, and_r}
use lib.Ieee.Exact.{HasValue}
use lib.Ieee.Scale.{grid, overflow, finite}
use Rattle.exact.specs.Fraction.{ℚ, ◌//◌, nat, ◌+q◌, negq, ◌-q◌, ◌*q◌, ◌/q◌, absq, ◌≤q◌, ◌≈q◌, Within}
use Rattle.exact.specs.FloatValue.{signed, value, eps, tiny, least_normal_lem, err}
use Rattle.exact.proofs.RoundingGrid.{Apart, pow_pred, grid_near, grid_near_whole, grid_under, half_top, round_under, round_value, value_finite}
use Rattle.exact.proofs.FractionLaws.{max_one, ≈_refl, ≈_sym, ≈_trans, +_cong, ≤_of_≈, ≤_refl, ≤_trans, +_mono, *_mono, neg_cong}
pub use Rattle.exact.proofs.AbsoluteValue.{abs_neg, abs_mono_≈}
use Rattle.exact.proofs.AbsoluteValue.{abs_cong}
use Rattle.exact.proofs.FractionDivision.{div_*}
pub use Rattle.exact.proofs.Closeness.{within_neg}
use Rattle.exact.proofs.Closeness.{within_≈, within_mono}

-- ---- the law for fractions that are not negative
abs_plain : (n : ℕ) → n - 0 + (0 - n) ≡ n
abs_plain n = omega arith

-- G / U and n / den, with P = 2 H
module _ (G U n den P H : ℕ) (D : 0 < den) (W : 0 < U) (Q : 0 < P) where
  two_U : max (2 * U) 1 ≡ 2 * U
  two_U = omega arith

  fracs : P ≡ 2 * H → Apart (P * (G * den)) (P * (n * U)) (max (n * U) (H * den)) → Within (signed false G U W) (signed false n den D) (1 // P *q absq (signed false n den D) +q 1 // (2 * U))
  unfolding ◌//◌ ◌*q◌ ◌+q◌ ◌-q◌ negq absq
  fracs E h =
      let m : max (n * U) (H * den) ≤ n * U + H * den = omega arith in
      let e : P * den ≡ 2 * H * den = ap (λ (t : ℕ). t * den) E in
      let a : 2 * (P * (G * den)) ≤ 2 * (P * (n * U)) + 2 * (n * U) + P * den = omega arith in
      let b : 2 * (P * (n * U)) ≤ 2 * (P * (G * den)) + 2 * (n * U) + P * den = omega arith in
      record {
        above = record { le = rw (max_one P Q, two_U, abs_plain n) (plain₁ a) };
        below = record { le = rw (max_one P Q, two_U, abs_plain n) (plain₂ b) };
      }
    where
      plain₁ : 2 * (P * (G * den)) ≤ 2 * (P * (n * U)) + 2 * (n * U) + P * den → (G * den + 0 * U) * (P * den * (2 * U)) + ((0 + 0 * n) * (2 * U) + 0 * (P * den)) * (U * den) ≤ ((1 * n + 0) * (2 * U) + 1 * (P * den)) * (U * den) + (0 * den + n * U) * (P * den * (2 * U))
      plain₁ a = omega (arith, mul-le-mul_right (U * den) a)

      plain₂ : 2 * (P * (n * U)) ≤ 2 * (P * (G * den)) + 2 * (n * U) + P * den → (n * U + 0 * den) * (P * den * (2 * U)) + ((0 + 0 * n) * (2 * U) + 0 * (P * den)) * (den * U) ≤ ((1 * n + 0) * (2 * U) + 1 * (P * den)) * (den * U) + (0 * U + G * den) * (P * den * (2 * U))
      plain₂ b = omega (arith, mul-le-mul_right (U * den) b)

  fracs_whole : Apart (P * (G * den)) (P * (n * U)) (n * U) → Within (signed false G U W) (signed false n den D) (1 // P *q absq (signed false n den D))
  unfolding ◌//◌ ◌*q◌ ◌+q◌ ◌-q◌ negq absq
  fracs_whole h = record {
    above = record { le = rw (max_one P Q, abs_plain n) (plain₁ h.0) };
    below = record { le = rw (max_one P Q, abs_plain n) (plain₂ h.1) };
  }
    where
      plain₁ : P * (G * den) ≤ P * (n * U) + n * U → (G * den + 0 * U) * (P * den) + (0 + 0 * n) * (U * den) ≤ (1 * n + 0) * (U * den) + (0 * den + n * U) * (P * den)
      plain₁ a = omega (arith, mul-le-mul_right den a)

      plain₂ : P * (n * U) ≤ P * (G * den) + n * U → (n * U + 0 * den) * (P * den) + (0 + 0 * n) * (den * U) ≤ (1 * n + 0) * (den * U) + (0 * U + G * den) * (P * den)
      plain₂ b = omega (arith, mul-le-mul_right den b)

-- ---- a finite float's value
pub value_≈ : (x : Float) (s : Bool) (a c : ℕ) (C : 0 < c) → HasValue x s a c → value x ≈q signed s a c C
unfolding value
value_≈ nan s a c C h = absurd h
value_≈ (inf t) s a c C h = absurd h
value_≈ (fin t m e) s a c C h = subst (λ (s : Bool). signed t (m * up e) (down e) (down_pos e) ≈q signed s a c C) h.0 (go t (m * up e) (down e) (down_pos e) h.1)
  where
    go : (t : Bool) (b d : ℕ) (D : 0 < d) → b * c ≡ a * d → signed t b d D ≈q signed t a c C
    go true b d D e = record { eq = omega arith }
    go false b d D e = record { eq = omega arith }

pub signed_not : (s : Bool) (a c : ℕ) (C : 0 < c) → signed (not s) a c C ≈q negq (signed s a c C)
unfolding negq
signed_not true a c C = ≈_refl (signed false a c C)
signed_not false a c C = ≈_refl (signed true a c C)

-- ±a / c in size
pub abs_signed : (s : Bool) (a c : ℕ) (C : 0 < c) → absq (signed s a c C) ≈q signed false a c C
unfolding absq
abs_signed false a c C = record { eq = ap (λ (t : ℕ). t * c + 0 * c) (plain a) }
  where
    plain : (a : ℕ) → a - 0 + (0 - a) ≡ a
    plain a = omega arith
abs_signed true a c C = record { eq = ap (λ (t : ℕ). t * c + 0 * c) (plain a) }
  where
    plain : (a : ℕ) → 0 - a + (a - 0) ≡ a
    plain a = omega arith

-- 1 / k ≤ a / c
pub above_frac : (a c k : ℕ) (C : 0 < c) → 0 < k → 1 // k ≤q signed false a c C → c ≤ a * k
unfolding ◌//◌
above_frac a c k C K h = go h.le
  where
    go : 1 * c + 0 * max k 1 ≤ a * max k 1 + 0 * c → c ≤ a * k
    go = rw (max_one k K) (λ (e : 1 * c + 0 * k ≤ a * k + 0 * c). omega arith)

-- the least normal value is 2 ^ (prec - 1) of the smallest
pub low_places : (f : Format) → 2 ^ low f ≡ 2 ^ (prec f - 1) * 2 ^ (emax f - 1)
low_places f = ap (λ (t : ℕ). 2 ^ t) (places f) ∙ pow-add 2 (prec f - 1) (emax f - 1)
  where
    places : (f : Format) → low f ≡ prec f - 1 + (emax f - 1)
    places lib.Ieee.Format.binary32 = refl
    places lib.Ieee.Format.binary64 = refl

-- the two bounds grow with the size of the number
pub frac_nonneg : (a b : ℕ) → nat 0 ≤q a // b
unfolding nat ◌//◌
frac_nonneg a b = record { le = omega arith }

pub rel_mono : (f : Format) (x y : ℚ) → absq x ≤q absq y → eps f *q absq x ≤q eps f *q absq y
rel_mono f x y h = *_mono (frac_nonneg 1 (2 ^ prec f)) h

pub err_mono : (f : Format) (x y : ℚ) → absq x ≤q absq y → err f x ≤q err f y
err_mono f x y h = +_mono (rel_mono f x y h) (≤_refl (tiny f))

-- ---- `round`
tiny_is : (f : Format) → 1 // (2 * 2 ^ low f) ≈q tiny f
tiny_is f = subst (λ (k : ℕ). 1 // k ≈q tiny f) (pow-succ' 2 (low f)) (≈_refl (tiny f))

module _ (f : Format) (num den : ℕ) (D : 0 < den) where
  plain_near : Within (signed false (grid f num den) (2 ^ low f) (pow_pos (low f))) (signed false num den D) (err f (signed false num den D))
  plain_near =
      within_mono (fracs (grid f num den) (2 ^ low f) num den (2 ^ prec f) (2 ^ (prec f - 1)) D (pow_pos (low f)) (pow_pos (prec f)) (pow_pred (prec f) (two-le_pos (prec f) (two f))) (grid_near f num den D))
      (+_mono (≤_refl (eps f *q absq (signed false num den D))) (≤_of_≈ (tiny_is f)))

  plain_near_whole : (w : ℕ) → num * 2 ^ low f ≡ w * den → Within (signed false (grid f num den) (2 ^ low f) (pow_pos (low f))) (signed false num den D) (eps f *q absq (signed false num den D))
  plain_near_whole w e = fracs_whole (grid f num den) (2 ^ low f) num den (2 ^ prec f) 0 D (pow_pos (low f)) (pow_pos (prec f)) (grid_near_whole f num den D w e)

  plain_near_normal : least_normal_lem f ≤q signed false num den D → Within (signed false (grid f num den) (2 ^ low f) (pow_pos (low f))) (signed false num den D) (eps f *q absq (signed false num den D))
  plain_near_normal h =
      let n = num * 2 ^ low f in
      let a : 2 ^ (prec f - 1) * den ≤ n = units (2 ^ (prec f - 1)) (2 ^ (emax f - 1)) (2 ^ low f) (low_places f) (above_frac num den (2 ^ (emax f - 1)) D (pow_pos (emax f - 1)) h) in
      fracs_whole (grid f num den) (2 ^ low f) num den (2 ^ prec f) 0 D (pow_pos (low f)) (pow_pos (prec f))
      (subst (λ (m : ℕ). Apart (2 ^ prec f * (grid f num den * den)) (2 ^ prec f * n) m) (max-eq_left a) (grid_near f num den D))
    where
      units : (p e u : ℕ) → u ≡ p * e → den ≤ num * e → p * den ≤ num * u
      units p e u i h = le_trans (mul-le-mul_left p h) (le_of_eq (omega (arith, ap (λ (t : ℕ). num * t) i)))

-- with the sign, for a bound B that sees only the size
both_signs : (B : ℚ → ℚ) → ((x y : ℚ) → absq x ≤q absq y → B x ≤q B y) → (s : Bool) (a c b d : ℕ) (C : 0 < c) (D : 0 < d) → Within (signed false a c C) (signed false b d D) (B (signed false b d D)) → Within (signed s a c C) (signed s b d D) (B (signed s b d D))
unfolding negq
both_signs B m false a c b d C D w = w
both_signs B m true a c b d C D w = within_mono (within_neg w) (m (signed false b d D) (signed true b d D) (≤_of_≈ (≈_sym (abs_neg (signed false b d D)))))

-- ---- x is the fraction z, rounded
pub record Rounded (f : Format) (x : Float) (z : ℚ) : Type 0 where
  pub sign : Bool
  pub num : ℕ
  pub den : ℕ
  pub den_pos : 0 < den
  pub is : x ≡ round f sign num den
  pub val : signed sign num den den_pos ≈q z

round_at : (f : Format) (s : Bool) (num den : ℕ) (D : 0 < den) (z : ℚ) → signed s num den D ≈q z → T (finite (round f s num den)) → (B : ℚ → ℚ) → ((x y : ℚ) → absq x ≤q absq y → B x ≤q B y)
    → Within (signed false (grid f num den) (2 ^ low f) (pow_pos (low f))) (signed false num den D) (B (signed false num den D)) → Within (value (round f s num den)) z (B z)
round_at f s num den D z Z t B m w =
    within_mono
    (within_≈ (≈_sym (value_≈ (round f s num den) s (grid f num den) (2 ^ low f) (pow_pos (low f)) (round_value f s num den (round_under f s num den t)))) Z
    (both_signs B m s (grid f num den) (2 ^ low f) num den (pow_pos (low f)) D w))
    (m (signed s num den D) z (abs_mono_≈ Z))

-- THE LAW: |x - z| ≤ 2 ^ -53 |z| + 2 ^ -1075
pub near : (f : Format) (x : Float) (z : ℚ) → Rounded f x z → T (finite x) → Within (value x) z (err f z)
near f x z r t =
    subst (λ (x : Float). Within (value x) z (err f z)) (sym r.is)
    (round_at f r.sign r.num r.den r.den_pos z r.val (subst (λ (x : Float). T (finite x)) r.is t) (λ z. err f z) (err_mono f) (plain_near f r.num r.den r.den_pos))

-- a whole number of the format's smallest values: then |x - z| ≤ 2 ^ -53 |z|
pub record OnGrid (f : Format) (z : ℚ) : Type 0 where
  pub above : ℕ
  pub below : ℕ
  pub grid_val : record { p = above; q = below; d = 2 ^ low f; d_pos = pow_pos (low f) } ≈q z

whole_of : (s : Bool) (num den a b U : ℕ) (D : 0 < den) (W : 0 < U) → signed s num den D ≈q record { p = a; q = b; d = U; d_pos = W } → (w : ℕ) × (num * U ≡ w * den)
whole_of true num den a b U D W e =
    let h = e.eq in
    let l : a ≤ b = le_of_mul-le-mul_right {k = den} (omega arith) D in
    let g : b - a + a ≡ b = omega arith in
    (b - a, omega (arith, ap (λ (t : ℕ). t * den) g))
whole_of false num den a b U D W e =
    let h = e.eq in
    let l : b ≤ a = le_of_mul-le-mul_right {k = den} (omega arith) D in
    let g : a - b + b ≡ a = omega arith in
    (a - b, omega (arith, ap (λ (t : ℕ). t * den) g))

pub near_grid : (f : Format) (x : Float) (z : ℚ) → Rounded f x z → OnGrid f z → T (finite x) → Within (value x) z (eps f *q absq z)
near_grid f x z r g t =
    let w = whole_of r.sign r.num r.den g.above g.below (2 ^ low f) r.den_pos (pow_pos (low f)) (≈_trans r.val (≈_sym g.grid_val)) in
    subst (λ (x : Float). Within (value x) z (eps f *q absq z)) (sym r.is)
    (round_at f r.sign r.num r.den r.den_pos z r.val (subst (λ (x : Float). T (finite x)) r.is t) (λ z. eps f *q absq z) (rel_mono f) (plain_near_whole f r.num r.den r.den_pos w.0 w.1))

-- from the least normal value on
pub near_normal : (f : Format) (x : Float) (z : ℚ) → Rounded f x z → least_normal_lem f ≤q absq z → T (finite x) → Within (value x) z (eps f *q absq z)
near_normal f x z r h t =
    let s = r.sign in let n = r.num in let d = r.den in
    let l : least_normal_lem f ≤q signed false n d r.den_pos = ≤_trans h (≤_of_≈ (≈_trans (abs_cong (≈_sym r.val)) (abs_signed s n d r.den_pos))) in
    subst (λ (x : Float). Within (value x) z (eps f *q absq z)) (sym r.is)
    (round_at f s n d r.den_pos z r.val (subst (λ (x : Float). T (finite x)) r.is t) (λ z. eps f *q absq z) (rel_mono f) (plain_near_normal f n d r.den_pos l))

-- finite, where |z| ≤ 2 ^ 1023
under_top : (f : Format) (num den : ℕ) → 0 < den → num ≤ 2 ^ emax f * den → num * 2 ^ low f + den * 2 ^ half_top f < overflow f * den
under_top f num den D h =
    let a : 2 ^ (low f + suc (emax f)) ≡ 2 ^ low f * (2 * 2 ^ emax f) = pow-add 2 (low f) (suc (emax f)) ∙ ap (λ (t : ℕ). 2 ^ low f * t) (pow-succ' 2 (emax f)) in
    let b : 2 ^ half_top f < 2 ^ (low f + emax f) = pow-lt (half_lt f) in
    let c : 2 ^ (low f + emax f) ≡ 2 ^ low f * 2 ^ emax f = pow-add 2 (low f) (emax f) in
    plain (2 ^ low f) (2 ^ emax f) (2 ^ half_top f) (2 ^ (low f + suc (emax f))) (2 ^ (low f + emax f)) a b c h
  where
    half_lt : (f : Format) → half_top f < low f + emax f
    half_lt lib.Ieee.Format.binary32 = lit≤ tt
    half_lt lib.Ieee.Format.binary64 = lit≤ tt

    plain : (L E K O M : ℕ) → O ≡ L * (2 * E) → K < M → M ≡ L * E → num ≤ E * den → num * L + den * K < O * den
    plain L E K O M a b c h = omega (arith, mul-le-mul_right L h, mul-le-mul_left den b, ap (λ (t : ℕ). t * den) a, ap (λ (t : ℕ). t * den) c)

size_of : (s : Bool) (num den M : ℕ) (D : 0 < den) → absq (signed s num den D) ≤q nat M → num ≤ M * den
unfolding absq nat
size_of true num den M D h = let e = h.le in omega arith
size_of false num den M D h = let e = h.le in omega arith

pub finite_of : (f : Format) (x : Float) (z : ℚ) → Rounded f x z → absq z ≤q nat (2 ^ emax f) → T (finite x)
finite_of f x z r h =
    let s = r.sign in let n = r.num in let d = r.den in
    let b : n ≤ 2 ^ emax f * d = size_of s n d (2 ^ emax f) r.den_pos (≤_trans (abs_mono_≈ r.val) h) in
    subst (λ (x : Float). T (finite x)) (sym r.is)
    (value_finite (round f s n d) s (grid f n d) (2 ^ low f) (round_value f s n d (grid_under f n d r.den_pos (under_top f n d r.den_pos b))))

-- both at once
pub rounds : (f : Format) (x : Float) (z : ℚ) → Rounded f x z → absq z ≤q nat (2 ^ emax f) → T (finite x) × Within (value x) z (err f z)
rounds f x z r h = let t = finite_of f x z r h in (t, near f x z r t)

-- ---- the product
signed_* : (s t : Bool) (a c b d : ℕ) (C : 0 < c) (D : 0 < d) (E : 0 < c * d) → signed (unlike s t) (a * b) (c * d) E ≈q signed s a c C *q signed t b d D
unfolding ◌*q◌
signed_* true true a c b d C D E = record { eq = omega arith }
signed_* true false a c b d C D E = record { eq = omega arith }
signed_* false true a c b d C D E = record { eq = omega arith }
signed_* false false a c b d C D E = record { eq = omega arith }

pub mul_rounded : (f : Format) (x y : Float) → T (finite x) → T (finite y) → Rounded f (mul f x y) (value x *q value y)
unfolding mul value
mul_rounded f nan y p q = absurd p
mul_rounded f (inf s) y p q = absurd p
mul_rounded f (fin s m e) nan p q = absurd q
mul_rounded f (fin s m e) (inf r) p q = absurd q
mul_rounded f (fin s m e) (fin r n d) p q = record {
  sign = unlike s r;
  num = m * up e * (n * up d);
  den = down e * down d;
  den_pos = mul-pos (down_pos e) (down_pos d);
  is = refl;
  val = signed_* s r (m * up e) (down e) (n * up d) (down d) (down_pos e) (down_pos d) (mul-pos (down_pos e) (down_pos d));
}

-- ---- the sum
module _ (f : Format) (c : ℕ) (C : 0 < c) (a b : ℕ) where
  by_round : (s : Bool) (n : ℕ) (z w : ℚ) → signed s n c C ≈q z → z ≈q w → Rounded f (round f s n c) w
  by_round s n z w e g = record { sign = s; num = n; den = c; den_pos = C; is = refl; val = ≈_trans e g }

  sum_rounded : (s t : Bool) (z : ℚ) → signed s a c C +q signed t b c C ≈q z → Rounded f (sum f s a t b c) z
  unfolding sum ◌+q◌
  sum_rounded true true z Z = by_round true (a + b) (signed true a c C +q signed true b c C) z (record { eq = omega arith }) Z
  sum_rounded false false z Z = by_round false (a + b) (signed false a c C +q signed false b c C) z (record { eq = omega arith }) Z
  sum_rounded false true z Z = go (ltb a b) (ltb→lt a b) (nltb→le a b)
    where
      less : a < b → signed true (b - a) c C ≈q signed false a c C +q signed true b c C
      less l = let e : b - a + a ≡ b = omega arith in record { eq = omega (arith, ap (λ (t : ℕ). t * (c * c)) e) }

      more : b ≤ a → signed false (a - b) c C ≈q signed false a c C +q signed true b c C
      more l = let e : a - b + b ≡ a = omega arith in record { eq = omega (arith, ap (λ (t : ℕ). t * (c * c)) e) }

      go : (u : Bool) → (T u → a < b) → (T (not u) → b ≤ a) → Rounded f (cond u (round f true (b - a) c) (round f false (a - b) c)) z
      go true h k = by_round true (b - a) (signed false a c C +q signed true b c C) z (less (h tt)) Z
      go false h k = by_round false (a - b) (signed false a c C +q signed true b c C) z (more (k tt)) Z
  sum_rounded true false z Z = go (ltb a b) (ltb→lt a b) (nltb→le a b)
    where
      less : a < b → signed false (b - a) c C ≈q signed true a c C +q signed false b c C
      less l = let e : b - a + a ≡ b = omega arith in record { eq = omega (arith, ap (λ (t : ℕ). t * (c * c)) e) }

      more : b ≤ a → (r : Bool) → (T (not r) → a ≤ b) → signed r (a - b) c C ≈q signed true a c C +q signed false b c C
      more l true h = let e : a - b + b ≡ a = omega arith in record { eq = omega (arith, ap (λ (t : ℕ). t * (c * c)) e) }
      more l false h = let e : a ≡ b = let g = h tt in omega arith in let i : a - b ≡ 0 = omega arith in record { eq = omega (arith, ap (λ (t : ℕ). t * (c * c)) e, ap (λ (t : ℕ). t * (c * c)) i) }

      go : (u : Bool) → (T u → a < b) → (T (not u) → b ≤ a) → Rounded f (cond u (round f false (b - a) c) (round f (ltb b a) (a - b) c)) z
      go true h k = by_round false (b - a) (signed true a c C +q signed false b c C) z (less (h tt)) Z
      go false h k = by_round (ltb b a) (a - b) (signed true a c C +q signed false b c C) z (more (k tt) (ltb b a) (nltb→le b a)) Z

signed_+ : (s t : Bool) (a c b d : ℕ) (C : 0 < c) (D : 0 < d) (E : 0 < c * d) → signed s (a * d) (c * d) E +q signed t (b * c) (c * d) E ≈q signed s a c C +q signed t b d D
unfolding ◌+q◌
signed_+ true true a c b d C D E = record { eq = omega arith }
signed_+ true false a c b d C D E = record { eq = omega arith }
signed_+ false true a c b d C D E = record { eq = omega arith }
signed_+ false false a c b d C D E = record { eq = omega arith }

pub add_rounded : (f : Format) (x y : Float) → T (finite x) → T (finite y) → Rounded f (add f x y) (value x +q value y)
unfolding add value
add_rounded f nan y p q = absurd p
add_rounded f (inf s) y p q = absurd p
add_rounded f (fin s m e) nan p q = absurd q
add_rounded f (fin s m e) (inf r) p q = absurd q
add_rounded f (fin s m e) (fin r n d) p q =
    sum_rounded f (down e * down d) (mul-pos (down_pos e) (down_pos d)) (m * up e * down d) (n * up d * down e) s r (value (fin s m e) +q value (fin r n d))
    (signed_+ s r (m * up e) (down e) (n * up d) (down d) (down_pos e) (down_pos d) (mul-pos (down_pos e) (down_pos d)))

-- ---- the difference
pub neg_finite : (x : Float) → T (finite x) → T (finite (neg x))
unfolding neg
neg_finite nan t = t
neg_finite (inf s) t = t
neg_finite (fin s m e) t = tt

pub value_neg : (x : Float) → value (neg x) ≈q negq (value x)
unfolding value neg negq nat
value_neg nan = ≈_refl (nat 0)
value_neg (inf s) = ≈_refl (nat 0)
value_neg (fin true m e) = ≈_refl (negq (value (fin true m e)))
value_neg (fin false m e) = ≈_refl (negq (value (fin false m e)))

-- what is rounded with the other sign
neg_odd : (d : ℕ) (s : Bool) (q k l : ℕ) → neg (odd d s q k l) ≡ odd d (not s) q k l
unfolding neg odd
neg_odd d s zero k l = refl
neg_odd d s (suc q) k l = refl

neg_units : (f : Format) (s : Bool) (q k : ℕ) → neg (units f s q k) ≡ units f (not s) q k
unfolding units
neg_units f s q k = go (ltb (q * 2 ^ k) (overflow f))
  where
    go : (b : Bool) → neg (cond b (odd (suc (prec f)) s q k (low f)) (inf s)) ≡ cond b (odd (suc (prec f)) (not s) q k (low f)) (inf (not s))
    go true = neg_odd (suc (prec f)) s q k (low f)
    go false = unfold neg in refl

pub neg_round : (f : Format) (s : Bool) (a c : ℕ) → neg (round f s a c) ≡ round f (not s) a c
neg_round f s a c = ap neg (round_is f s a c) ∙ neg_units f s (kept (prec f) (a * 2 ^ low f) c) (drop (prec f) (a * 2 ^ low f) c) ∙ sym (round_is f (not s) a c)

pub rounded_neg : {f : Format} {x : Float} {z : ℚ} → Rounded f x z → Rounded f (neg x) (negq z)
rounded_neg {f} {x} {z} r = record {
  sign = not r.sign;
  num = r.num;
  den = r.den;
  den_pos = r.den_pos;
  is = ap neg r.is ∙ neg_round f r.sign r.num r.den;
  val = ≈_trans (signed_not r.sign r.num r.den r.den_pos) (neg_cong r.val);
}

pub rounded_≈ : {f : Format} {x : Float} {z w : ℚ} → Rounded f x z → z ≈q w → Rounded f x w
rounded_≈ r e = record { sign = r.sign; num = r.num; den = r.den; den_pos = r.den_pos; is = r.is; val = ≈_trans r.val e }

pub sub_rounded : (f : Format) (x y : Float) → T (finite x) → T (finite y) → Rounded f (sub f x y) (value x -q value y)
unfolding sub ◌-q◌
sub_rounded f x y p q = rounded_≈ (add_rounded f x (neg y) p (neg_finite y q)) (+_cong (≈_refl (value x)) (value_neg y))

-- ---- the quotient: z is any fraction with z * y = x
signed_/ : (s t : Bool) (a c b d : ℕ) (C : 0 < c) (D : 0 < d) (E : 0 < b * c) (z : ℚ) → z *q signed t b d D ≈q signed s a c C → signed (unlike s t) (a * d) (b * c) E ≈q z
unfolding ◌*q◌
signed_/ true true a c b d C D E z h = let e = h.eq in record { eq = omega arith }
signed_/ true false a c b d C D E z h = let e = h.eq in record { eq = omega arith }
signed_/ false true a c b d C D E z h = let e = h.eq in record { eq = omega arith }
signed_/ false false a c b d C D E z h = let e = h.eq in record { eq = omega arith }

pub div_rounded : (f : Format) (x y : Float) (z : ℚ) → T (finite x) → T (finite y) → ¬ (value y ≈q nat 0) → z *q value y ≈q value x → Rounded f (div f x y) z
unfolding div value nat
div_rounded f nan y z p q nz h = absurd p
div_rounded f (inf s) y z p q nz h = absurd p
div_rounded f (fin s m e) nan z p q nz h = absurd q
div_rounded f (fin s m e) (inf r) z p q nz h = absurd q
div_rounded f (fin s m e) (fin r n d) z p q nz h = go (eqb n 0) (eqb→eq n 0) (eq-zero-or-pos n)
  where
    zero_is : (r : Bool) → n ≡ 0 → signed r (n * up d) (down d) (down_pos d) ≈q nat 0
    zero_is true e = let g = ap (λ (t : ℕ). t * up d) e in record { eq = omega arith }
    zero_is false e = let g = ap (λ (t : ℕ). t * up d) e in record { eq = omega arith }

    go : (b : Bool) → (T b → n ≡ 0) → (n ≡ 0) ⊎ (0 < n) → Rounded f (cond b (cond (eqb m 0) nan (inf (unlike s r))) (round f (unlike s r) (m * up e * down d) (n * up d * down e))) z
    go true k o = absurd (nz (zero_is r (k tt)))
    go false k (inl o) = absurd (nz (zero_is r o))
    go false k (inr o) = record {
      sign = unlike s r;
      num = m * up e * down d;
      den = n * up d * down e;
      den_pos = mul-pos (mul-pos o (up_pos d)) (down_pos e);
      is = refl;
      val = signed_/ s r (m * up e) (down e) (n * up d) (down d) (down_pos e) (down_pos d) (mul-pos (mul-pos o (up_pos d)) (down_pos e)) z h;
    }

sum_at : (a b c d u : ℕ) (W : 0 < u) → record { p = a + c; q = b + d; d = u; d_pos = W } ≈q record { p = a; q = b; d = u; d_pos = W } +q record { p = c; q = d; d = u; d_pos = W }
unfolding ◌+q◌
sum_at a b c d u W = record { eq = omega arith }

-- ---- sums of values that the format holds have no error of the absolute kind
pub pow_le_inv : (a b : ℕ) → 2 ^ a ≤ 2 ^ b → a ≤ b
pow_le_inv a b h = go (leb a b) (leb→le a b) (nleb→lt a b)
  where
    go : (t : Bool) → (T t → a ≤ b) → (T (not t) → b < a) → a ≤ b
    go true f g = f tt
    go false f g = absurd (not-le_of_lt (pow-lt (g tt)) h)

down_divides : (e : ℤ) (l : ℕ) → down e ≤ 2 ^ l → (c : ℕ) × (down e * c ≡ 2 ^ l)
down_divides (pos j) l h = (2 ^ l, omega arith)
down_divides (negsuc j) l h = (2 ^ (l - suc j), sym (pow-add 2 (suc j) (l - suc j)) ∙ ap (λ (t : ℕ). 2 ^ t) (add-sub_of_le (pow_le_inv (suc j) l h)))

grid_at : (f : Format) (s : Bool) (a c : ℕ) (C : 0 < c) (n : ℕ) → c * n ≡ 2 ^ low f → OnGrid f (signed s a c C)
grid_at f true a c C n e = record { above = 0; below = a * n; grid_val = record { eq = go (2 ^ low f) e } }
  where
    go : (l : ℕ) → c * n ≡ l → 0 * c + a * l ≡ 0 * l + a * n * c
    go l e = omega (arith, ap (λ (t : ℕ). a * t) e)
grid_at f false a c C n e = record { above = a * n; below = 0; grid_val = record { eq = go (2 ^ low f) e } }
  where
    go : (l : ℕ) → c * n ≡ l → a * n * c + 0 * l ≡ a * l + 0 * c
    go l e = omega (arith, ap (λ (t : ℕ). a * t) e)

pub fits_grid : (f : Format) (x : Float) → T (finite x) → T (fits f x) → OnGrid f (value x)
unfolding fits value
fits_grid f nan t h = absurd t
fits_grid f (inf s) t h = absurd t
fits_grid f (fin s zero e) t h =
    let one : up e * down e ≡ 1 = eqb→eq (up e * down e) 1 h in
    let d : down e ≡ 1 = small (up e) (down e) (up_pos e) (down_pos e) one in
    grid_at f s (0 * up e) (down e) (down_pos e) (2 ^ low f) (ap (λ (t : ℕ). t * 2 ^ low f) d ∙ one-mul (2 ^ low f))
  where
    small : (u d : ℕ) → 0 < u → 0 < d → u * d ≡ 1 → d ≡ 1
    small u d p q e = omega (arith, mul-le-mul_right d p)
fits_grid f (fin s (suc m) e) t h =
    let c = down_divides e (low f) (leb→le (down e) (2 ^ low f) (and_r (eqb (suc m % 2) 1 && ltb (suc m) (2 ^ prec f)) (leb (down e) (2 ^ low f)) (and_l (eqb (suc m % 2) 1 && ltb (suc m) (2 ^ prec f) && leb (down e) (2 ^ low f)) (ltb (suc m * up e) (2 ^ suc (emax f) * down e)) h))) in
    grid_at f s (suc m * up e) (down e) (down_pos e) c.0 c.1

neg_at : (a b u : ℕ) (W : 0 < u) {x : ℚ} → record { p = a; q = b; d = u; d_pos = W } ≈q x → record { p = b; q = a; d = u; d_pos = W } ≈q negq x
unfolding negq
neg_at a b u W e = let h = e.eq in record { eq = omega arith }

pub grid_+ : {f : Format} {x y : ℚ} → OnGrid f x → OnGrid f y → OnGrid f (x +q y)
grid_+ {f} {x} {y} g h = record { above = g.above + h.above; below = g.below + h.below; grid_val = ≈_trans (sum_at g.above g.below h.above h.below (2 ^ low f) (pow_pos (low f))) (+_cong g.grid_val h.grid_val) }

pub grid_neg : {f : Format} {x : ℚ} → OnGrid f x → OnGrid f (negq x)
grid_neg {f} {x} g = record { above = g.below; below = g.above; grid_val = neg_at g.above g.below (2 ^ low f) (pow_pos (low f)) g.grid_val }

pub grid_minus : {f : Format} {x y : ℚ} → OnGrid f x → OnGrid f y → OnGrid f (x -q y)
unfolding ◌-q◌
grid_minus g h = grid_+ g (grid_neg h)

-- the law for sums: |x - (a + b)| ≤ 2 ^ -53 |a + b|
pub add_near : (f : Format) (x y : Float) → T (finite x) → T (finite y) → T (fits f x) → T (fits f y) → T (finite (add f x y)) → Within (value (add f x y)) (value x +q value y) (eps f *q absq (value x +q value y))
add_near f x y p q a b t = near_grid f (add f x y) (value x +q value y) (add_rounded f x y p q) (grid_+ (fits_grid f x p a) (fits_grid f y q b)) t

-- and for differences
pub sub_near : (f : Format) (x y : Float) → T (finite x) → T (finite y) → T (fits f x) → T (fits f y) → T (finite (sub f x y)) → Within (value (sub f x y)) (value x -q value y) (eps f *q absq (value x -q value y))
sub_near f x y p q a b t = near_grid f (sub f x y) (value x -q value y) (sub_rounded f x y p q) (grid_minus (fits_grid f x p a) (fits_grid f y q b)) t

pub mul_near : (f : Format) (x y : Float) → T (finite x) → T (finite y) → T (finite (mul f x y)) → Within (value (mul f x y)) (value x *q value y) (err f (value x *q value y))
mul_near f x y p q t = near f (mul f x y) (value x *q value y) (mul_rounded f x y p q) t

pub div_near : (f : Format) (x y : Float) (z : ℚ) → T (finite x) → T (finite y) → ¬ (value y ≈q nat 0) → z *q value y ≈q value x → T (finite (div f x y)) → Within (value (div f x y)) z (err f z)
div_near f x y z p q nz h t = near f (div f x y) z (div_rounded f x y z p q nz h) t

-- against the quotient itself
pub div_rounded_q : (f : Format) (x y : Float) → T (finite x) → T (finite y) → ¬ (value y ≈q nat 0) → Rounded f (div f x y) (value x /q value y)
div_rounded_q f x y p q nz = div_rounded f x y (value x /q value y) p q nz (div_* (value x) (value y) nz)

pub div_near_q : (f : Format) (x y : Float) → T (finite x) → T (finite y) → ¬ (value y ≈q nat 0) → T (finite (div f x y)) → Within (value (div f x y)) (value x /q value y) (err f (value x /q value y))
div_near_q f x y p q nz t = near f (div f x y) (value x /q value y) (div_rounded_q f x y p q nz) t

-- ---- finite up to the largest finite value, 2 ^ 1024 - 2 ^ 971
abbrev pub largest : Format → ℕ
largest f = 2 ^ suc (emax f) - 2 ^ (suc (emax f) - prec f)

under_largest : (f : Format) (num den : ℕ) → 0 < den → num ≤ largest f * den → num * 2 ^ low f + den * 2 ^ half_top f < overflow f * den
under_largest f num den D h =
    let a : 2 ^ (low f + suc (emax f)) ≡ 2 ^ low f * 2 ^ suc (emax f) = pow-add 2 (low f) (suc (emax f)) in
    let b : 2 * 2 ^ half_top f ≡ 2 ^ low f * 2 ^ (suc (emax f) - prec f) = sym (pow-succ' 2 (half_top f)) ∙ ap (λ (t : ℕ). 2 ^ t) (places f) ∙ pow-add 2 (low f) (suc (emax f) - prec f) in
    plain (2 ^ low f) (2 ^ suc (emax f)) (2 ^ (suc (emax f) - prec f)) (2 ^ half_top f) (2 ^ (low f + suc (emax f))) a b (pow_mono (sub-le (suc (emax f)) (prec f))) (pow_pos (half_top f)) h
  where
    places : (f : Format) → suc (half_top f) ≡ low f + (suc (emax f) - prec f)
    places lib.Ieee.Format.binary32 = refl
    places lib.Ieee.Format.binary64 = refl

    plain : (L A K H O : ℕ) → O ≡ L * A → 2 * H ≡ L * K → K ≤ A → 0 < H → num ≤ (A - K) * den → num * L + den * H < O * den
    plain L A K H O a b c p h =
        let e : A - K + K ≡ A = omega arith in
        let g : num + K * den ≤ A * den = le_trans (omega arith) (le_of_eq (sym (add-mul (A - K) K den) ∙ ap (λ (t : ℕ). t * den) e)) in
        omega (arith, mul-le-mul_right L g, ap (λ (t : ℕ). t * den) a, ap (λ (t : ℕ). t * den) b, mul-pos D p)

pub finite_of_largest : (f : Format) (x : Float) (z : ℚ) → Rounded f x z → absq z ≤q nat (largest f) → T (finite x)
finite_of_largest f x z r h =
    let s = r.sign in let n = r.num in let d = r.den in
    subst (λ (x : Float). T (finite x)) (sym r.is)
    (value_finite (round f s n d) s (grid f n d) (2 ^ low f) (round_value f s n d (grid_under f n d r.den_pos (under_largest f n d r.den_pos (size_of s n d (largest f) r.den_pos (≤_trans (abs_mono_≈ r.val) h))))))
