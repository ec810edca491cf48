-- Rounding keeps the order: of two fractions the larger rounds to a value that is no smaller. So a rounded result does not cross a number that the format holds,
-- and it is finite where the exact result is at most such a number in size.
use Prim.Native.Nat.{ℕ, suc, ◌+◌, ◌*◌, ◌^◌, ◌≤◌, ◌<◌}
use mathlib.Core.Path.{◌≡◌, refl, sym, ap, ◌∙◌, subst}
use mathlib.Core.Logic.{inl, inr}
use mathlib.Core.List.{[], ◌∷◌}
use mathlib.Core.Bool.{Bool, true, false, cond}
use native.Mathlib.Nat.{lt_of_le_of_lt, mul-pos, mul-le-mul_right, le_of_mul-le-mul_right, eq-zero-or-pos, zero-mul}
use native.Mathlib.Omega.{arith}
use lib.Dec.{T, ltb}
use lib.Pow.{pow_pos}
use lib.Ieee.{Float, nan, inf, fin, Format, prec, low, odd, units, round, le, lt, eq, fits}
use lib.Ieee.Fits.{round_is}
use lib.Ieee.Exact.{odd_sign}
use lib.Ieee.Order.{kept, drop, round_mono}
use lib.Ieee.Scale.{grid, overflow, finite}
use Rattle.exact.specs.Fraction.{ℚ, nat, negq, absq, ◌≤q◌, ◌≈q◌}
use Rattle.exact.specs.FloatValue.{signed, value}
use Rattle.exact.proofs.FractionLaws.{≈_sym, ≈_trans, ≤_of_≈, ≤_trans, ≤_antisym}
use Rattle.exact.proofs.FractionProver.{qv, ⊝, linq, ◌⊑◌by◌}
use Rattle.exact.proofs.StrictOrder.{≤_≈}
use Rattle.exact.proofs.AbsoluteValue.{le_abs, neg_le_abs, abs_cong, abs_cases, abs_between, neg_le_of_abs, le_of_abs}
use Rattle.exact.proofs.RoundingGrid.{grid_near_whole, round_under, round_value, value_finite}
use Rattle.exact.proofs.Rounding.{Rounded, value_≈, abs_signed}
use Rattle.exact.proofs.Comparisons.{le→≤}
use Rattle.exact.proofs.Representable.{Representable, representable_neg, rounded_exact, fits_representable, nat_representable}

-- ---- in whole numbers of the smallest value
not_above_finite : (y : Float) → T (finite y) → T (le (inf false) y) → ⊥
unfolding le lt eq
not_above_finite nan q l = q
not_above_finite (inf s) q l = q
not_above_finite (fin s m e) q l = l

units_finite : (f : Format) (n k : ℕ) (y : Float) → T (finite y) → T (le (units f false n k) y) → T (finite (units f false n k))
unfolding units
units_finite f n k y q = go (ltb (n * 2 ^ k) (overflow f))
  where
    go : (b : Bool) → T (le (cond b (odd (suc (prec f)) false n k (low f)) (inf false)) y) → T (finite (cond b (odd (suc (prec f)) false n k (low f)) (inf false)))
    go true l = value_finite (odd (suc (prec f)) false n k (low f)) false (n * 2 ^ k) (2 ^ low f) (odd_sign (suc (prec f)) false n k (low f))
    go false l = not_above_finite y q l

finite_below : (f : Format) (a b : ℕ) (y : Float) → T (finite y) → T (le (round f false a b) y) → T (finite (round f false a b))
finite_below f a b y q l =
    let n = kept (prec f) (a * 2 ^ low f) b in let k = drop (prec f) (a * 2 ^ low f) b in
    subst (λ (z : Float). T (finite z)) (sym (round_is f false a b)) (units_finite f n k y q (subst (λ (z : Float). T (le z y)) (round_is f false a b) l))

plain_le : (g h u : ℕ) (U : 0 < u) → signed false g u U ≤q signed false h u U → g ≤ h
plain_le g h u U l = le_of_mul-le-mul_right {k = u} (let e = l.le in omega arith) U

pub grid_mono : (f : Format) (a b c d : ℕ) → 0 < b → 0 < d → a * d ≤ c * b → grid f c d < overflow f → grid f a b ≤ grid f c d
grid_mono f a b c d B D h o =
    let l = round_mono f a b c d B D h in
    let v = round_value f false c d o in
    let q = value_finite (round f false c d) false (grid f c d) (2 ^ low f) v in
    let p = finite_below f a b (round f false c d) q l in
    let u = round_value f false a b (round_under f false a b p) in
    plain_le (grid f a b) (grid f c d) (2 ^ low f) (pow_pos (low f))
    (≤_≈ (value_≈ (round f false a b) false (grid f a b) (2 ^ low f) (pow_pos (low f)) u) (value_≈ (round f false c d) false (grid f c d) (2 ^ low f) (pow_pos (low f)) v) (le→≤ (round f false a b) (round f false c d) p q l))

pub grid_zero : (f : Format) (b : ℕ) → 0 < b → grid f 0 b ≡ 0
grid_zero f b B = elim (eq-zero-or-pos (grid f 0 b)) [
  | inl e ↦ e
  | inr g ↦ absurd (clash (2 ^ prec f) (grid f 0 b * b) (2 ^ low f) (mul-pos (pow_pos (prec f)) (mul-pos g B)) (grid_near_whole f 0 b B 0 (zero-mul (2 ^ low f) ∙ sym (zero-mul b))).0)
]
  where
    clash : (p g u : ℕ) → 0 < p * g → p * g ≤ p * (0 * u) + 0 * u → ⊥
    clash p g u a b = omega arith

-- ---- with signs
signed_mono : (f : Format) (s t : Bool) (a b c d : ℕ) (B : 0 < b) (D : 0 < d) → signed s a b B ≤q signed t c d D → grid f a b < overflow f → grid f c d < overflow f
    → signed s (grid f a b) (2 ^ low f) (pow_pos (low f)) ≤q signed t (grid f c d) (2 ^ low f) (pow_pos (low f))
signed_mono f false false a b c d B D h o p = let e = h.le in let g = grid_mono f a b c d B D (omega arith) p in record { le = omega (arith, mul-le-mul_right (2 ^ low f) g) }
signed_mono f true true a b c d B D h o p = let e = h.le in let g = grid_mono f c d a b D B (omega arith) o in record { le = omega (arith, mul-le-mul_right (2 ^ low f) g) }
signed_mono f true false a b c d B D h o p = record { le = omega arith }
signed_mono f false true a b c d B D h o p =
    let e = h.le in
    let x : a ≡ 0 = none a d D (omega arith) in let y : c ≡ 0 = none c b B (omega arith) in
    let i : grid f a b ≡ 0 = ap (λ (t : ℕ). grid f t b) x ∙ grid_zero f b B in let j : grid f c d ≡ 0 = ap (λ (t : ℕ). grid f t d) y ∙ grid_zero f d D in
    record { le = omega (arith, ap (λ (t : ℕ). t * 2 ^ low f) i, ap (λ (t : ℕ). t * 2 ^ low f) j) }
  where
    none : (a d : ℕ) → 0 < d → a * d ≡ 0 → a ≡ 0
    none a d D e = elim (eq-zero-or-pos a) [ inl z ↦ z | inr g ↦ absurd (let m = mul-pos g D in clash (a * d) m e) ]
      where
        clash : (n : ℕ) → 0 < n → n ≡ 0 → ⊥
        clash n m e = omega arith

-- ---- THE LAW: z ≤ w, both rounded
module _ {f : Format} {x : Float} {z : ℚ} (r : Rounded f x z) where
  pub rounded_under : T (finite x) → grid f r.num r.den < overflow f
  rounded_under t = round_under f r.sign r.num r.den (subst (λ (x : Float). T (finite x)) r.is t)

  pub rounded_value : T (finite x) → value x ≈q signed r.sign (grid f r.num r.den) (2 ^ low f) (pow_pos (low f))
  rounded_value t =
      subst (λ (x : Float). value x ≈q signed r.sign (grid f r.num r.den) (2 ^ low f) (pow_pos (low f))) (sym r.is)
      (value_≈ (round f r.sign r.num r.den) r.sign (grid f r.num r.den) (2 ^ low f) (pow_pos (low f)) (round_value f r.sign r.num r.den (rounded_under t)))

  finite_by_grid : grid f r.num r.den < overflow f → T (finite x)
  finite_by_grid o = subst (λ (x : Float). T (finite x)) (sym r.is) (value_finite (round f r.sign r.num r.den) r.sign (grid f r.num r.den) (2 ^ low f) (round_value f r.sign r.num r.den o))

pub rounded_mono : {f : Format} {x y : Float} {z w : ℚ} → Rounded f x z → Rounded f y w → T (finite x) → T (finite y) → z ≤q w → value x ≤q value y
rounded_mono {f} r k t u h =
    ≤_≈ (≈_sym (rounded_value r t)) (≈_sym (rounded_value k u))
    (signed_mono f r.sign k.sign r.num r.den k.num k.den r.den_pos k.den_pos (≤_≈ (≈_sym r.val) (≈_sym k.val) h) (rounded_under r t) (rounded_under k u))

-- the same number rounds to the same number
pub rounded_same : {f : Format} {x y : Float} {z w : ℚ} → Rounded f x z → Rounded f y w → T (finite x) → T (finite y) → z ≈q w → value x ≈q value y
rounded_same r k t u e = ≤_antisym (rounded_mono r k t u (≤_of_≈ e)) (rounded_mono k r u t (≤_of_≈ (≈_sym e)))

-- ---- a number that the format holds is not crossed
abbrev itself : {f : Format} {w : ℚ} (h : Representable f w) → Rounded f (round f h.sign (h.digits * 2 ^ h.place) (2 ^ low f)) w
itself {f} h = record { sign = h.sign; num = h.digits * 2 ^ h.place; den = 2 ^ low f; den_pos = pow_pos (low f); is = refl; val = h.is }

module _ {f : Format} {x : Float} {z w : ℚ} (r : Rounded f x z) (t : T (finite x)) (h : Representable f w) where
  pub rounded_≤ : z ≤q w → value x ≤q w
  rounded_≤ l = let e = rounded_exact (itself h) h in ≤_trans (rounded_mono r (itself h) t e.0 l) (≤_of_≈ e.1)

  pub rounded_≥ : w ≤q z → w ≤q value x
  rounded_≥ l = let e = rounded_exact (itself h) h in ≤_trans (≤_of_≈ (≈_sym e.1)) (rounded_mono (itself h) r e.0 t l)

-- in size
pub rounded_finite : {f : Format} {x : Float} {z w : ℚ} → Rounded f x z → Representable f w → absq z ≤q absq w → T (finite x)
rounded_finite {f} {x} {z} {w} r h l =
    let e = rounded_exact (itself h) h in
    let n = r.num in let d = r.den in let m = h.digits * 2 ^ h.place in
    let c : signed false n d r.den_pos ≤q signed false m (2 ^ low f) (pow_pos (low f)) =
    ≤_≈ (≈_trans (abs_cong (≈_sym r.val)) (abs_signed r.sign n d r.den_pos)) (≈_trans (abs_cong (≈_sym h.is)) (abs_signed h.sign m (2 ^ low f) (pow_pos (low f)))) l in
    finite_by_grid r (lt_of_le_of_lt (grid_mono f n d m (2 ^ low f) r.den_pos (pow_pos (low f)) (let i = c.le in omega arith) (rounded_under (itself h) e.0)) (rounded_under (itself h) e.0))

-- |z| ≤ w: the result is finite, and at most w in size
pub rounded_abs_≤ : {f : Format} {x : Float} {z w : ℚ} → Rounded f x z → Representable f w → absq z ≤q w → T (finite x) × (absq (value x) ≤q w)
rounded_abs_≤ {f} {x} {z} {w} r h l =
    let t = rounded_finite r h (≤_trans l (le_abs w)) in
    (t, abs_between (rounded_≥ r t (representable_neg h) (neg_le_of_abs l)) (rounded_≤ r t h (le_of_abs l)))

-- w ≤ |z|
pub rounded_abs_≥ : {f : Format} {x : Float} {z w : ℚ} → Rounded f x z → T (finite x) → Representable f w → w ≤q absq z → w ≤q absq (value x)
rounded_abs_≥ {f} {x} {z} {w} r t h l = elim (abs_cases z) [
  | inl e ↦ ≤_trans (rounded_≥ r t h (≤_trans l (≤_of_≈ e.1))) (le_abs (value x))
  | inr e ↦
      let k : z ≤q negq w = linq (z ∷ w ∷ []) ((qv 1 ⊑ ⊝ (qv 0) by 1) ∷ []) 0 (qv 0) (⊝ (qv 1)) tt (≤_trans l (≤_of_≈ e.1)) in
      let v = rounded_≤ r t (representable_neg h) k in
      ≤_trans (linq (value x ∷ w ∷ []) ((qv 0 ⊑ ⊝ (qv 1) by 1) ∷ []) 0 (qv 1) (⊝ (qv 0)) tt v) (neg_le_abs (value x))
]

-- ---- signs
module _ {f : Format} {x : Float} {z : ℚ} (r : Rounded f x z) (t : T (finite x)) where
  pub rounded_nonneg : nat 0 ≤q z → nat 0 ≤q value x
  rounded_nonneg h = rounded_≥ r t (nat_representable f 0 (pow_pos (prec f))) h

  pub rounded_nonpos : z ≤q nat 0 → value x ≤q nat 0
  rounded_nonpos h = rounded_≤ r t (nat_representable f 0 (pow_pos (prec f))) h

  pub rounded_zero : z ≈q nat 0 → value x ≈q nat 0
  rounded_zero e = ≤_antisym (rounded_nonpos (≤_of_≈ e)) (rounded_nonneg (≤_of_≈ (≈_sym e)))

  -- ---- against a float c of the format
  module _ (c : Float) (p : T (finite c)) (q : T (fits f c)) where
    pub rounded_≤_float : z ≤q value c → value x ≤q value c
    rounded_≤_float h = rounded_≤ r t (fits_representable f c p q) h

    pub rounded_≥_float : value c ≤q z → value c ≤q value x
    rounded_≥_float h = rounded_≥ r t (fits_representable f c p q) h

pub rounded_abs_≤_float : {f : Format} {x : Float} {z : ℚ} → Rounded f x z → (c : Float) → T (finite c) → T (fits f c) → absq z ≤q value c → T (finite x) × (absq (value x) ≤q value c)
rounded_abs_≤_float {f} r c p q h = rounded_abs_≤ r (fits_representable f c p q) h
