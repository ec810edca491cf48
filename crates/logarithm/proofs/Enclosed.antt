-- A positive finite float lies between E at its logarithm in fixed point less 2^-45 and E at it plus 2^-45. Assumes nothing.
use Rattle.std.proofs.Common.{◌≡◌, ℕ, ◌+◌, ◌*◌, ◌^◌, ◌<◌, ◌≤◌, Bool, true, false, cond, ◌||◌, T, eqb, [], ◌∷◌, sym, refl, ap, ◌∙◌, subst, arith, eqb→eq, pow_pos}
use lib.Ieee.{Float, nan, inf, fin, binary64, up, down, lt, eq, fits, of_bits, to_bits}
use lib.Ieee.Bits.{of_bits-to_bits}
use lib.Ieee.Fits.{and_l, and_r, down_pos}
use Rattle.exact.specs.Fraction.{ℚ, ◌//◌, nat, ◌+q◌, ◌-q◌, negq, ◌*q◌, ◌≤q◌, ◌≈q◌}
use Rattle.exact.specs.FloatValue.{value}
use Rattle.exact.specs.Float64.{+0, +1}
use Rattle.exact.proofs.FractionLaws.{≈_refl, ≈_sym, ≤_of_≈, ≤_trans, *_cong, *_mono, *_comm, one_*}
use Rattle.exact.proofs.FractionProver.{qv, ##, ◌⊞◌, ◌⊟◌, ◌⊠◌, ⊝, req}
use Rattle.exact.proofs.Rounding.{frac_nonneg}
use Rattle.exact.proofs.Tests.{clash}
use Rattle.exact.proofs.PositivePatterns.{units_of, units_of_pattern, bits_above}
use Rattle.series.specs.Series.{E, Enough}
use Rattle.series.proofs.Quotients.{◌⟫◌, frac_≈, frac_reciprocal}
use Rattle.series.proofs.Order.{E_cong, E_reciprocal, E_nonneg}
use Rattle.series.proofs.ProductLaws.{product_nonneg}
use Rattle.exponential.proofs.FixedPoint.{value_is}
use Rattle.logarithm.specs.Logarithm.{log_bits, log_of}
use Rattle.logarithm.specs.declared.Log.{Log}
use Rattle.logarithm.specs.declared.Log.TheVariants.{Undefined, BaseZero, BaseOne, Above, Below}
use Rattle.logarithm.proofs.WholeBounds.{Fixed, B, D}
use Rattle.logarithm.proofs.Enclosure.{δ, fixed, not_above, not_below}
use Rattle.logarithm.proofs.Decoded.{Decoded, over, under, decoded}

pub record Enclosed (x ℓ : ℚ) : Type 0 where
  pub low : {N : ℕ} → Enough N → E N (ℓ -q δ) ≤q x
  pub high : {N : ℕ} → Enough N → x ≤q E N (ℓ +q δ)

-- what the logarithm says of a positive finite number
pub data Logged (x : ℚ) : Log → Type 0 where
  one : x ≈q nat 1 → Logged x BaseOne
  above : (v : ℕ) → v * 2048 + D ≤ 760 * B → Enclosed x (fixed v) → Logged x (Above v)
  below : (v : ℕ) → v * 2048 + D ≤ 760 * B → Enclosed x (negq (fixed v)) → Logged x (Below v)

-- x = 1 / y and e' = 1 / e: x ≤ e' where e ≤ y
reciprocal_≤ : {x y e e' : ℚ} → nat 0 ≤q x → nat 0 ≤q e' → e *q e' ≈q nat 1 → x *q y ≈q nat 1 → e ≤q y → x ≤q e'
reciprocal_≤ {x} {y} {e} {e'} p q f g h =
    ≤_trans (≤_of_≈ (req (x ∷ []) (qv 0) (qv 0 ⊠ ## 1) tt tt ⟫ *_cong (≈_refl x) (≈_sym f) ⟫ req (x ∷ e ∷ e' ∷ []) (qv 0 ⊠ (qv 1 ⊠ qv 2)) (qv 0 ⊠ qv 2 ⊠ qv 1) tt tt))
    (≤_trans (*_mono (product_nonneg p q) h) (≤_of_≈ (req (x ∷ e' ∷ y ∷ []) (qv 0 ⊠ qv 1 ⊠ qv 2) (qv 0 ⊠ qv 2 ⊠ qv 1) tt tt ⟫ *_cong g (≈_refl e') ⟫ one_* e')))

enclosed_above : {x : ℚ} {v u w : ℕ} → Fixed v u w → x ≈q u // w → Enclosed x (fixed v)
enclosed_above F e = record {
  low = λ n. ≤_trans (not_below F n) (≤_of_≈ (≈_sym e));
  high = λ n. ≤_trans (≤_of_≈ e) (not_above F n);
}

enclosed_below : {x : ℚ} {v u w : ℕ} → Fixed v u w → 0 < u → x ≈q w // u → Enclosed x (negq (fixed v))
enclosed_below {x} {v} {u} {w} F U e =
    let X : nat 0 ≤q x = ≤_trans (frac_nonneg w u) (≤_of_≈ (≈_sym e)) in
    let xy : x *q (u // w) ≈q nat 1 = *_cong e (≈_refl (u // w)) ⟫ frac_reciprocal w u F.divisor U in
    record {
      low = λ {N} n.
          ≤_trans (≤_of_≈ (E_cong N (req (fixed v ∷ δ ∷ []) (⊝ (qv 0) ⊟ qv 1) (⊝ (qv 0 ⊞ qv 1)) tt tt)))
          (reciprocal_≤ (E_nonneg N (negq (fixed v +q δ))) X (*_comm (u // w) x ⟫ xy) (*_comm (E N (negq (fixed v +q δ))) (E N (fixed v +q δ)) ⟫ E_reciprocal N (fixed v +q δ)) (not_above F n));
      high = λ {N} n.
          ≤_trans (reciprocal_≤ X (E_nonneg N (negq (fixed v -q δ))) (E_reciprocal N (fixed v -q δ)) xy (not_below F n))
          (≤_of_≈ (E_cong N (req (fixed v ∷ δ ∷ []) (⊝ (qv 0 ⊟ qv 1)) (⊝ (qv 0) ⊞ qv 1) tt tt)));
    }

-- ---- from the float
equal_one : (x : Float) → eq x +1 ≡ true → value x ≈q nat 1
unfolding eq value nat of_bits
equal_one nan e = absurd (subst T (sym e) tt)
equal_one (inf s) e = absurd (subst T (sym e) tt)
equal_one (fin false m d) e = record { eq = plain (m * up d) (down d) (eqb→eq (m * up d * 1) (1 * 1 * down d) (and_l (eqb (m * up d * 1) (1 * 1 * down d)) (true || eqb (m * up d * 1) 0) (subst T (sym e) tt))) }
  where
    plain : (a c : ℕ) → a * 1 ≡ 1 * 1 * c → a * 1 + 0 * c ≡ 1 * c + 0 * 1
    plain a c e = omega arith
equal_one (fin true m d) e = absurd (none (m * up d) (down d) (down_pos d) (eqb→eq (m * up d * 1) (1 * 1 * down d) (and_l (eqb (m * up d * 1) (1 * 1 * down d)) (false || eqb (m * up d * 1) 0) t)) (eqb→eq (m * up d * 1) 0 (and_r (eqb (m * up d * 1) (1 * 1 * down d)) (false || eqb (m * up d * 1) 0) t)))
  where
    t : T (eq (fin true m d) +1)
    t = subst T (sym e) tt

    none : (a c : ℕ) → 0 < c → a * 1 ≡ 1 * 1 * c → a * 1 ≡ 0 → ⊥
    none a c C e f = omega arith

one_itself : eq +1 +1 ≡ true
unfolding eq of_bits
one_itself = refl

module _ (x : Float) (t : T (fits binary64 x)) (p : lt +0 x ≡ true) (q : lt x (inf false) ≡ true) where
  abbrev b : ℕ
  b = to_bits binary64 x

  pub range : (0 < to_bits binary64 x) × (to_bits binary64 x < 2047 * 2 ^ 52)
  unfolding of_bits
  range = bits_above x t p q

  pub value_of : value x ≈q units_of b // 2 ^ 1074
  value_of = subst (λ (y : Float). value y ≈q units_of b // 2 ^ 1074) (of_bits-to_bits binary64 x t) (value_is (of_bits binary64 b) (units_of b) (2 ^ 1074) (pow_pos 1074) (units_of_pattern b range.1))

  from_bits : Decoded b → Logged (value x) (log_bits b)
  from_bits (over v u w e F h) = subst (λ (l : Log). Logged (value x) l) (sym e) (above v F.moderate (enclosed_above F (value_of ⟫ frac_≈ (units_of b) u (pow_pos 1074) F.divisor h)))
  from_bits (under v u w e F U h) = subst (λ (l : Log). Logged (value x) l) (sym e) (below v F.moderate (enclosed_below F U (value_of ⟫ frac_≈ (units_of b) w (pow_pos 1074) U h)))

  pub not_one : eq x +1 ≡ false → to_bits binary64 x ≡ 1023 * 2 ^ 52 → ⊥
  not_one e h = clash (sym one_itself ∙ ap (λ (y : Float). eq y +1) (sym (sym (of_bits-to_bits binary64 x t) ∙ ap (λ (n : ℕ). of_bits binary64 n) h)) ∙ e)

  pub logged : Logged (value x) (log_of x)
  unfolding log_of
  logged = subst (λ (l : Log). Logged (value x) l) (ap (λ (s : Bool). cond s (cond (lt x (inf false)) (cond (eq x +1) BaseOne (log_bits (to_bits binary64 x))) Undefined) (cond (eq x +0) BaseZero Undefined)) (sym p)) (subst (λ (l : Log). Logged (value x) l) (ap (λ (s : Bool). cond s (cond (eq x +1) BaseOne (log_bits (to_bits binary64 x))) Undefined) (sym q)) (by_test (eq x +1) refl))
    where
      by_test : (s : Bool) → eq x +1 ≡ s → Logged (value x) (cond s BaseOne (log_bits (to_bits binary64 x)))
      by_test true e = one (equal_one x e)
      by_test false e = from_bits (decoded b range.0 range.1 (not_one e))
