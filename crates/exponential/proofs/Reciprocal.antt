-- The reciprocal of `exp_fixed X`, rounded once: within 2^-45 of E at the negative arguments. Assumes nothing.
use Rattle.std.proofs.Common.{ℕ, ◌+◌, ◌*◌, ◌^◌, ◌≤◌, T, [], ◌∷◌, lit<}
use lib.Ieee.{binary64, of_bits, emax}
use lib.Ieee.Scale.{finite}
use Rattle.exact.specs.Fraction.{ℚ, ◌//◌, nat, ◌-q◌, negq, ◌*q◌, absq, ◌≤q◌, ◌≈q◌, Within, leqb}
use Rattle.exact.specs.FloatValue.{value, tiny}
use Rattle.exact.specs.Float64.{◌⊘◌, +1}
use Rattle.exact.proofs.FractionLaws.{≈_refl, ≈_sym, *_comm, *_cong, one_*, ≤_of_≈, ≤_refl, ≤_trans, *_mono, lit_≤}
use Rattle.exact.proofs.FractionProver.{qv, ##, ◌÷◌, ◌⊞◌, ◌⊟◌, ◌⊠◌, ⊝, leq, req, linq, ◌⊑◌by◌}
use Rattle.exact.proofs.Closeness.{abs_le}
use Rattle.exact.proofs.Constants.{value_+1}
use Rattle.exact.proofs.Representable.{nat_representable}
use Rattle.exact.proofs.RoundingOrder.{rounded_≤, rounded_nonneg}
use Rattle.exact.proofs.Rounding.{Rounded, div_rounded, finite_of, near}
use Rattle.series.specs.Series.{E, Enough}
use Rattle.series.proofs.Quotients.{◌⟫◌}
use Rattle.series.proofs.Order.{E_reciprocal, E_nonneg}
use Rattle.exact.proofs.StrictOrder.{*_nonneg}
use Rattle.exponential.specs.Exponential.{exp_fixed}
use Rattle.exponential.specs.Accuracy.{parts}
use Rattle.exponential.proofs.FixedPoint.{fixed_finite, fixed_at_least, fixed_at_most, fixed_close, fixed_not_zero, inverse, inverse_is, inverse_nonneg}

tiny_small : tiny binary64 *q nat (2 ^ 1021) ≤q 1 // 2 ^ 54
unfolding leqb nat ◌//◌ ◌*q◌
tiny_small = lit_≤ tt

tiny_nonneg : nat 0 ≤q tiny binary64
unfolding leqb nat ◌//◌
tiny_nonneg = lit_≤ tt

one_small : nat 1 ≤q nat (2 ^ emax binary64)
unfolding leqb nat
one_small = lit_≤ tt

-- c y = j and c e = i: from the closeness of y and e that of j and i
module _ (c y e j i : ℚ) (C : nat 0 ≤q c) (cy : c *q y ≈q j) (ce : c *q e ≈q i) where
  spread : c *q (1 // 2 ^ 47 *q e) ≈q 1 // 2 ^ 47 *q i
  spread = req (c ∷ e ∷ []) (qv 0 ⊠ (1 ÷ 2 ^ 47 ⊠ qv 1)) (1 ÷ 2 ^ 47 ⊠ (qv 0 ⊠ qv 1)) tt tt ⟫ *_cong (≈_refl (1 // 2 ^ 47)) ce

  scaled : y -q e ≤q 1 // 2 ^ 47 *q e → j -q i ≤q 1 // 2 ^ 47 *q i
  scaled h =
      linq (c ∷ y ∷ e ∷ j ∷ i ∷ []) ((qv 0 ⊠ (qv 1 ⊟ qv 2) ⊑ 1 ÷ 2 ^ 47 ⊠ qv 4 by 1) ∷ (qv 3 ⊑ qv 0 ⊠ qv 1 by 1) ∷ (qv 0 ⊠ qv 2 ⊑ qv 4 by 1) ∷ []) 0 (qv 3 ⊟ qv 4) (1 ÷ 2 ^ 47 ⊠ qv 4) tt
      (≤_trans (*_mono C h) (≤_of_≈ spread)) (≤_of_≈ (≈_sym cy)) (≤_of_≈ ce)

  scaled' : e -q y ≤q 1 // 2 ^ 47 *q e → i -q j ≤q 1 // 2 ^ 47 *q i
  scaled' h =
      linq (c ∷ y ∷ e ∷ j ∷ i ∷ []) ((qv 0 ⊠ (qv 2 ⊟ qv 1) ⊑ 1 ÷ 2 ^ 47 ⊠ qv 4 by 1) ∷ (qv 4 ⊑ qv 0 ⊠ qv 2 by 1) ∷ (qv 0 ⊠ qv 1 ⊑ qv 3 by 1) ∷ []) 0 (qv 4 ⊟ qv 3) (1 ÷ 2 ^ 47 ⊠ qv 4) tt
      (≤_trans (*_mono C h) (≤_of_≈ spread)) (≤_of_≈ (≈_sym ce)) (≤_of_≈ cy)

module _ (X : ℕ) (h : X ≤ 700 * 2 ^ 53) where
  abbrev y : ℚ
  y = value (exp_fixed X)

  abbrev i : ℚ
  i = inverse X h

  i_is : i *q y ≈q nat 1
  i_is = inverse_is X h

  i_nonneg : nat 0 ≤q i
  i_nonneg = inverse_nonneg X h

  i_abs : absq i ≤q i
  i_abs = abs_le (≤_refl i) (linq (i ∷ []) ((## 0 ⊑ qv 0 by 2) ∷ []) 0 (⊝ (qv 0)) (qv 0) tt i_nonneg)

  -- i = i 1 ≤ i y = 1
  i_one : i ≤q nat 1
  i_one = ≤_trans (leq (i ∷ []) (qv 0) (qv 0 ⊠ ## 1) tt) (≤_trans (*_mono i_nonneg (fixed_at_least X h)) (≤_of_≈ i_is))

  -- 1 = i y ≤ i 2^1021
  i_large : nat 1 ≤q i *q nat (2 ^ 1021)
  i_large = ≤_trans (≤_of_≈ (≈_sym i_is)) (*_mono i_nonneg (fixed_at_most X h))

  i_tiny : tiny binary64 ≤q i *q (1 // 2 ^ 54)
  i_tiny =
      let t = tiny binary64 in
      ≤_trans (leq (t ∷ []) (qv 0) (qv 0 ⊠ ## 1) tt)
      (≤_trans (*_mono tiny_nonneg i_large)
      (≤_trans (≤_of_≈ (req (t ∷ i ∷ nat (2 ^ 1021) ∷ []) (qv 0 ⊠ (qv 1 ⊠ qv 2)) (qv 1 ⊠ (qv 0 ⊠ qv 2)) tt tt)) (*_mono i_nonneg tiny_small)))

  rounded : Rounded binary64 (+1 ⊘ exp_fixed X) i
  unfolding of_bits
  rounded = div_rounded binary64 +1 (exp_fixed X) i tt (fixed_finite X h) (fixed_not_zero X h) (i_is ⟫ ≈_sym value_+1)

  pub fixed_inverse_finite : T (finite (+1 ⊘ exp_fixed X))
  fixed_inverse_finite = finite_of binary64 (+1 ⊘ exp_fixed X) i rounded (≤_trans i_abs (≤_trans i_one one_small))

  pub fixed_inverse_at_most : value (+1 ⊘ exp_fixed X) ≤q nat 1
  fixed_inverse_at_most = rounded_≤ rounded fixed_inverse_finite (nat_representable binary64 1 (lit< tt)) i_one

  pub fixed_inverse_nonneg : nat 0 ≤q value (+1 ⊘ exp_fixed X)
  fixed_inverse_nonneg = rounded_nonneg rounded fixed_inverse_finite i_nonneg

  pub fixed_inverse_close : {v : ℚ} (N : ℕ) → Enough N → X // 2 ^ 53 ≤q v → v ≤q (X + 1) // 2 ^ 53 → Within (value (+1 ⊘ exp_fixed X)) (E N (negq v)) (1 // parts *q E N (negq v))
  fixed_inverse_close {v} N n from to =
      let z = value (+1 ⊘ exp_fixed X) in
      let a = absq i in let t = tiny binary64 in
      let e = E N v in let j = E N (negq v) in
      let c = fixed_close X h N n from to in
      let w = near binary64 (+1 ⊘ exp_fixed X) i rounded fixed_inverse_finite in
      let ij = *_nonneg i_nonneg (E_nonneg N (negq v)) in
      let iy : (i *q j) *q y ≈q j = req (i ∷ j ∷ y ∷ []) (qv 0 ⊠ qv 1 ⊠ qv 2) (qv 0 ⊠ qv 2 ⊠ qv 1) tt tt ⟫ *_cong i_is (≈_refl j) ⟫ one_* j in
      let ie : (i *q j) *q e ≈q i = req (i ∷ j ∷ e ∷ []) (qv 0 ⊠ qv 1 ⊠ qv 2) (qv 1 ⊠ qv 2 ⊠ qv 0) tt tt ⟫ *_cong (*_comm j e ⟫ E_reciprocal N v) (≈_refl i) ⟫ one_* i in
      let up : j -q i ≤q 1 // 2 ^ 47 *q i = scaled (i *q j) y e j i ij iy ie c.above in
      let lo : i -q j ≤q 1 // 2 ^ 47 *q i = scaled' (i *q j) y e j i ij iy ie c.below in
      record {
        above =
            linq (z ∷ i ∷ j ∷ a ∷ t ∷ [])
            ((qv 0 ⊟ qv 1 ⊑ 1 ÷ 2 ^ 53 ⊠ qv 3 ⊞ qv 4 by 4951760157141521099596496896) ∷ (qv 3 ⊑ qv 1 by 549755813888) ∷ (qv 4 ⊑ qv 1 ⊠ 1 ÷ 2 ^ 54 by 4951760157141521099596496896) ∷ (qv 1 ⊟ qv 2 ⊑ 1 ÷ 2 ^ 47 ⊠ qv 1 by 4951760157141661837084852224) ∷ (## 0 ⊑ qv 1 by 104728482545663) ∷ [])
            4951760157141521099596496895 (qv 0 ⊟ qv 2) (1 ÷ parts ⊠ qv 2) tt w.above i_abs i_tiny lo i_nonneg;
        below =
            linq (z ∷ i ∷ j ∷ a ∷ t ∷ [])
            ((qv 1 ⊟ qv 0 ⊑ 1 ÷ 2 ^ 53 ⊠ qv 3 ⊞ qv 4 by 9007199254740992) ∷ (qv 3 ⊑ qv 1 by 1) ∷ (qv 4 ⊑ qv 1 ⊠ 1 ÷ 2 ^ 54 by 9007199254740992) ∷ (qv 2 ⊟ qv 1 ⊑ 1 ÷ 2 ^ 47 ⊠ qv 1 by 22412445020585856) ∷ (qv 1 ⊟ qv 2 ⊑ 1 ÷ 2 ^ 47 ⊠ qv 1 by 13405245765845120) ∷ [])
            9007199254740991 (qv 2 ⊟ qv 0) (1 ÷ parts ⊠ qv 2) tt w.below i_abs i_tiny up lo;
      }
