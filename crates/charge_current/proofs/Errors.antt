-- The conductance times the voltage, less the history current, is near the exact current: the errors of both, and that they fit the bound.
use Prim.Native.Nat.{◌^◌}
use mathlib.Core.List.{List, [], ◌∷◌}
use lib.IntN.{pos}
use lib.Ieee.{Float}
use Rattle.exact.specs.Fraction.{ℚ, ◌//◌, nat, ◌+q◌, ◌-q◌, ◌*q◌, absq, ◌≤q◌, ◌≈q◌, Within}
use Rattle.exact.specs.FloatValue.{value}
use Rattle.exact.specs.Float64.{◌⊗◌}
use Rattle.exact.specs.Size.{exp2, AtMost}
use Rattle.exact.proofs.Computing.{computing}
use Rattle.exact.proofs.Claims.{Claim, ◌≤?◌, Facts, facts}
use Rattle.exact.proofs.FractionLaws.{≈_refl, ≈_sym, ≈_trans, *_comm, *_cong, ≤_of_≈, ≤_refl, ≤_trans, +_mono, *_mono, lit_≤}
use Rattle.exact.proofs.FractionProver.{qv, ##, ◌÷◌, ◌⊞◌, ◌⊟◌, ◌⊠◌, req, linq, ◌⊑◌by◌}
use Rattle.exact.proofs.StrictOrder.{*_nonneg}
use Rattle.exact.proofs.AbsoluteValue.{abs_nonneg, abs_*_≈, abs_cong, abs_of_nonneg}
use Rattle.exact.proofs.Closeness.{abs_of_within, mul_within, within_minus, within_mono, within_sym, within_≈}
use Rattle.exact.proofs.RelativeErrors.{Rel, rel_at_most, rel_⊖, rel_⊗}
use Rattle.reactive.specs.Charge.{history_of}
use Rattle.reactive.specs.declared.Branch.{Branch}
use Rattle.charge_current.specs.ChargeCurrent.{total, sizes, relative_tolerance, absolute_tolerance, charge_bound}
use Rattle.charge_current.proofs.Factors.{factor_rel}
use Rattle.charge_current.proofs.Currents.{Method}

-- ---- in fractions
-- relative errors k and l, absolute errors t and s, a voltage of size r at most: e of the scale, plus u, is enough
abbrev limit_claims : (k l t s r e u : ℚ) → List Claim
limit_claims k l t s r e u = (k ≤? 1 // 2) ∷ (nat 0 ≤? t) ∷ (nat 0 ≤? k +q l) ∷ (k +q l ≤? nat 1) ∷ (nat 2 *q (k +q l) ≤? e) ∷ (l ≤? e) ∷ (nat 3 *q (t *q r) +q s ≤? u) ∷ []

-- S is the exact factor, a, b and Y the sizes of the capacitance, the voltage and the conductance, W that of the conductance times the voltage, B the terms' sizes
-- the conductance has the error k S a + t, the history current l (S a b + B) + s
module _ (S a b B Y W k l t s : ℚ) where
  abbrev Product_fits : Type 0
  Product_fits = b *q (S *q a) ≤q nat 2 *q W +q nat 2 *q (b *q t)

  product_fits : nat 0 ≤q b → nat 0 ≤q S *q a → k ≤q 1 // 2 → S *q a ≤q Y +q (k *q (S *q a) +q t) → b *q Y ≤q W → Product_fits
  product_fits b₀ p₀ k₁ h w =
      linq (S ∷ a ∷ b ∷ Y ∷ W ∷ k ∷ t ∷ [])
      ((qv 2 ⊠ (qv 0 ⊠ qv 1) ⊑ qv 2 ⊠ (qv 3 ⊞ (qv 5 ⊠ (qv 0 ⊠ qv 1) ⊞ qv 6)) by 2)
      ∷ (qv 2 ⊠ qv 3 ⊑ qv 4 by 2)
      ∷ (qv 2 ⊠ (qv 0 ⊠ qv 1) ⊠ qv 5 ⊑ qv 2 ⊠ (qv 0 ⊠ qv 1) ⊠ 1 ÷ 2 by 2)
      ∷ [])
      0 (qv 2 ⊠ (qv 0 ⊠ qv 1)) (## 2 ⊠ qv 4 ⊞ ## 2 ⊠ (qv 2 ⊠ qv 6)) tt
      (*_mono b₀ h) w (*_mono (*_nonneg b₀ p₀) k₁)

  errors_fit : (r e u : ℚ) → Facts (limit_claims k l t s r e u) → nat 0 ≤q b → b ≤q r → nat 0 ≤q B → nat 0 ≤q W → Product_fits
      → b *q (k *q (S *q a) +q t) +q (l *q (S *q (a *q b) +q B) +q s) ≤q e *q (B +q W) +q u
  errors_fit r e u f b₀ b₁ B₀ W₀ p =
      linq (S ∷ a ∷ b ∷ B ∷ W ∷ k ∷ l ∷ t ∷ s ∷ r ∷ e ∷ u ∷ [])
      (((qv 5 ⊞ qv 6) ⊠ (qv 2 ⊠ (qv 0 ⊠ qv 1)) ⊑ (qv 5 ⊞ qv 6) ⊠ (## 2 ⊠ qv 4 ⊞ ## 2 ⊠ (qv 2 ⊠ qv 7)) by 1)
      ∷ (qv 4 ⊠ (## 2 ⊠ (qv 5 ⊞ qv 6)) ⊑ qv 4 ⊠ qv 10 by 1)
      ∷ (qv 3 ⊠ qv 6 ⊑ qv 3 ⊠ qv 10 by 1)
      ∷ (qv 7 ⊠ qv 2 ⊑ qv 7 ⊠ qv 9 by 3)
      ∷ (qv 2 ⊠ qv 7 ⊠ (qv 5 ⊞ qv 6) ⊑ qv 2 ⊠ qv 7 ⊠ ## 1 by 2)
      ∷ (## 3 ⊠ (qv 7 ⊠ qv 9) ⊞ qv 8 ⊑ qv 11 by 1)
      ∷ [])
      0
      (qv 2 ⊠ (qv 5 ⊠ (qv 0 ⊠ qv 1) ⊞ qv 7) ⊞ (qv 6 ⊠ (qv 0 ⊠ (qv 1 ⊠ qv 2) ⊞ qv 3) ⊞ qv 8))
      (qv 10 ⊠ (qv 3 ⊞ qv 4) ⊞ qv 11)
      tt
      (*_mono f.1.1.0 p)
      (*_mono W₀ f.1.1.1.1.0)
      (*_mono B₀ f.1.1.1.1.1.0)
      (*_mono f.1.0 b₁)
      (*_mono (*_nonneg b₀ f.1.0) f.1.1.1.0)
      f.1.1.1.1.1.1.0

-- the errors of the conductance and of the history current, relative and absolute
abbrev conductance_error : ℚ
conductance_error = 1 // 2 ^ 47

abbrev conductance_underflow : ℚ
conductance_underflow = 1 // 2 ^ 1074

abbrev history_error : ℚ
history_error = 1 // 2 ^ 45

abbrev history_underflow : ℚ
history_underflow = 1 // 2 ^ 918

pub relative_nonneg : nat 0 ≤q relative_tolerance
unfolding computing
relative_nonneg = lit_≤ tt

limits : Facts (limit_claims conductance_error history_error conductance_underflow history_underflow (exp2 (pos 11)) relative_tolerance absolute_tolerance)
unfolding computing
limits = facts (limit_claims conductance_error history_error conductance_underflow history_underflow (exp2 (pos 11)) relative_tolerance absolute_tolerance) tt

-- ---- a method's factors and current, at a capacitance and a voltage
module _ {g : Float} {b : Branch} {terms : List ℚ} (M : Method g b terms) {c v : Float} (C : AtMost c (pos 160)) (U : AtMost v (pos 11)) where
  abbrev S : ℚ
  S = M.exact

  abbrev a : ℚ
  a = absq (value c)

  abbrev u : ℚ
  u = absq (value v)

  pub conductance : Rel (g ⊗ c) (S *q value c) (S *q a) (nat (2 ^ 310)) conductance_error conductance_underflow
  unfolding computing
  conductance = rel_⊗ (factor_rel M.matrix) (rel_at_most C) (nat (2 ^ 310)) conductance_error conductance_underflow tt

  pub history : Rel (history_of b (c ⊗ v)) (S *q (value c *q value v) -q total terms) (S *q (a *q u) +q sizes terms) (nat (2 ^ 401)) history_error history_underflow
  unfolding history_of computing
  history =
      let cv = rel_⊗ (rel_at_most C) (rel_at_most U) (nat (2 ^ 171)) (1 // 2 ^ 53) (1 // 2 ^ 1074) tt in
      rel_⊖ (rel_⊗ (factor_rel M.own) cv (nat (2 ^ 321)) (1 // 2 ^ 47) (1 // 2 ^ 920) tt) M.current (nat (2 ^ 401)) history_error history_underflow tt

  -- the exact conductance is at most the rounded one and its error
  conductance_size : S *q a ≤q absq (value (g ⊗ c)) +q (conductance_error *q (S *q a) +q conductance_underflow)
  conductance_size =
      let exact : absq (S *q value c) ≈q S *q a = ≈_trans (abs_*_≈ S (value c)) (*_cong (abs_of_nonneg M.matrix.near.above) (≈_refl a)) in
      ≤_trans (≤_of_≈ (≈_sym exact)) (abs_of_within (within_sym conductance.est.close) (≤_refl (absq (value (g ⊗ c)))))

  -- L is the conductance's number
  module _ {L : ℚ} (same : L ≈q value (g ⊗ c)) where
    product_size : u *q absq (value (g ⊗ c)) ≤q absq (L *q value v)
    product_size = ≤_of_≈ (≈_trans (*_comm u (absq (value (g ⊗ c)))) (≈_trans (≈_sym (abs_*_≈ (value (g ⊗ c)) (value v))) (abs_cong (*_cong (≈_sym same) (≈_refl (value v))))))

    -- S c v - (S c v - I) is I
    current_near : Within (L *q value v -q value (history_of b (c ⊗ v))) (total terms)
        (u *q (conductance_error *q (S *q a) +q conductance_underflow) +q (history_error *q (S *q (a *q u) +q sizes terms) +q history_underflow))
    current_near =
        within_≈ (≈_refl _) (req (S ∷ value c ∷ value v ∷ total terms ∷ []) (qv 2 ⊠ (qv 0 ⊠ qv 1) ⊟ (qv 0 ⊠ (qv 1 ⊠ qv 2) ⊟ qv 3)) (qv 3) tt tt)
        (within_minus (within_≈ (≈_trans (*_comm (value v) (value (g ⊗ c))) (*_cong (≈_sym same) (≈_refl (value v)))) (≈_refl _) (mul_within (value v) conductance.est.close)) history.est.close)

    pub current_close : (scale : ℚ) → sizes terms +q absq (L *q value v) ≤q scale → Within (L *q value v -q value (history_of b (c ⊗ v))) (total terms) (charge_bound scale)
    unfolding charge_bound
    current_close scale h =
        let B = sizes terms in
        let Y = absq (value (g ⊗ c)) in
        let W = absq (L *q value v) in
        let k = conductance_error in let t = conductance_underflow in
        let l = history_error in let s = history_underflow in
        let p = product_fits S a u B Y W k l t s (abs_nonneg (value v)) (*_nonneg M.matrix.near.above (abs_nonneg (value c))) limits.0 conductance_size product_size in
        within_mono current_near (≤_trans
        (errors_fit S a u B Y W k l t s (exp2 (pos 11)) relative_tolerance absolute_tolerance limits (abs_nonneg (value v)) U.size (≤_trans (abs_nonneg (total terms)) M.current.est.size) (abs_nonneg (L *q value v)) p)
        (+_mono (*_mono relative_nonneg h) (≤_refl absolute_tolerance)))
