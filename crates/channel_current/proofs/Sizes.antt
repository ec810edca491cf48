-- How large a float of the channel is, and how near its exact value: against a scale s, with one absolute part for all that underflows.
use Prim.Native.Nat.{◌^◌}
use mathlib.Core.List.{[], ◌∷◌}
use lib.IntN.{ℤ, pos}
use lib.Ieee.{Float, neg}
use Rattle.exact.specs.Fraction.{ℚ, ◌//◌, nat, ◌+q◌, ◌*q◌, absq, ◌≤q◌, Within}
use Rattle.exact.specs.FloatValue.{value}
use Rattle.exact.specs.Float64.{◌⊗◌, ◌⊕◌}
use Rattle.exact.specs.Size.{exp2, AtMost, NonNegative}
use Rattle.exact.proofs.Computing.{computing}
use Rattle.exact.proofs.FractionLaws.{≤_trans, *_mono, lit_≤, ≤_of_≈}
use Rattle.exact.proofs.FractionProver.{qv, ##, ◌⊞◌, ◌⊠◌, linq, ◌⊑◌by◌, ◌÷◌}
use Rattle.exact.proofs.Closeness.{within_mono, abs_nonneg}
use Rattle.exact.proofs.ErrorCalculus.{est_size}
use Rattle.exact.proofs.RelativeErrors.{Rel, rel_est, rel_at_most, rel_neg, rel_⊗, rel_⊕}
use Rattle.exact.proofs.AbsoluteValue.{abs_of_nonneg}
use Rattle.exact.proofs.Rounding.{frac_nonneg}

-- what underflows, in any of the channel's values
abbrev pub underflow : ℚ
underflow = 1 // 2 ^ 990

module _ {x : Float} {z B M k t : ℚ} (X : Rel x z B M k t) (K : nat 0 ≤q k) where
  -- a closed bound
  pub top_of : (a : ℤ) → M +q (k *q M +q t) ≤q exp2 a → AtMost x a
  top_of a h = record { fin = X.est.fin; size = ≤_trans (est_size (rel_est X K)) h }

  module _ {s : ℚ} (S : nat 0 ≤q s) (n c : ℚ) (b : B ≤q n *q s) (T : t ≤q underflow) where
    -- |x| ≤ c s but for underflow
    pub size_of : (nat 1 +q k) *q n ≤q c → absq (value x) ≤q c *q s +q underflow
    size_of h =
        linq (absq (value x) ∷ B ∷ k ∷ t ∷ n ∷ s ∷ c ∷ underflow ∷ [])
        ((qv 0 ⊑ qv 1 ⊞ (qv 2 ⊠ qv 1 ⊞ qv 3) by 1)
        ∷ (qv 1 ⊑ qv 4 ⊠ qv 5 by 1)
        ∷ (qv 2 ⊠ qv 1 ⊑ qv 2 ⊠ (qv 4 ⊠ qv 5) by 1)
        ∷ (qv 5 ⊠ ((## 1 ⊞ qv 2) ⊠ qv 4) ⊑ qv 5 ⊠ qv 6 by 1)
        ∷ (qv 3 ⊑ qv 7 by 1)
        ∷ [])
        0
        (qv 0)
        (qv 6 ⊠ qv 5 ⊞ qv 7)
        tt
        (est_size X.est)
        b
        (*_mono K b)
        (*_mono S h)
        T

    -- |x - z| ≤ c s but for underflow
    pub close_of : k *q n ≤q c → Within (value x) z (c *q s +q underflow)
    close_of h =
        within_mono X.est.close
        (linq (B ∷ k ∷ t ∷ n ∷ s ∷ c ∷ underflow ∷ [])
        ((qv 1 ⊠ qv 0 ⊑ qv 1 ⊠ (qv 3 ⊠ qv 4) by 1) ∷ (qv 4 ⊠ (qv 1 ⊠ qv 3) ⊑ qv 4 ⊠ qv 5 by 1) ∷ (qv 2 ⊑ qv 6 by 1) ∷ [])
        0
        (qv 1 ⊠ qv 0 ⊞ qv 2)
        (qv 5 ⊠ qv 4 ⊞ qv 6)
        tt
        (*_mono K b)
        (*_mono S h)
        T)

-- ---- the slope by vbs: |gmbs| ≤ 2^25 |gm| but for underflow
pub body_size : {gm slope : Float} → AtMost gm (pos 80) → AtMost slope (pos 24) → absq (value (neg gm ⊗ slope)) ≤q nat (2 ^ 25) *q absq (value gm) +q underflow
unfolding computing
body_size {gm} {slope} G L =
    size_of (rel_⊗ (rel_neg (rel_at_most G)) (rel_at_most L) (nat (2 ^ 104)) (1 // 2 ^ 53) (1 // 2 ^ 1075) tt) (lit_≤ tt) (abs_nonneg (value gm)) (nat (2 ^ 24)) (nat (2 ^ 25)) product_≤ (lit_≤ tt) (lit_≤ tt)
  where
    product_≤ : absq (value gm) *q absq (value slope) ≤q nat (2 ^ 24) *q absq (value gm)
    product_≤ =
        let h : absq (value slope) ≤q nat (2 ^ 24) = ≤_trans L.size (lit_≤ tt) in
        linq (absq (value gm) ∷ absq (value slope) ∷ nat (2 ^ 24) ∷ []) ((qv 0 ⊠ qv 1 ⊑ qv 0 ⊠ qv 2 by 1) ∷ []) 0 (qv 0 ⊠ qv 1) (qv 2 ⊠ qv 0) tt (*_mono (abs_nonneg (value gm)) h)

-- ---- gds with gmin on top
module _ {gds gmin : Float} {g : ℚ} (g₀ : nat 0 ≤q g) (D : AtMost gds (pos 80)) (d : absq (value gds) ≤q nat 7 *q g +q underflow) (Q : NonNegative gmin) (Q0 : AtMost gmin (pos 0)) where
  pub with_gmin_size : absq (value (gds ⊕ gmin)) ≤q nat 8 *q g +q nat 2 *q value gmin +q nat 3 *q underflow
  unfolding computing
  with_gmin_size =
      linq (absq (value (gds ⊕ gmin)) ∷ absq (value gds) ∷ absq (value gmin) ∷ g ∷ value gmin ∷ underflow ∷ (1 // 2 ^ 1075) ∷ [])
      ((qv 0 ⊑ qv 1 ⊞ qv 2 ⊞ (1 ÷ 2 ^ 53 ⊠ (qv 1 ⊞ qv 2) ⊞ qv 6) by 9007199254740992)
      ∷ (qv 1 ⊑ ## 7 ⊠ qv 3 ⊞ qv 5 by 9007199254740993)
      ∷ (qv 2 ⊑ qv 4 by 9007199254740993)
      ∷ (## 0 ⊑ qv 3 by 9007199254740985)
      ∷ (## 0 ⊑ qv 4 by 9007199254740991)
      ∷ (## 0 ⊑ qv 5 by 9007199254740991)
      ∷ (qv 6 ⊑ qv 5 by 9007199254740992)
      ∷ [])
      9007199254740991
      (qv 0)
      (## 8 ⊠ qv 3 ⊞ ## 2 ⊠ qv 4 ⊞ ## 3 ⊠ qv 5)
      tt
      (est_size (rel_⊕ (rel_at_most D) (rel_at_most Q0) (nat (2 ^ 81)) (1 // 2 ^ 53) (1 // 2 ^ 1075) tt).est)
      d
      (≤_of_≈ (abs_of_nonneg Q.sign))
      g₀
      Q.sign
      (frac_nonneg 1 (2 ^ 990))
      (lit_≤ tt)
