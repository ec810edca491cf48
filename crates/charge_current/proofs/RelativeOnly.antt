-- Positive values in the normal range, whose error is relative alone. `Near x z lo hi k` says that x is finite, that the exact value z that it stands for lies between lo and hi, and that x is within k z of z.
-- lo, hi and k are closed, so that each operation is one line with two tests that compute: `near_⊗ X Y lo hi k tt tt`. Each is the operation of RelativeErrors, with the underflow, which it does not have, taken into k.
use Prim.Native.Nat.{◌^◌}
use mathlib.Core.List.{List, [], ◌∷◌}
use lib.Dec.{T}
use lib.Ieee.{Float}
use lib.Ieee.Scale.{finite}
use Rattle.exact.specs.Fraction.{ℚ, ◌//◌, nat, ◌+q◌, ◌-q◌, ◌*q◌, ◌/q◌, absq, ◌≤q◌, ◌<q◌, ◌≈q◌, Within, ltqb}
use Rattle.exact.specs.FloatValue.{value}
use Rattle.exact.specs.Float64.{◌⊕◌, ◌⊗◌, ◌⊘◌}
use Rattle.exact.specs.Size.{Range}
use Rattle.exact.proofs.Claims.{Claim, ◌≤?◌, all, Facts, facts}
use Rattle.exact.proofs.FractionLaws.{≈_refl, ≈_sym, ≤_of_≈, ≤_refl, ≤_trans, *_comm, *_cong_r, +_mono, *_mono}
use Rattle.exact.proofs.FractionProver.{qv, ##, ◌⊞◌, ◌⊟◌, ◌⊠◌, leq, linq, ◌⊑◌by◌}
use Rattle.exact.proofs.StrictOrder.{<_≤_trans, ≤_<_trans, lit_<, ≤_of_<}
use Rattle.exact.proofs.AbsoluteValue.{le_abs, abs_of_nonneg, abs_of_upto, not_zero_of_pos}
use Rattle.exact.proofs.Closeness.{*_mono₂, within_mono, within_refl, within_≈}
use Rattle.exact.proofs.FractionDivision.{div_≤, ≤_div, div_cong}
use Rattle.exact.proofs.RelativeErrors.{Rel, rel_scale, rel_⊕, rel_⊗, rel_⊘, sum_claims, product_claims, quotient_claims}

pub record Near (x : Float) (z lo hi k : ℚ) : Type 0 where
  pub fin : T (finite x)
  pub above : lo ≤q z
  pub below : z ≤q hi
  pub close : Within (value x) z (k *q z)

-- ---- given
pub near_is : {x : Float} {z lo hi : ℚ} → T (finite x) → value x ≈q z → lo ≤q z → z ≤q hi → Near x z lo hi (nat 0)
near_is {x} {z} t e a b = record { fin = t; above = a; below = b; close = within_≈ (≈_refl (value x)) e (within_mono (within_refl (value x)) (leq (z ∷ []) (## 0) (## 0 ⊠ qv 0) tt)) }

pub near_range : {x : Float} {lo hi : ℚ} → Range x lo hi → Near x (value x) lo hi (nat 0)
near_range {x} X = near_is X.fin (≈_refl (value x)) X.above X.below

-- of the same number
pub near_≈ : {x : Float} {z w lo hi k : ℚ} → Near x z lo hi k → z ≈q w → Near x w lo hi k
near_≈ {x} {k = k} X e = record { fin = X.fin; above = ≤_trans X.above (≤_of_≈ e); below = ≤_trans (≤_of_≈ (≈_sym e)) X.below; close = within_mono (within_≈ (≈_refl (value x)) e X.close) (≤_of_≈ (*_cong_r k e)) }

-- wider bounds, a larger error
pub near_weaken : {x : Float} {z lo hi k lo' hi' k' : ℚ} → Near x z lo hi k → nat 0 ≤q lo → lo' ≤q lo → hi ≤q hi' → k ≤q k' → Near x z lo' hi' k'
near_weaken {z = z} {k = k} {k' = k'} X Z a b h = record {
  fin = X.fin;
  above = ≤_trans a X.above;
  below = ≤_trans X.below b;
  close = within_mono X.close (≤_trans (≤_of_≈ (*_comm k z)) (≤_trans (*_mono (≤_trans Z X.above) h) (≤_of_≈ (*_comm z k'))));
}

-- ---- to and from an error with an absolute part
pub near_rel : {x : Float} {z lo hi k : ℚ} → Near x z lo hi k → nat 0 ≤q lo → Rel x z z hi k (nat 0)
near_rel {z = z} {k = k} X Z = record {
  est = record { fin = X.fin; size = abs_of_upto (≤_trans Z X.above) (≤_refl z); close = within_mono X.close (leq (k ∷ z ∷ []) (qv 0 ⊠ qv 1) (qv 0 ⊠ qv 1 ⊞ ## 0) tt) };
  bound = X.below;
}

-- the absolute part of a result, and the share of k that it takes
abbrev underflow : ℚ
underflow = 1 // 2 ^ 1000

abbrev share : ℚ
share = 1 // 2 ^ 60

abbrev pub share_claims : (lo k : ℚ) → List Claim
share_claims lo k = (nat 0 ≤? lo) ∷ (nat 0 ≤? k -q share) ∷ (nat 0 ≤? share) ∷ (underflow ≤? share *q lo) ∷ []

near_of : {x : Float} {z B M lo hi k : ℚ} → Rel x z B M (k -q share) underflow → B ≤q z → lo ≤q z → z ≤q hi → Facts (share_claims lo k) → Near x z lo hi k
near_of {x} {z} {B} {M} {lo} {hi} {k} X b l h p = record {
  fin = X.est.fin;
  above = l;
  below = h;
  close = within_mono X.est.close
      (linq (B ∷ z ∷ k ∷ share ∷ underflow ∷ lo ∷ [])
      (((qv 2 ⊟ qv 3) ⊠ qv 0 ⊑ (qv 2 ⊟ qv 3) ⊠ qv 1 by 1) ∷ (qv 4 ⊑ qv 3 ⊠ qv 5 by 1) ∷ (qv 3 ⊠ qv 5 ⊑ qv 3 ⊠ qv 1 by 1) ∷ [])
      0 ((qv 2 ⊟ qv 3) ⊠ qv 0 ⊞ qv 4) (qv 2 ⊠ qv 1) tt
      (*_mono p.1.0 b) p.1.1.1.0 (*_mono p.1.1.0 l));
}

-- ---- the operations
module _ {x y : Float} {z w lo₁ hi₁ k₁ lo₂ hi₂ k₂ : ℚ} (X : Near x z lo₁ hi₁ k₁) (Y : Near y w lo₂ hi₂ k₂) (lo hi k : ℚ) where
  abbrev sum_ends : List Claim
  sum_ends = (nat 0 ≤? lo₁) ∷ (nat 0 ≤? lo₂) ∷ (lo ≤? lo₁ +q lo₂) ∷ share_claims lo k

  pub near_⊕ : T (all sum_ends) → T (all (sum_claims hi₁ hi₂ k₁ k₂ (nat 0) (nat 0) hi (k -q share) underflow)) → Near (x ⊕ y) (z +q w) lo hi k
  near_⊕ s t =
      let p = facts sum_ends s in
      let r = rel_⊕ (near_rel X p.0) (near_rel Y p.1.0) hi (k -q share) underflow t in
      near_of r (≤_refl (z +q w)) (≤_trans p.1.1.0 (+_mono X.above Y.above)) r.bound p.1.1.1

  abbrev product_ends : List Claim
  product_ends = (nat 0 ≤? lo₁) ∷ (nat 0 ≤? lo₂) ∷ (lo ≤? lo₁ *q lo₂) ∷ share_claims lo k

  pub near_⊗ : T (all product_ends) → T (all (product_claims hi₁ hi₂ k₁ k₂ (nat 0) (nat 0) hi (k -q share) underflow)) → Near (x ⊗ y) (z *q w) lo hi k
  near_⊗ s t =
      let p = facts product_ends s in
      let r = rel_⊗ (near_rel X p.0) (near_rel Y p.1.0) hi (k -q share) underflow t in
      near_of r (≤_refl (z *q w)) (≤_trans p.1.1.0 (*_mono₂ p.0 p.1.0 X.above Y.above)) r.bound p.1.1.1

  abbrev quotient_ends : List Claim
  quotient_ends = (nat 0 ≤? lo₁) ∷ (share ≤? lo₂) ∷ (k₂ ≤? 1 // 2) ∷ (nat 0 ≤? k₂) ∷ (lo *q hi₂ ≤? lo₁) ∷ (hi₁ ≤? hi *q lo₂) ∷ (nat 0 ≤? hi) ∷ share_claims lo k

  pub near_⊘ : T (all quotient_ends) → T (all (quotient_claims hi lo₂ k₁ k₂ (nat 0) (k -q share) underflow)) → Near (x ⊘ y) (z /q w) lo hi k
  unfolding ltqb nat ◌//◌
  near_⊘ s t =
      let p = facts quotient_ends s in
      let c : Facts (share_claims lo k) = p.1.1.1.1.1.1.1 in
      let lo_pos : nat 0 <q lo₂ = <_≤_trans (lit_< tt) p.1.0 in
      let w_pos : nat 0 <q w = <_≤_trans lo_pos Y.above in
      let w_abs = abs_of_nonneg (≤_of_< w_pos) in
      let abs_pos : nat 0 <q absq w = <_≤_trans w_pos (le_abs w) in
      let lo_abs : lo₂ ≤q absq w = ≤_trans Y.above (le_abs w) in
      let top : z /q absq w ≤q hi = div_≤ abs_pos (≤_trans X.below (≤_trans p.1.1.1.1.1.0 (*_mono p.1.1.1.1.1.1.0 lo_abs))) in
      let Y' : Rel y w (absq w) hi₂ k₂ (nat 0) = rel_scale (near_rel Y (≤_of_< lo_pos)) p.1.1.1.0 (le_abs w) (≤_trans (≤_of_≈ w_abs) Y.below) in
      let r = rel_⊘ (near_rel X p.0) Y' lo_pos lo_abs (≤_<_trans p.1.1.0 (lit_< tt)) hi (k -q share) underflow top t in
      let same = div_cong (not_zero_of_pos abs_pos) (≈_refl z) w_abs in
      near_of r (≤_of_≈ same) (≤_div w_pos (≤_trans (*_mono c.0 Y.below) (≤_trans p.1.1.1.1.0 X.above))) (≤_trans (≤_of_≈ (≈_sym same)) top) c
