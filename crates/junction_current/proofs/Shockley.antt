-- The junction's current and conductance as the program computes them, from an exponential e that is within 1260 units of 2^-53 of its exact value z: errors, sizes, and the size of g v.
-- Scales are sums of sizes, so that the current's is isat (z + 1) + |gmin| |v|.
use Prim.Native.Nat.{◌+◌, ◌-◌, ◌*◌, ◌^◌}
use mathlib.Core.List.{[], ◌∷◌}
use lib.Dec.{T}
use lib.IntN.{pos}
use lib.Ieee.{Float}
use lib.Ieee.Scale.{finite}
use Rattle.exact.specs.Fraction.{ℚ, ◌//◌, nat, ◌+q◌, ◌-q◌, ◌*q◌, ◌/q◌, absq, ◌≤q◌, ◌<q◌}
use Rattle.exact.specs.FloatValue.{value}
use Rattle.exact.specs.Float64.{◌⊖◌, ◌⊗◌, ◌⊘◌, +1}
use Rattle.exact.specs.Size.{AtMost, Range}
use Rattle.exact.proofs.FractionLaws.{≤_refl, ≤_trans, ≤_of_≈, *_mono, lit_≤}
use Rattle.exact.proofs.FractionProver.{qv, ##, ◌÷◌, ◌⊞◌, ◌⊠◌, linq, ◌⊑◌by◌}
use Rattle.exact.proofs.StrictOrder.{<_≤_trans, *_nonneg, lit_<}
use Rattle.exact.proofs.AbsoluteValue.{le_abs, abs_nonneg, abs_of_upto, not_zero_of_pos}
use Rattle.exact.proofs.Closeness.{abs_*_le}
use Rattle.exact.proofs.FractionDivision.{div_*, div_bound, div_nonneg}
use Rattle.exact.proofs.ErrorCalculus.{est_literal, est_size}
use Rattle.exact.proofs.RelativeErrors.{Rel, rel_given, rel_at_most, rel_⊕, rel_⊖, rel_⊗, rel_⊘}
use Rattle.exact.proofs.Computing.{computing}
use Rattle.junction.specs.Junction.{shockley_of}
use Rattle.junction_current.proofs.Exponential.{ExponentialClose}

one_given : Rel +1 (nat 1) (nat 1) (nat 1) (nat 0) (nat 0)
unfolding computing
one_given = record { est = est_literal 0x3ff0_0000_0000_0000 (nat 1) (nat 1) (nat 0 *q nat 1 +q nat 0) tt; bound = lit_≤ tt }

-- a float i that stands for the current z, of the scale s
abbrev pub CurrentClose : Float → (z s : ℚ) → Type 0
CurrentClose i z s = Rel i z s (nat (2 ^ 813)) (1266 // 2 ^ 53) (1 // 2 ^ 979)

-- ---- what is given
pub record ShockleyInputs (isat gmin v vt : Float) : Type 0 where
  pub isat_size : AtMost isat (pos 89)
  pub gmin_range : Range gmin (nat 0) (nat 1)
  pub v_finite : T (finite v)
  pub vt_range : Range vt (17 // 1024) (45 // 1024)
  pub near : absq (value v) ≤q nat 500 *q value vt

module _ {isat gmin v vt : Float} (G : ShockleyInputs isat gmin v vt) where
  pub v_size : absq (value v) ≤q nat 32
  v_size = ≤_trans G.near (linq (value vt ∷ []) ((qv 0 ⊑ 45 ÷ 1024 by 500) ∷ []) 0 (## 500 ⊠ qv 0) (## 32) tt G.vt_range.below)

  pub vt_pos : nat 0 <q value vt
  unfolding computing
  vt_pos = <_≤_trans (lit_< tt) G.vt_range.above

  gmin_given : Rel gmin (value gmin) (absq (value gmin)) (nat 1) (nat 0) (nat 0)
  gmin_given = rel_given gmin G.gmin_range.fin (abs_of_upto G.gmin_range.above G.gmin_range.below)

  -- gmin v
  pub floor_current : Rel (gmin ⊗ v) (value gmin *q value v) (absq (value gmin) *q absq (value v)) (nat 32) (2 // 2 ^ 53) (1 // 2 ^ 1074)
  unfolding computing
  floor_current = rel_⊗ gmin_given (rel_given v G.v_finite v_size) (nat 32) (2 // 2 ^ 53) (1 // 2 ^ 1074) tt

  small_times_v : 1 // 2 ^ 1059 *q absq (value v) ≤q 1 // 2 ^ 1000
  unfolding computing
  small_times_v = ≤_trans (*_mono (lit_≤ tt) v_size) (lit_≤ tt)

  module _ {e : Float} {z : ℚ} (R : ExponentialClose e z) where
    -- isat (e - 1)
    forward_current : Rel (isat ⊗ (e ⊖ +1)) (value isat *q (z -q nat 1)) (absq (value isat) *q (z +q nat 1)) (nat (2 ^ 812)) (1264 // 2 ^ 53) (1 // 2 ^ 980)
    unfolding computing
    forward_current = rel_⊗ (rel_at_most G.isat_size) (rel_⊖ R one_given (nat (2 ^ 723)) (1262 // 2 ^ 53) (1 // 2 ^ 1074) tt) (nat (2 ^ 812)) (1264 // 2 ^ 53) (1 // 2 ^ 980) tt

    pub current_close : CurrentClose (shockley_of isat e v vt gmin).i (value isat *q (z -q nat 1) +q value gmin *q value v) (absq (value isat) *q (z +q nat 1) +q absq (value gmin) *q absq (value v))
    unfolding shockley_of computing
    current_close = rel_⊕ forward_current floor_current (nat (2 ^ 813)) (1266 // 2 ^ 53) (1 // 2 ^ 979) tt

    -- isat e
    product_close : Rel (isat ⊗ e) (value isat *q z) (absq (value isat) *q z) (nat (2 ^ 811)) (1262 // 2 ^ 53) (1 // 2 ^ 1074)
    unfolding computing
    product_close = rel_⊗ (rel_at_most G.isat_size) R (nat (2 ^ 811)) (1262 // 2 ^ 53) (1 // 2 ^ 1074) tt

    product_nonneg : nat 0 ≤q absq (value isat) *q z
    product_nonneg = *_nonneg (abs_nonneg (value isat)) (≤_trans (abs_nonneg z) R.est.size)

    vt_least : 17 // 1024 ≤q absq (value vt)
    vt_least = ≤_trans G.vt_range.above (le_abs (value vt))

    -- isat e / vt
    slope_bound : absq (value isat) *q z /q absq (value vt) ≤q nat (2 ^ 817)
    unfolding computing
    slope_bound = ≤_trans (div_bound {a = nat (2 ^ 811)} {b = 17 // 1024} (lit_≤ tt) (lit_< tt) product_close.bound vt_least) (lit_≤ tt)

    slope_close : Rel (isat ⊗ e ⊘ vt) (value isat *q z /q value vt) (absq (value isat) *q z /q absq (value vt)) (nat (2 ^ 817)) (1264 // 2 ^ 53) (1 // 2 ^ 1060)
    unfolding computing
    slope_close =
        rel_⊘ product_close (rel_given vt {M = nat 1} G.vt_range.fin (abs_of_upto (≤_trans (lit_≤ tt) G.vt_range.above) (≤_trans G.vt_range.below (lit_≤ tt)))) (lit_< tt) vt_least (lit_< tt)
        (nat (2 ^ 817)) (1264 // 2 ^ 53) (1 // 2 ^ 1060) slope_bound tt

    pub conductance_close : Rel (shockley_of isat e v vt gmin).g (value isat *q z /q value vt +q value gmin) (absq (value isat) *q z /q absq (value vt) +q absq (value gmin)) (nat (2 ^ 818)) (1266 // 2 ^ 53) (1 // 2 ^ 1059)
    unfolding shockley_of computing
    conductance_close = rel_⊕ slope_close gmin_given (nat (2 ^ 818)) (1266 // 2 ^ 53) (1 // 2 ^ 1059) tt

    -- isat z / |vt| times |v| is at most 500 isat z
    slope_times_v : absq (value isat) *q z /q absq (value vt) *q absq (value v) ≤q nat 500 *q (absq (value isat) *q z)
    slope_times_v =
        let a = absq (value isat) *q z in
        let D = a /q absq (value vt) in
        let p = <_≤_trans vt_pos (le_abs (value vt)) in
        let D₀ : nat 0 ≤q D = div_nonneg product_nonneg p in
        linq (D ∷ absq (value v) ∷ value vt ∷ absq (value vt) ∷ a ∷ []) ((qv 0 ⊠ qv 1 ⊑ qv 0 ⊠ (## 500 ⊠ qv 2) by 1) ∷ (qv 0 ⊠ qv 2 ⊑ qv 0 ⊠ qv 3 by 500) ∷ (qv 0 ⊠ qv 3 ⊑ qv 4 by 500) ∷ []) 0 (qv 0 ⊠ qv 1) (## 500 ⊠ qv 4) tt
        (*_mono D₀ G.near) (*_mono D₀ (le_abs (value vt))) (≤_of_≈ (div_* a (absq (value vt)) (not_zero_of_pos p)))

    -- g v
    pub conductance_times_v : absq (value (shockley_of isat e v vt gmin).g *q value v) ≤q nat 501 *q (absq (value isat) *q z +q absq (value gmin) *q absq (value v)) +q 1 // 2 ^ 1000
    conductance_times_v =
        let g = (shockley_of isat e v vt gmin).g in
        let a = absq (value isat) *q z in
        let D = a /q absq (value vt) in
        let Y = absq (value gmin) in
        let W = absq (value v) in
        let t = 1 // 2 ^ 1059 in
        ≤_trans (abs_*_le (value g) (value v) (est_size conductance_close.est) (≤_refl W))
        (linq (D ∷ Y ∷ W ∷ a ∷ t ∷ (1 // 2 ^ 1000) ∷ []) ((qv 0 ⊠ qv 2 ⊑ ## 500 ⊠ qv 3 by 2 ^ 53 + 1266) ∷ (## 0 ⊑ qv 1 ⊠ qv 2 by 500 * 2 ^ 53 - 1266) ∷ (## 0 ⊑ qv 3 by 2 ^ 53 - 633000) ∷ (qv 4 ⊠ qv 2 ⊑ qv 5 by 2 ^ 53) ∷ [])
        (2 ^ 53 - 1) ((qv 0 ⊞ qv 1 ⊞ (1266 ÷ 2 ^ 53 ⊠ (qv 0 ⊞ qv 1) ⊞ qv 4)) ⊠ qv 2) (## 501 ⊠ (qv 3 ⊞ qv 1 ⊠ qv 2) ⊞ qv 5) tt
        slope_times_v (*_nonneg (abs_nonneg (value gmin)) (abs_nonneg (value v))) product_nonneg small_times_v)
