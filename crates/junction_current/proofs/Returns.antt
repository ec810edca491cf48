-- Demand 3 for a bulk junction: its conductance and its offset are finite and return the exact current, at every accepted evaluation within 500 thermal voltages. Assumes nothing.
use Prim.Native.Nat.{ℕ, ◌^◌}
use mathlib.Core.Path.{◌≡◌, refl}
use mathlib.Core.Bool.{Bool, true, false, cond}
use mathlib.Core.List.{[], ◌∷◌}
use lib.Dec.{T, lit≤}
use lib.Ieee.{Float, binary64}
use lib.Ieee.Fits.{sub-fits}
use lib.Ieee.Scale.{finite}
use Rattle.exact.specs.Fraction.{ℚ, ◌//◌, nat, ◌+q◌, ◌-q◌, ◌*q◌, ◌/q◌, absq, ◌≤q◌, ◌≈q◌}
use Rattle.exact.specs.FloatValue.{value}
use Rattle.exact.specs.Float64.{◌⊖◌, ◌⊗◌, ◌⊘◌, ◌≤f◌, +0}
use Rattle.exact.specs.Size.{NonNegative, Range}
use Rattle.exact.proofs.FractionLaws.{≈_refl, ≈_sym, ≈_trans, *_cong, zero_*, +_cong, zero_+, ≤_refl, ≤_trans, ≤_of_≈, ≤_antisym, lit_≤}
use Rattle.exact.proofs.FractionProver.{qv, ##, ◌⊞◌, ◌⊠◌, linq, ◌⊑◌by◌}
use Rattle.exact.proofs.StrictOrder.{*_nonneg}
use Rattle.exact.proofs.AbsoluteValue.{abs_nonneg, abs_of_nonneg, abs_*_≈}
use Rattle.exact.proofs.Closeness.{abs_*, *_mono₂, within_≈}
use Rattle.exact.proofs.Rounding.{frac_nonneg}
use Rattle.exact.proofs.Comparisons.{le→≤}
use Rattle.exact.proofs.Constants.{value_+0}
use Rattle.exact.proofs.Tests.{holds}
use Rattle.exact.proofs.Sizes.{at_most_⊗}
use Rattle.exact.proofs.RelativeErrors.{rel_scale, rel_weaken}
use Rattle.exact.proofs.Computing.{computing}
use Rattle.elementary.specs.Accuracy.{E, Enough}
use Rattle.elementary.specs.Functions.{exp_of}
use Rattle.temperature.specs.declared.Kelvin.{Kelvin}
use Rattle.junction.specs.Junction.{thermal_voltage_of, shockley_of, bulk_junction_of, junction_offset_of}
use Rattle.junction.specs.declared.Junction.{Junction}
use Rattle.junction_current.specs.JunctionCurrent.{junction_voltage, junction_at, offset_at, returned_current, thermal_quotient, exact_current, current_scale, greatest_quotient, JunctionSizes, WithinThermalVoltages, JunctionReturns}
use Rattle.junction_current.proofs.Polarity.{polarity_at_most, TurnedBack, turned_back}
use Rattle.junction_current.proofs.ThermalVoltage.{thermal_voltage_range}
use Rattle.junction_current.proofs.Exponential.{ExponentialClose, exponential_close}
use Rattle.junction_current.proofs.Shockley.{CurrentClose, ShockleyInputs, vt_pos, floor_current, current_close, conductance_close, conductance_times_v}
use Rattle.junction_current.proofs.Norton.{NortonReturns, norton_returns, norton_≈}

-- ---- isat above 0: the exponential
module _ {isat gmin v vt : Float} (G : ShockleyInputs isat gmin v vt) (isat₀ : nat 0 ≤q value isat) {e : Float} {z : ℚ} (R : ExponentialClose e z) where
  -- the size of g v is at most 501 times the scale
  product_size : absq (value (shockley_of isat e v vt gmin).g *q value v) ≤q nat 501 *q (absq (value isat) *q (z +q nat 1) +q absq (value gmin) *q absq (value v)) +q 1 // 2 ^ 1000
  product_size =
      ≤_trans (conductance_times_v G R)
      (linq (absq (value isat) ∷ z ∷ absq (value gmin) ∷ absq (value v) ∷ (1 // 2 ^ 1000) ∷ []) ((## 0 ⊑ qv 0 by 501) ∷ []) 0 (## 501 ⊠ (qv 0 ⊠ qv 1 ⊞ qv 2 ⊠ qv 3) ⊞ qv 4) (## 501 ⊠ (qv 0 ⊠ (qv 1 ⊞ ## 1) ⊞ qv 2 ⊠ qv 3) ⊞ qv 4) tt (abs_nonneg (value isat)))

  current_is : value isat *q (z -q nat 1) +q value gmin *q value v ≈q exact_current isat gmin v z
  current_is = ≈_refl (value isat *q (z -q nat 1) +q value gmin *q value v)

  scale_is : absq (value isat) *q (z +q nat 1) +q absq (value gmin) *q absq (value v) ≈q current_scale isat gmin v z
  scale_is = +_cong (*_cong (abs_of_nonneg isat₀) (≈_refl (z +q nat 1))) (≈_sym (abs_*_≈ (value gmin) (value v)))

  shockley_returns : NortonReturns (shockley_of isat e v vt gmin).i (shockley_of isat e v vt gmin).g v (exact_current isat gmin v z) (current_scale isat gmin v z)
  shockley_returns = norton_≈ current_is (≤_of_≈ scale_is) (norton_returns (shockley_of isat e v vt gmin).i (shockley_of isat e v vt gmin).g v (current_close G R) (conductance_close G R).est.fin G.v_finite product_size)

-- ---- "Junctions with isat not above 0 give (gmin·v, gmin)"
module _ {isat gmin v vt : Float} (G : ShockleyInputs isat gmin v vt) (zero : value isat ≈q nat 0) where
  floor_close : CurrentClose (gmin ⊗ v) (value gmin *q value v) (absq (value gmin) *q absq (value v))
  unfolding computing
  floor_close = let r = floor_current G in rel_scale (rel_weaken r (lit_≤ tt) (lit_≤ tt)) (lit_≤ tt) (≤_refl (absq (value gmin) *q absq (value v))) (≤_trans r.bound (lit_≤ tt))

  floor_size : absq (value gmin *q value v) ≤q nat 501 *q (absq (value gmin) *q absq (value v)) +q 1 // 2 ^ 1000
  floor_size =
      linq (absq (value gmin *q value v) ∷ (absq (value gmin) *q absq (value v)) ∷ (1 // 2 ^ 1000) ∷ []) ((qv 0 ⊑ qv 1 by 1) ∷ (## 0 ⊑ qv 1 by 500) ∷ (## 0 ⊑ qv 2 by 1) ∷ []) 0 (qv 0) (## 501 ⊠ qv 1 ⊞ qv 2) tt
      (abs_* (value gmin) (value v)) (*_nonneg (abs_nonneg (value gmin)) (abs_nonneg (value v))) (frac_nonneg 1 (2 ^ 1000))

  -- what isat multiplies is nothing
  without_isat : (x : ℚ) {y w : ℚ} → y ≈q w → y ≈q value isat *q x +q w
  without_isat x {y} {w} e = ≈_trans e (≈_sym (≈_trans (+_cong (≈_trans (*_cong zero (≈_refl x)) (zero_* x)) (≈_refl w)) (zero_+ w)))

  floor_returns : (z : ℚ) → NortonReturns (gmin ⊗ v) gmin v (exact_current isat gmin v z) (current_scale isat gmin v z)
  floor_returns z =
      norton_≈ (without_isat (z -q nat 1) (≈_refl (value gmin *q value v))) (≤_of_≈ (without_isat (z +q nat 1) (≈_sym (abs_*_≈ (value gmin) (value v)))))
      (norton_returns (gmin ⊗ v) gmin v floor_close G.gmin_range.fin G.v_finite floor_size)

-- ---- both
record BranchReturns (isat gmin v vt : Float) (at : Junction) : Type 0 where
  g_finite : T (finite at.g)
  returns : (N : ℕ) → Enough N → let e = E N (value v /q value vt) in NortonReturns at.i at.g v (exact_current isat gmin v e) (current_scale isat gmin v e)

module _ {isat gmin v vt : Float} (G : ShockleyInputs isat gmin v vt) (isat₀ : NonNegative isat) where
  above : BranchReturns isat gmin v vt (shockley_of isat (exp_of (v ⊘ vt)) v vt gmin)
  above =
      let close : (N : ℕ) → Enough N → ExponentialClose (exp_of (v ⊘ vt)) (E N (value v /q value vt)) = exponential_close v vt G.v_finite G.vt_range.fin (vt_pos G) G.near in
      record { g_finite = (conductance_close G (close 3999 (lit≤ tt))).est.fin; returns = λ N n. shockley_returns G isat₀.sign (close N n) }

  not_above : (isat ≤f +0) ≡ true → BranchReturns isat gmin v vt (record { i = gmin ⊗ v; g = gmin })
  unfolding computing
  not_above h =
      let zero = ≤_antisym (≤_trans (le→≤ isat +0 isat₀.fin tt (holds h)) (≤_of_≈ value_+0)) isat₀.sign in
      record { g_finite = G.gmin_range.fin; returns = λ N n. floor_returns G zero (E N (value v /q value vt)) }

  either : (b : Bool) → (isat ≤f +0) ≡ b → BranchReturns isat gmin v vt (cond b (record { i = gmin ⊗ v; g = gmin }) (shockley_of isat (exp_of (v ⊘ vt)) v vt gmin))
  either true h = not_above h
  either false h = above

  branch_returns : BranchReturns isat gmin v vt (bulk_junction_of isat v vt gmin)
  unfolding bulk_junction_of
  branch_returns = either (isat ≤f +0) refl

-- ---- THE THEOREM
quotient_room : greatest_quotient ≤q nat 500
unfolding computing
quotient_room = lit_≤ tt

module _ {isat pol v0 : Float} {t : Kelvin} {gmin : Float} (S : JunctionSizes isat pol v0 t gmin) (near : WithinThermalVoltages pol v0 t) where
  vt_range : Range (thermal_voltage_of t) (17 // 1024) (45 // 1024)
  vt_range = thermal_voltage_range t S.t_range

  near_500 : absq (value (junction_voltage pol v0)) ≤q nat 500 *q value (thermal_voltage_of t)
  unfolding computing
  near_500 = ≤_trans near.size (*_mono₂ (lit_≤ tt) (≤_trans (lit_≤ tt) vt_range.above) quotient_room (≤_refl (value (thermal_voltage_of t))))

  inputs : ShockleyInputs isat gmin (junction_voltage pol v0) (thermal_voltage_of t)
  inputs = record { isat_size = S.isat_size; gmin_range = S.gmin_range; v_finite = (at_most_⊗ (polarity_at_most S.polarity) S.v0_size tt).fin; vt_range = vt_range; near = near_500 }

  branch : BranchReturns isat gmin (junction_voltage pol v0) (thermal_voltage_of t) (junction_at isat pol v0 t gmin)
  branch = branch_returns inputs S.isat_sign

  -- i - g v, before the polarity turns it back
  abbrev difference : Float
  difference = (junction_at isat pol v0 t gmin).i ⊖ (junction_at isat pol v0 t gmin).g ⊗ junction_voltage pol v0

  back : TurnedBack pol difference
  back = turned_back difference (branch.returns 3999 (lit≤ tt)).fin (sub-fits binary64 (junction_at isat pol v0 t gmin).i ((junction_at isat pol v0 t gmin).g ⊗ junction_voltage pol v0)) S.polarity

  returned_is : value (junction_at isat pol v0 t gmin).g *q value (junction_voltage pol v0) +q value difference ≈q returned_current (junction_at isat pol v0 t gmin).g (offset_at isat pol v0 t gmin) pol v0
  unfolding junction_offset_of
  returned_is = +_cong (≈_refl (value (junction_at isat pol v0 t gmin).g *q value (junction_voltage pol v0))) (≈_sym back.is)

  pub junction_returns : JunctionReturns (junction_at isat pol v0 t gmin).g (offset_at isat pol v0 t gmin) isat pol v0 t gmin
  unfolding junction_offset_of
  junction_returns = record {
    conductance_finite = branch.g_finite;
    offset_finite = back.fin;
    close = λ N n. within_≈ returned_is (≈_refl (exact_current isat gmin (junction_voltage pol v0) (E N (thermal_quotient pol v0 t)))) (branch.returns N n).close;
  }
