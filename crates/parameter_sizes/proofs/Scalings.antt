-- An accepted scaling: the sizes of the scaled parameters. And a binding, which changes none.
use Prim.Native.Nat.{ℕ}
use mathlib.Core.Path.{◌≡◌, sym, subst}
use mathlib.Core.Bool.{false}
use lib.IntN.{pos}
use lib.Ieee.{Float}
use Rattle.exact.specs.Fraction.{◌//◌, nat}
use Rattle.exact.specs.Float64.{◌<f◌, +0}
use Rattle.exact.proofs.FractionLaws.{≤_trans, lit_≤}
use Rattle.exact.proofs.Tests.{fails}
use Rattle.exact.proofs.Comparisons.{nlt→≤}
use Rattle.exact.proofs.Computing.{computing}
use Rattle.exact.proofs.Sizes.{non_negative_of}
use Rattle.exact.proofs.Ranges.{range_weaken}
use Rattle.temperature.specs.Temperature.{mobility_factor_of, scaled_phi_of}
use Rattle.temperature.specs.declared.Kelvin.{Kelvin}
use Rattle.temperature_sizes.proofs.Bandgap.{Ordinary}
use Rattle.temperature_sizes.proofs.Potentials.{scaled_phi_range}
use Rattle.temperature_sizes.proofs.Held.{scaled_phi_fits, scaled_vto_fits, cap_factor_fits}
use Rattle.temperature_sizes.proofs.Sizes.{is_factor_positive, is_factor_at_most, is_factor_at_least, mobility_factor_positive, mobility_factor_at_most, scaled_vto_at_most, cap_factor_at_most}
use Rattle.device.specs.Limits.{outside_temperatures, coldest, hottest}
use Rattle.device.specs.declared.Card.{Card}
use Rattle.device.specs.Refusals.{done}
use Rattle.device.specs.declared.Mosfet1.{Mosfet1}
use Rattle.device.specs.declared.NodeId.{NodeId}
use Rattle.keys.specs.declared.Range.TheVariants.{Within}
use Rattle.setup.specs.Binding.{binding_of}
use Rattle.setup.specs.Scaling.{scaled_at, least_potential, potentials_low, scaling_of}
use Rattle.parameter_sizes.specs.ParameterSizes.{FromZero, F64In, CardSizes, ScaledSizes, DeviceSizes}
use Rattle.parameter_sizes.proofs.SizeLaws.{from_zero_⊗}
use Rattle.parameter_sizes.proofs.KeyRanges.{passes_range}
use Rattle.parameter_sizes.proofs.Rows.{neither}
use Rattle.parameter_sizes.proofs.SetupRows.{scaling_accepted, binding_accepted}

-- ---- what rows 6 and 7 let pass
ordinary_range : {t : Kelvin} → outside_temperatures t ≡ false → Ordinary t
unfolding computing
ordinary_range e = record { range = passes_range (Within coldest hottest) (nat 200) (nat 500) tt e }

-- a potential from the f64 0.05, which is above 1 // 20, to 32
module _ {phi : Float} (P : F64In phi (1 // 10) (nat 10)) {tnom t : Kelvin} (N : Ordinary tnom) (K : Ordinary t) (e : (scaled_phi_of phi t tnom <f least_potential) ≡ false) where
  potential : F64In (scaled_phi_of phi t tnom) (1 // 20) (nat 32)
  unfolding computing
  potential =
      let S = scaled_phi_range P.range N K in
      let l = nlt→≤ (scaled_phi_of phi t tnom) least_potential S.fin tt (fails e) in
      record { f64 = scaled_phi_fits phi t tnom P.f64; range = record { fin = S.fin; above = ≤_trans (lit_≤ tt) l; below = S.below } }

-- ---- the scaled parameters
module _ {c : Card} (C : CardSizes c) {t : Kelvin} (K : Ordinary t) (e : potentials_low (scaled_at c t) ≡ false) where
  scaled_record_sizes : ScaledSizes (scaled_at c t)
  unfolding computing
  scaled_record_sizes =
      let N : Ordinary c.tnom = record { range = C.tnom.range } in
      let high = neither ((scaled_at c t).phi_t <f least_potential) ((scaled_at c t).pb_t <f least_potential) e in
      let phi_t = potential C.phi N K high.0 in
      let tnom = c.tnom in
      let is_pmos = c.polarity <f +0 in
      let mobility : FromZero (mobility_factor_of t tnom) (pos 2) = record { sign = non_negative_of (mobility_factor_positive K N); at_most = mobility_factor_at_most K N } in
      record {
        isat_t_factor = record { sign = is_factor_positive K N; at_least = is_factor_at_least K N; at_most = is_factor_at_most K N };
        pb_t = potential C.pb N K high.1;
        cj_t_factor = record { f64 = cap_factor_fits c.pb c.mj t tnom; at_most = cap_factor_at_most K N C.pb.f64 C.pb.range (range_weaken C.mj.range (lit_≤ tt) (lit_≤ tt)) };
        cjsw_t_factor = record { f64 = cap_factor_fits c.pb c.mjsw t tnom; at_most = cap_factor_at_most K N C.pb.f64 C.pb.range (range_weaken C.mjsw.range (lit_≤ tt) (lit_≤ tt)) };
        vto_t = record { f64 = scaled_vto_fits c.vto c.gamma c.phi (scaled_phi_of c.phi t tnom) t tnom is_pmos; at_most = scaled_vto_at_most K N is_pmos C.vto.range C.gamma.range C.phi.f64 C.phi.range phi_t.f64 (range_weaken phi_t.range (lit_≤ tt) (lit_≤ tt)) };
        kp_t = from_zero_⊗ C.kp mobility tt;
        phi_t = phi_t;
      }

-- ---- the call
module _ (d : Mosfet1) (t : Kelvin) (after : Mosfet1) (e : scaling_of d t ≡ done after) where
  -- on a device whose card is within its bounds
  pub scaling_sizes : CardSizes d.card → ScaledSizes after.scaled
  scaling_sizes C =
      let a = scaling_accepted d t after e in
      subst (λ (u : Mosfet1). ScaledSizes u.scaled) (sym a.made) (scaled_record_sizes C (ordinary_range a.row_6) a.row_7)

  -- the bounds of a device are kept
  pub scaling_keeps_sizes : DeviceSizes d → DeviceSizes after
  scaling_keeps_sizes D =
      let a = scaling_accepted d t after e in
      subst DeviceSizes (sym a.made) (record { card = D.card; geometry = D.geometry; scaled = scaled_record_sizes D.card (ordinary_range a.row_6) a.row_7 })

-- a binding leaves card, geometry and scaled parameters as they are
pub binding_keeps_sizes : (d : Mosfet1) (drain gate source bulk : NodeId) (first : ℕ) (after : Mosfet1) → binding_of d drain gate source bulk first ≡ done after → DeviceSizes d → DeviceSizes after
binding_keeps_sizes d drain gate source bulk first after e D =
    subst DeviceSizes (sym (binding_accepted d drain gate source bulk first after e).made) (record { card = D.card; geometry = D.geometry; scaled = D.scaled })
