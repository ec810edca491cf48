-- The bandgap, the thermal voltage and the exponent of the saturation current's factor, from 200 to 500 K.
use Prim.Native.Nat.{◌^◌}
use Rattle.exact.specs.Fraction.{◌//◌, nat, negq}
use Rattle.temperature.specs.Temperature.{bandgap_ev_of, vt_of, is_exponent_of}
use Rattle.temperature.specs.declared.Kelvin.{Kelvin}
use Rattle.exact.specs.Size.{Range}
use Rattle.exact.proofs.Computing.{computing}
use Rattle.temperature_sizes.proofs.Intervals.{in_⊕, in_⊖, in_⊗, in_⊘, constant_in}

-- a temperature that row 6 accepts
pub record Ordinary (t : Kelvin) : Type 0 where
  pub range : Range t.0 (nat 200) (nat 500)

-- 1.02 ≤ Eg ≤ 1.15
pub bandgap_range : {t : Kelvin} → Ordinary t → Range (bandgap_ev_of t) (102 // 100) (115 // 100)
unfolding bandgap_ev_of computing
bandgap_range O =
    let K = O.range in
    let zero = constant_in 0x3ff2_8f5c_28f5_c28f (1159 // 1000) (1161 // 1000) tt in
    let slope = constant_in 0x3f47_00cd_8559_70b5 (701 // 1000000) (703 // 1000000) tt in
    let offset = constant_in 0x4091_5000_0000_0000 (nat 1108) (nat 1108) tt in
    let square = in_⊗ (nat 27) (nat 177) (in_⊗ (14 // 100) (352 // 1000) slope K tt) K tt in
    in_⊖ (102 // 100) (115 // 100) zero (in_⊘ (16 // 1000) (136 // 1000) square (in_⊕ (nat 1307) (nat 1609) K offset tt) tt) tt

-- 0.017 ≤ vt ≤ 0.044
pub vt_range : {t : Kelvin} → Ordinary t → Range (vt_of t) (17 // 1000) (44 // 1000)
unfolding vt_of computing
vt_range O =
    let K = O.range in
    let k = constant_in 0x3b30_b0d1_ead0_0599 (138 // 10 ^ 25) (139 // 10 ^ 25) tt in
    let q = constant_in 0x3c07_a4e8_d3f7_8991 (160 // 10 ^ 21) (161 // 10 ^ 21) tt in
    in_⊘ (17 // 1000) (44 // 1000) (in_⊗ (275 // 10 ^ 23) (696 // 10 ^ 23) K k tt) q tt

-- Eg / vt lies between 23 and 68, so the difference of two is at most 45 in size
pub is_exponent_range : {t tnom : Kelvin} → Ordinary t → Ordinary tnom → Range (is_exponent_of t tnom) (negq (nat 46)) (nat 46)
unfolding is_exponent_of computing
is_exponent_range K N =
    in_⊖ (negq (nat 46)) (nat 46) (in_⊘ (nat 23) (nat 68) (bandgap_range N) (vt_range N) tt) (in_⊘ (nat 23) (nat 68) (bandgap_range K) (vt_range K) tt) tt
