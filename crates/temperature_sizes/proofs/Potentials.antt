-- The built-in potential's temperature term, and the scaled potentials.
use Prim.Native.Nat.{◌*◌, ◌^◌}
use mathlib.Core.Bool.{Bool, true, false, not, ◌||◌, cond}
use mathlib.Core.Path.{◌≡◌, refl, sym, ap, subst, ◌∙◌}
use lib.Dec.{T}
use lib.Ieee.{Float, binary64}
use lib.Ieee.Fits.{div-fits}
use Rattle.exact.specs.Fraction.{◌//◌, nat, negq}
use Rattle.exact.specs.Float64.{◌≤f◌, +0, +1, ◌⊘◌}
use Rattle.exact.proofs.Comparisons.{>→nle}
use Rattle.exact.proofs.Constants.{value_+0}
use Rattle.exact.proofs.FractionLaws.{≤_of_≈, lit_≤}
use Rattle.exact.proofs.StrictOrder.{≤_<_trans, <_≤_trans, lit_<}
use Rattle.temperature.specs.Temperature.{pbfact_of, pbfact_arg_of, phio_of, scaled_phi_of, unless_above0}
use Rattle.temperature.specs.Constants.{boltz, reftemp_k}
use Rattle.temperature.specs.declared.Kelvin.{Kelvin}
use Rattle.exact.specs.Size.{Range}
use Rattle.exact.proofs.Computing.{computing}
use Rattle.exact.proofs.Ranges.{range_weaken, range_neg}
use Rattle.temperature_sizes.proofs.Intervals.{in_⊕, in_⊖, in_⊗, in_⊘, constant_in}
use Rattle.temperature_sizes.proofs.Bandgap.{Ordinary, bandgap_range, vt_range}
use Rattle.temperature_sizes.proofs.Elementary.{ln_range}

-- a nominal potential that row 4 accepts: 0.1 to 10
abbrev pub Nominal : Float → Type 0
Nominal phi = Range phi (1 // 10) (nat 10)

pub one_range : Range +1 (nat 1) (nat 1)
unfolding computing
one_range = constant_in 0x3ff0_0000_0000_0000 (nat 1) (nat 1) tt

pub reftemp_range : Range reftemp_k (3001 // 10) (3002 // 10)
unfolding computing
reftemp_range = constant_in 0x4072_c266_6666_6666 (3001 // 10) (3002 // 10) tt

boltz_range : Range boltz (1380 // 10 ^ 26) (1381 // 10 ^ 26)
unfolding computing
boltz_range = constant_in 0x3b30_b0d1_ead0_0599 (1380 // 10 ^ 26) (1381 // 10 ^ 26) tt

-- T / REFTEMP_K lies between 0.66 and 1.67
pub ratio_range : {t : Kelvin} → Ordinary t → Range (t.0 ⊘ reftemp_k) (66 // 100) (167 // 100)
unfolding computing
ratio_range K = in_⊘ (66 // 100) (167 // 100) K.range reftemp_range tt

arg_range : {t : Kelvin} → Ordinary t → Range (pbfact_arg_of t) (negq (nat (76 * 10 ^ 18))) (nat (63 * 10 ^ 18))
unfolding pbfact_arg_of computing
arg_range K =
    let two = constant_in 0x4000_0000_0000_0000 (nat 2) (nat 2) tt in
    let ref = constant_in 0x3ff1_d766_333a_bfef (1115 // 1000) (1116 // 1000) tt in
    let double = in_⊗ (2759 // 10 ^ 26) (2763 // 10 ^ 26) two boltz_range tt in
    let moving = in_⊘ (negq (nat (21 * 10 ^ 19))) (negq (nat (73 * 10 ^ 18))) (range_neg (bandgap_range K)) (in_⊗ (551 // 10 ^ 23) (1382 // 10 ^ 23) double K.range tt) tt in
    let still = in_⊘ (nat (1341 * 10 ^ 17)) (nat (135 * 10 ^ 18)) ref (in_⊗ (827 // 10 ^ 23) (831 // 10 ^ 23) (in_⊗ (2759 // 10 ^ 26) (2763 // 10 ^ 26) boltz_range two tt) reftemp_range tt) tt in
    in_⊕ (negq (nat (76 * 10 ^ 18))) (nat (63 * 10 ^ 18)) moving still tt

-- pbfact lies between -1.1 and 1.25
module _ {t : Kelvin} (K : Ordinary t) where
  pub pbfact_range : Range (pbfact_of t) (negq (11 // 10)) (125 // 100)
  unfolding pbfact_of computing
  pbfact_range =
      let q = constant_in 0x3c07_a4e8_d3f7_8991 (1602 // 10 ^ 22) (1603 // 10 ^ 22) tt in
      let c = constant_in 0x3ff8_0000_0000_0000 (3 // 2) (3 // 2) tt in
      let two = constant_in 0x4000_0000_0000_0000 (nat 2) (nat 2) tt in
      let log = in_⊗ (negq (152 // 100)) (152 // 100) c (ln_range (div-fits binary64 t.0 reftemp_k) (range_weaken (ratio_range K) (lit_≤ tt) (lit_≤ tt))) tt in
      let gap = in_⊗ (negq (122 // 10)) (102 // 10) q (arg_range K) tt in
      in_⊗ (negq (11 // 10)) (125 // 100) (in_⊗ (negq (89 // 1000)) (negq (33 // 1000)) (range_neg two) (vt_range K) tt) (in_⊕ (negq (138 // 10)) (118 // 10) log gap tt) tt

-- ---- the early returns are not taken
false_of : (b : Bool) → T (not b) → b ≡ false
false_of true t = absurd t
false_of false t = refl

pub above_0 : {t : Kelvin} → Ordinary t → (t.0 ≤f +0) ≡ false
unfolding computing
above_0 {t} K = false_of (t.0 ≤f +0) (>→nle t.0 +0 K.range.fin tt (≤_<_trans (≤_of_≈ value_+0) (<_≤_trans (lit_< tt) K.range.above)))

pub both_above_0 : {t tnom : Kelvin} (x y : Float) → Ordinary t → Ordinary tnom → unless_above0 t tnom x y ≡ y
both_above_0 {t} {tnom} x y K N = ap (λ (b : Bool). cond (b || (tnom.0 ≤f +0)) x y) (above_0 K) ∙ ap (λ (b : Bool). cond b x y) (above_0 N)

-- ---- the scaled potentials
module _ {phi : Float} (P : Nominal phi) {tnom : Kelvin} (N : Ordinary tnom) where
  pub phio_range : Range (phio_of phi tnom) (negq (18 // 10)) (nat 18)
  unfolding phio_of computing
  phio_range = in_⊘ (negq (18 // 10)) (nat 18) (in_⊖ (negq (116 // 100)) (112 // 10) P (pbfact_range N) tt) (ratio_range N) tt

  -- a scaled potential is at most 2 ^ 5 in size: between -5 and 32
  pub scaled_phi_range : {t : Kelvin} → Ordinary t → Range (scaled_phi_of phi t tnom) (negq (nat 5)) (nat 32)
  unfolding scaled_phi_of computing
  scaled_phi_range {t} K =
      subst (λ (r : Float). Range r (negq (nat 5)) (nat 32)) (sym (both_above_0 _ _ K N))
      (in_⊕ (negq (nat 5)) (nat 32) (in_⊗ (negq (31 // 10)) (305 // 10) (ratio_range K) phio_range tt) (pbfact_range K) tt)
