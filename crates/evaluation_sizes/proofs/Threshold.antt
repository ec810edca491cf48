-- The threshold voltage and its slope: the body's potential is from 1e-10 to 4096 V, vth at most 2 ^ 14 in size, dvth/dvbs at most 2 ^ 24.
use Prim.Native.Nat.{◌^◌}
use lib.Dec.{T}
use lib.IntN.{pos}
use lib.Ieee.{Float, binary64, fits}
use lib.Ieee.Bits.{of_bits-fits}
use lib.Ieee.Fits.{sub-fits}
use Rattle.exact.specs.Fraction.{◌//◌, nat, negq}
use Rattle.exact.specs.Float64.{◌⊖◌, ◌⊗◌, ◌>f◌, +0}
use Rattle.exact.specs.Size.{Range, AtMost, AtLeast, NonNegative, Positive, minus}
use Rattle.exact.proofs.Computing.{computing}
use Rattle.exact.proofs.FractionLaws.{≤_refl, ≤_trans, lit_≤}
use Rattle.exact.proofs.FloatFunctions.{maximum_by, maximum_fits}
use Rattle.exact.proofs.Ranges.{range_⊕, range_⊖, range_⊗, range_weaken, range_at_most, range_at_least, range_non_negative, range_positive}
use Rattle.exact.proofs.Representable.{representable}
use Rattle.exact.proofs.Sizes.{at_most_neg, at_most_⊘, at_most_weaken, at_least_⊗, constant_at_most, constant_at_least, at_most_⊗}
use Rattle.exact.proofs.StrictOrder.{lit_<}
use Rattle.elementary.proofs.Laws.{root_at_least}
use Rattle.temperature_sizes.proofs.Intervals.{constant_in}
use Rattle.temperature_sizes.proofs.Elementary.{sqrt_range}
use Rattle.elementary.specs.Functions.{sqrt_of}
use Rattle.depletion_sizes.proofs.Branches.{by_test}
use Rattle.float.specs.Constants.{two, potential_floor}
use Rattle.threshold.specs.Threshold.{body_potential_of, threshold_of, body_slope_of}

-- the f64 1e-10 is a little above 10 ^ -10
floor : Range potential_floor (1 // 10 ^ 10) (1 // 10 ^ 9)
unfolding computing
floor = constant_in 0x3ddb_7cdf_d9d7_bdbb (1 // 10 ^ 10) (1 // 10 ^ 9) tt

-- ---- phi - vbs, at least 1e-10
module _ {phi vbs : Float} (P : Range phi (nat 0) (nat 32)) (B : Range vbs (negq (nat 2000)) (nat 2000)) where
  drop : Range (phi ⊖ vbs) (negq (nat 2000)) (nat 2032)
  unfolding computing
  drop = range_⊖ P B (representable tt) (representable tt) (lit_≤ tt) (lit_≤ tt)

  pub body_potential_range : Range (body_potential_of phi vbs) (1 // 10 ^ 10) (nat 4096)
  unfolding body_potential_of computing
  body_potential_range =
      maximum_by (phi ⊖ vbs) potential_floor drop.fin floor.fin (λ (z : Float). Range z (1 // 10 ^ 10) (nat 4096))
      (λ _. range_weaken floor (≤_refl (1 // 10 ^ 10)) (lit_≤ tt))
      (λ l. record { fin = drop.fin; above = ≤_trans floor.above l; below = ≤_trans drop.below (lit_≤ tt) })

  pub body_potential_positive : Positive (body_potential_of phi vbs)
  unfolding computing
  body_potential_positive = range_positive body_potential_range (lit_< tt)

  pub body_potential_fits : T (fits binary64 (body_potential_of phi vbs))
  unfolding body_potential_of
  body_potential_fits = maximum_fits (phi ⊖ vbs) potential_floor drop.fin floor.fin binary64 (sub-fits binary64 phi vbs) (of_bits-fits binary64 0x3ddb_7cdf_d9d7_bdbb)

-- ---- with the body's potential as above
module _ {gamma body : Float} (G : Range gamma (nat 0) (nat 128)) (B : Range body (1 // 10 ^ 10) (nat 4096)) (f : T (fits binary64 body)) where
  body_non_negative : NonNegative body
  unfolding computing
  body_non_negative = range_non_negative B (lit_≤ tt)

  body_root : Range (sqrt_of body) (nat 0) (nat 64)
  unfolding computing
  body_root = sqrt_range (nat 64) tt (lit_≤ tt) (lit_≤ tt) f (range_weaken B (lit_≤ tt) (≤_refl (nat 4096)))

  pub threshold_range : {vto phi : Float} → Range vto (negq (nat 1024)) (nat 1024) → Range phi (nat 0) (nat 32) → T (fits binary64 phi) → Range (threshold_of vto gamma phi body) (negq (nat 2048)) (nat 9216)
  unfolding threshold_of computing
  threshold_range U P g =
      let root = sqrt_range (nat 8) tt (lit_≤ tt) (lit_≤ tt) g P in
      let change = range_⊖ {lo = negq (nat 8)} {hi = nat 64} body_root root (representable tt) (representable tt) (lit_≤ tt) (lit_≤ tt) in
      let effect = range_⊗ {lo = negq (nat 1024)} {hi = nat 8192} G change (representable tt) (representable tt) (lit_≤ tt) (lit_≤ tt) (lit_≤ tt) (lit_≤ tt) (lit_≤ tt) (lit_≤ tt) (lit_≤ tt) (lit_≤ tt) in
      range_⊕ U effect (representable tt) (representable tt) (lit_≤ tt) (lit_≤ tt)

  pub threshold_at_most : {vto phi : Float} → Range vto (negq (nat 1024)) (nat 1024) → Range phi (nat 0) (nat 32) → T (fits binary64 phi) → AtMost (threshold_of vto gamma phi body) (pos 14)
  unfolding computing
  threshold_at_most U P g = range_at_most (threshold_range U P g) (pos 14) (lit_≤ tt) (lit_≤ tt)

  -- 2 √body ≥ 2 ^ -16, since 1e-10 ≥ 2 ^ -34
  twice_root : AtLeast (two ⊗ sqrt_of body) (minus 16)
  unfolding computing
  twice_root =
      let r = root_at_least body f body_non_negative (minus 17) tt (range_at_least B (minus 34) (lit_≤ tt)) in
      let s = range_at_most body_root (pos 6) (lit_≤ tt) (lit_≤ tt) in
      at_least_⊗ (constant_at_least 0x4000_0000_0000_0000 (pos 1) tt) r (at_most_⊗ (constant_at_most 0x4000_0000_0000_0000 (pos 1) tt) s tt).fin tt

  pub body_slope_at_most : AtMost (body_slope_of gamma body) (pos 24)
  unfolding body_slope_of computing
  body_slope_at_most =
      by_test (λ (z : Float). AtMost z (pos 24)) (gamma >f +0)
      (λ _. at_most_weaken (at_most_⊘ (at_most_neg (range_at_most G (pos 7) (lit_≤ tt) (lit_≤ tt))) twice_root tt) (pos 24) tt)
      (λ _. constant_at_most 0 (pos 24) tt)
