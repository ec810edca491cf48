-- The scaled threshold.
use mathlib.Core.Bool.{Bool, true, false}
use mathlib.Core.List.{List, [], ◌∷◌}
use lib.Dec.{T}
use lib.Ieee.{Float, binary64, fits}
use lib.Ieee.Bits.{of_bits-fits}
use Rattle.exact.specs.Fraction.{ℚ, ◌//◌, nat, negq, ◌*q◌, ◌≤q◌, leqb}
use Rattle.exact.specs.Float64.{+0, maximum}
use Rattle.exact.proofs.FractionLaws.{lit_≤, ≤_refl, ≤_trans, ≤_of_≈, ≈_sym}
use Rattle.exact.proofs.FloatFunctions.{maximum_by, maximum_fits}
use Rattle.exact.proofs.Constants.{value_+0}
use Rattle.elementary.specs.Functions.{sqrt_of}
use Rattle.temperature.specs.Temperature.{scaled_vto_of, body_term_of, type_of}
use Rattle.temperature.specs.Constants.{half}
use Rattle.temperature.specs.declared.Kelvin.{Kelvin}
use Rattle.exact.specs.Size.{Range}
use Rattle.exact.proofs.Computing.{computing}
use Rattle.exact.proofs.Ranges.{range_weaken, range_neg}
use Rattle.exact.proofs.Representable.{representable_test}
use Rattle.temperature_sizes.proofs.Intervals.{in_⊕, in_⊖, in_⊗, constant_in, every, part}
use Rattle.temperature_sizes.proofs.Bandgap.{Ordinary, bandgap_range}
use Rattle.temperature_sizes.proofs.Potentials.{Nominal, one_range}
use Rattle.temperature_sizes.proofs.Elementary.{sqrt_range}

half_range : Range half (1 // 2) (1 // 2)
unfolding computing
half_range = constant_in 0x3fe0_0000_0000_0000 (1 // 2) (1 // 2) tt

type_range : (is_pmos : Bool) → Range (type_of is_pmos) (negq (nat 1)) (nat 1)
unfolding computing
type_range true = range_weaken (range_neg one_range) (lit_≤ tt) (lit_≤ tt)
type_range false = range_weaken one_range (lit_≤ tt) (lit_≤ tt)

-- at least 0
max_range : {x : Float} {hi : ℚ} → nat 0 ≤q hi → Range x (nat 0) hi → Range (maximum x +0) (nat 0) hi
unfolding computing
max_range {x} {hi} h X =
    maximum_by x +0 X.fin tt (λ (z : Float). Range z (nat 0) hi)
    (λ _. record { fin = tt; above = ≤_of_≈ (≈_sym value_+0); below = ≤_trans (≤_of_≈ value_+0) h })
    (λ _. X)

-- √PHI ≤ b where PHI ≤ b b, for a b of the format
abbrev root_tests : ℚ → ℚ → List Bool
root_tests hi b = representable_test binary64 b ∷ leqb (nat 0) b ∷ leqb (nat 0) hi ∷ leqb hi (b *q b) ∷ []

root_range : {phi : Float} {hi : ℚ} (b : ℚ) → T (every (root_tests hi b)) → T (fits binary64 phi) → Range phi (nat 0) hi → Range (sqrt_of (maximum phi +0)) (nat 0) b
unfolding computing
root_range {phi} {hi} b t f P =
    let ok = part (root_tests hi b) t in
    sqrt_range b (ok 0) (lit_≤ (ok 1)) (lit_≤ (ok 3)) (maximum_fits phi +0 P.fin tt binary64 f (of_bits-fits binary64 0)) (max_range (lit_≤ (ok 2)) P)

module _ (is_pmos : Bool) {vto gamma phi phi_t : Float} (U : Range vto (negq (nat 100)) (nat 100)) (G : Range gamma (nat 0) (nat 100)) (f : T (fits binary64 phi)) (P : Nominal phi) (g : T (fits binary64 phi_t)) (Q : Range phi_t (nat 0) (nat 32)) where
  -- TYPE GAMMA √PHI, with √10 ≤ 3.25
  nominal_term : Range (body_term_of (type_of is_pmos) gamma phi) (negq (nat 326)) (nat 326)
  unfolding body_term_of computing
  nominal_term =
      in_⊗ (negq (nat 326)) (nat 326) (in_⊗ (negq (10001 // 100)) (10001 // 100) (type_range is_pmos) G tt)
      (root_range (13 // 4) tt f (range_weaken P (lit_≤ tt) (≤_refl (nat 10)))) tt

  -- TYPE GAMMA √PHI(T), with √32 ≤ 5.6875
  scaled_term : Range (body_term_of (type_of is_pmos) gamma phi_t) (negq (nat 570)) (nat 570)
  unfolding body_term_of computing
  scaled_term =
      in_⊗ (negq (nat 570)) (nat 570) (in_⊗ (negq (10001 // 100)) (10001 // 100) (type_range is_pmos) G tt)
      (root_range (91 // 16) tt g Q) tt

  -- at most 2 ^ 10 in size
  pub scaled_vto_range : {t tnom : Kelvin} → Ordinary t → Ordinary tnom → Range (scaled_vto_of vto gamma phi phi_t t tnom is_pmos) (negq (nat 1024)) (nat 1024)
  unfolding scaled_vto_of computing
  scaled_vto_range K N =
      let gap = in_⊗ (negq (1 // 10)) (1 // 10) half_range (in_⊖ (negq (14 // 100)) (14 // 100) (bandgap_range N) (bandgap_range K) tt) tt in
      let shift = in_⊗ (negq (nat 17)) (nat 17) (in_⊗ (negq (51 // 100)) (51 // 100) (type_range is_pmos) half_range tt) (in_⊖ (negq (nat 11)) (nat 32) Q P tt) tt in
      let vbi = in_⊕ (negq (nat 446)) (nat 446) (in_⊕ (negq (nat 428)) (nat 428) (in_⊖ (negq (nat 427)) (nat 427) U nominal_term tt) gap tt) shift tt in
      in_⊕ (negq (nat 1024)) (nat 1024) vbi scaled_term tt
