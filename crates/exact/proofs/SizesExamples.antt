-- Constants, sizes and ranges in use: each operation of a formula is one line, and closed side conditions are `tt`.
use Prim.Native.Nat.{◌^◌}
use lib.IntN.{pos}
use lib.Ieee.{Float, binary64, of_bits}
use Rattle.exact.specs.Fraction.{◌//◌, nat, ◌≈q◌}
use Rattle.exact.specs.FloatValue.{value}
use Rattle.exact.specs.Float64.{◌⊕◌, ◌⊖◌, ◌⊗◌, ◌⊘◌}
use Rattle.exact.specs.Size.{minus, AtMost, AtLeast, Range}
use Rattle.exact.proofs.FractionLaws.{lit_≤}
use Rattle.exact.proofs.StrictOrder.{lit_<}
use Rattle.exact.proofs.Constants.{constant_is}
use Rattle.exact.proofs.Representable.{representable}
use Rattle.exact.proofs.Sizes.{at_most_⊗, at_most_⊕, at_most_⊘, constant_at_most}
use Rattle.exact.proofs.Ranges.{range_⊕, range_⊖, range_⊗_nonneg, range_⊘, range_is}
use Rattle.exact.proofs.Computing.{computing}

-- ---- a constant's number
one_and_a_half : value (of_bits binary64 0x3ff8_0000_0000_0000) ≈q 3 // 2
unfolding computing
one_and_a_half = constant_is 0x3ff8_0000_0000_0000 (3 // 2) tt

a_tenth : value (of_bits binary64 0x3fb9_9999_9999_999a) ≈q 3602879701896397 // 36028797018963968
unfolding computing
a_tenth = constant_is 0x3fb9_9999_9999_999a (3602879701896397 // 36028797018963968) tt

least_normal_number : value (of_bits binary64 0x0010_0000_0000_0000) ≈q 1 // 2 ^ 1022
unfolding computing
least_normal_number = constant_is 0x0010_0000_0000_0000 (1 // 2 ^ 1022) tt

-- ---- (x y + 1) / z, by powers of two
quotient_size : (x y z : Float) → AtMost x (pos 10) → AtMost y (minus 30) → AtLeast z (minus 40) → AtMost ((x ⊗ y ⊕ of_bits binary64 0x3ff0_0000_0000_0000) ⊘ z) (pos 41)
unfolding computing
quotient_size x y z X Y Z =
    let p : AtMost (x ⊗ y) (minus 20) = at_most_⊗ X Y tt in
    let s : AtMost (x ⊗ y ⊕ of_bits binary64 0x3ff0_0000_0000_0000) (pos 1) = at_most_⊕ p (constant_at_most 0x3ff0_0000_0000_0000 (pos 0) tt) tt in
    at_most_⊘ s Z tt

-- ---- by ranges: 1.16 - 7.02e-4 T T / (T + 1108) between 200 and 500: from 0.75 to 1.25
bandgap : (t : Float) → Range t (nat 200) (nat 500) → Range (of_bits binary64 0x3ff2_8f5c_28f5_c28f ⊖ of_bits binary64 0x3f47_00cc_7568_6a41 ⊗ t ⊗ t ⊘ (t ⊕ of_bits binary64 0x4091_5000_0000_0000)) (3 // 4) (5 // 4)
unfolding computing
bandgap t X =
    let c = range_is tt (constant_is 0x3ff2_8f5c_28f5_c28f (5224175567749775 // 2 ^ 52) tt) in
    let k = range_is tt (constant_is 0x3f47_00cc_7568_6a41 (value (of_bits binary64 0x3f47_00cc_7568_6a41)) tt) in
    let u = range_⊗_nonneg {lo = 1 // 8} {hi = 23 // 64} k X (representable tt) (representable tt) (lit_≤ tt) (lit_≤ tt) (lit_≤ tt) (lit_≤ tt) in
    let v = range_⊗_nonneg {lo = nat 25} {hi = nat 180} u X (representable tt) (representable tt) (lit_≤ tt) (lit_≤ tt) (lit_≤ tt) (lit_≤ tt) in
    let d = range_is tt (constant_is 0x4091_5000_0000_0000 (nat 1108) tt) in
    let w = range_⊕ {lo = nat 1308} {hi = nat 1608} X d (representable tt) (representable tt) (lit_≤ tt) (lit_≤ tt) in
    let q = range_⊘ {lo = nat 0} {hi = 9 // 64} v w (representable tt) (representable tt) (lit_< tt) (lit_≤ tt) (lit_≤ tt) (lit_≤ tt) (lit_≤ tt) in
    range_⊖ c q (representable tt) (representable tt) (lit_≤ tt) (lit_≤ tt)
