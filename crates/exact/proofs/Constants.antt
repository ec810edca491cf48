-- A constant's exact value, by computation, and that it is finite. A literal of the program's text is `of_bits binary64 N` to the checker:
--     half : value (of_bits binary64 0x3fe0_0000_0000_0000) ≈q 1 // 2
--     unfolding constant-test
--     half = constant-is 0x3fe0_0000_0000_0000 (1 // 2) tt
use Prim.Native.Nat.{ℕ}
use mathlib.Core.Bool.{Bool, ◌&&◌}
use lib.Dec.{T}
use lib.Ieee.{binary64, of_bits, fits}
use lib.Ieee.Bits.{of_bits-fits}
use lib.Ieee.Scale.{finite}
use Rattle.exact.specs.Fraction.{ℚ, ◌//◌, nat, negq, ◌≈q◌, leqb}
use Rattle.exact.specs.FloatValue.{value}
use Rattle.exact.specs.Float64.{+0, +1, -1}
use Rattle.exact.proofs.NatProver.{and_l, and_r}
use Rattle.exact.proofs.StrictOrder.{lit_≈}

-- finite, and the number z
unfoldable pub constant_test : ℕ → ℚ → Bool
unfolding value of_bits leqb ◌//◌ negq nat
constant_test n z = finite (of_bits binary64 n) && (leqb (value (of_bits binary64 n)) z && leqb z (value (of_bits binary64 n)))

module _ (n : ℕ) where
  pub constant_fits : T (fits binary64 (of_bits binary64 n))
  constant_fits = of_bits-fits binary64 n

  module _ (z : ℚ) (t : T (constant_test n z)) where
    pub constant_finite : T (finite (of_bits binary64 n))
    unfolding constant_test
    constant_finite = and_l (finite (of_bits binary64 n)) (leqb (value (of_bits binary64 n)) z && leqb z (value (of_bits binary64 n))) t

    pub constant_is : value (of_bits binary64 n) ≈q z
    unfolding constant_test
    constant_is =
        let u = and_r (finite (of_bits binary64 n)) (leqb (value (of_bits binary64 n)) z && leqb z (value (of_bits binary64 n))) t in
        lit_≈ (and_l (leqb (value (of_bits binary64 n)) z) (leqb z (value (of_bits binary64 n))) u) (and_r (leqb (value (of_bits binary64 n)) z) (leqb z (value (of_bits binary64 n))) u)

-- ---- the three that have names
pub value_+0 : value +0 ≈q nat 0
unfolding constant_test
value_+0 = constant_is 0 (nat 0) tt

pub value_+1 : value +1 ≈q nat 1
unfolding constant_test
value_+1 = constant_is 0x3ff0_0000_0000_0000 (nat 1) tt

pub value_minus_1 : value -1 ≈q negq (nat 1)
unfolding constant_test
value_minus_1 = constant_is 0xbff0_0000_0000_0000 (negq (nat 1)) tt
