use Prim.Native.Nat.{ℕ, ◌*◌, ◌^◌, ◌≤◌, ◌<◌}
use native.Mathlib.Nat.{mul-le-mul_left}
use native.Mathlib.Omega.{arith}
use lib.Dec.{T, lit≤}
use mir.Facts.{Fits-bits}
use Rattle.power.proofs.FractionalExponents.{fractional_le_greatest, digits_few}
use Rattle.power.proofs.exponent.Goals as goal
-- `power::exponent` meets its contract. Assumes nothing.
use mathlib.Core.Path.{sym, ap, subst}

pub whole_part-requires : goal.whole_part-requires
whole_part-requires c = (c.requires.at_least, fractional_le_greatest c.args.a c.requires)

pub overflow_mul-result : goal.overflow_mul-result
overflow_mul-result c =
    Fits-bits 64 tt (small _ _ (lit≤ tt) (digits_few c.args.a (subst T (sym c.well_formed.0.1) tt) c.requires _ c.whole_part.ensures))
  where
    small : (r k : ℕ) → k ≤ 256 → r * 256 ≤ 2 ^ 61 → r * k < 2 ^ 64
    small r k h g = let m : r * k ≤ r * 256 = mul-le-mul_left r h in omega (arith, m, g)

pub returns : goal.returns
returns c =
    record {
      fractional = c.requires;
      digits = ap (λ (r : ℕ). r * 256) c.whole_part.ensures;
      few = digits_few c.args.a (subst T (sym c.well_formed.0.1) tt) c.requires _ c.whole_part.ensures;
    }
