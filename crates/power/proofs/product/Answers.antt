use Prim.Native.Nat.{ℕ, ◌*◌, ◌/◌, ◌^◌, ◌≤◌, ◌<◌}
use native.Mathlib.Nat.{mul-le-mul_left}
use native.Mathlib.Omega.{arith}
use lib.Dec.{T, lit≤}
use mir.Facts.{Fits-bits}
use Rattle.power.specs.Power.{product_of}
use Rattle.power.proofs.Exponents.{not_below_least, four_le_greatest, fixed_le}
use Rattle.power.proofs.product.Goals as goal
-- `power::product` meets its contract. Assumes nothing.
use mathlib.Core.Path.{sym, ap, ◌∙◌, subst}

pub whole_part-requires : goal.whole_part-requires
whole_part-requires c = let p = c.args.p in (c.requires.0, four_le_greatest p (not_below_least p c.requires.0 c.requires.1) c.requires.1)

pub overflow_mul-whole_part : goal.overflow_mul-whole_part
overflow_mul-whole_part c =
    Fits-bits 64 tt (small _ _ (lit≤ tt) (fixed_le c.args.p (subst T (sym c.well_formed.0.1) tt) (not_below_least c.args.p c.requires.0 c.requires.1) c.requires.1 _ c.whole_part.ensures))
  where
    small : (r k : ℕ) → k ≤ 256 → r ≤ 2 ^ 55 → r * k < 2 ^ 64
    small r k h g = let m : r * k ≤ r * 256 = mul-le-mul_left r h in omega (arith, m, g)

pub returns : goal.returns
unfolding product_of
returns c = c.mulhi.ensures ∙ ap (λ (r : ℕ). r * 256 * c.args.v / 2 ^ 64) c.whole_part.ensures
