use mathlib.Core.Bool.{Bool, true}
use lib.Dec.{T}
use lib.Ieee.{Float, of_bits, le, lt}
use Rattle.exponential.specs.Exponential.{least}
use Rattle.power.specs.Power.{four, power_of, product_of}
use Rattle.power.proofs.Exponents.{at_most_four}
use Rattle.power.proofs.RaisedBySize.{too_large, within, tiny, no_number}
use Rattle.power.proofs.raised.Goals as goal
-- `power::raised` meets its contract. Assumes nothing.
use mathlib.Core.Path.{◌≡◌, sym, ap, ◌∙◌, subst}

pub returns-then-a-2 : goal.returns-then-a-2
unfolding of_bits
returns-then-a-2 c =
    let z = c.size-a.ensures in
    too_large c.args.v c.args.below c.args.p (sym (ap (le least) z) ∙ c.if-a.true) (sym (ap (lt four) z) ∙ c.if-a-2.true)

pub product-requires : goal.product-requires
product-requires c = let p = is c.if-a.true in (p, at_most_four _ p c.if-a-2.false)
  where
    is : {b : Bool} → b ≡ true → T b
    is e = subst T (sym e) tt

pub returns-then-a : goal.returns-then-a
returns-then-a c =
    let a = c.args in
    let z = c.size-a.ensures in
    c.power.ensures
    ∙ (λ i. power_of ((c.product.ensures ∙ ap (λ (x : Float). product_of x a.v) z) i) (c.down.ensures i))
    ∙ within a.v a.below a.p (sym (ap (le least) z) ∙ c.if-a.true) (sym (ap (lt four) z) ∙ c.if-a-2.false)

pub returns-else-is_nan : goal.returns-else-is_nan
returns-else-is_nan c =
    let a = c.args in
    tiny a.v a.below a.p (subst T (sym c.well_formed.1.1.0.1) tt) (sym (ap (le least) c.size-a.ensures) ∙ c.if-a.false) (sym c.is_nan.ensures.value ∙ c.if-is_nan.false)

pub returns-then-is_nan : goal.returns-then-is_nan
unfolding of_bits
returns-then-is_nan c = let a = c.args in no_number a.v a.below a.p (sym c.is_nan.ensures.value ∙ c.if-is_nan.true)
