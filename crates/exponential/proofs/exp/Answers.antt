use lib.Ieee.{Float, binary64, fits, le, of_bits, neg}
use lib.Ieee.Fits.{neg-fits}
use lib.Ieee.Positive.{positive}
use Rattle.exact.specs.Float64.{◌⊘◌, +1}
use Rattle.exact.proofs.Tests.{holds}
use Rattle.exponential.specs.Exponential.{greatest, fixed_of, exp_fixed}
use Rattle.exponential.proofs.Cutting.{fixed_bounds}
use Rattle.exponential.proofs.Accuracy.{exp_special_cases}
use Rattle.exponential.proofs.BySize.{at_most, plus_range, minus_range, exp_of_plus, exp_of_minus, exp_near_zero, exp_of_nan}
use Rattle.exponential.proofs.exp.Goals as goal
-- `exponential::exp` meets its contract. Assumes nothing.
use Rattle.std.proofs.Common.{◌≡◌, true, ℕ, ◌*◌, ◌^◌, ◌≤◌, T, sym, ap, ◌∙◌, subst}

-- what owning an `f64` tells: the format holds it
held : (x : Float) → fits binary64 x ≡ true → T (fits binary64 x)
held x e = subst T (sym e) tt

-- what `exp_fixed` takes
few : (y : Float) → T (fits binary64 y) → T (positive y) × T (le y greatest) → (r : ℕ) → r ≡ fixed_of y → r ≤ 700 * 2 ^ 53
few y f p r e = subst (λ (z : ℕ). z ≤ 700 * 2 ^ 53) (sym e) (fixed_bounds y f p.0 p.1).0

pub returns-then-x-2 : goal.returns-then-x-2
returns-then-x-2 c = sym (exp_special_cases.below c.args.x (holds c.if-x-2.true))

pub whole_part-requires : goal.whole_part-requires
whole_part-requires c =
    let x = c.args.x in
    (at_most x c.if-x.true, (minus_range x c.if-x.true c.if-x-2.false).1)

pub exp_fixed-requires : goal.exp_fixed-requires
exp_fixed-requires c =
    few (neg c.args.x) (neg-fits binary64 c.args.x (held _ c.well_formed.0.1)) (minus_range c.args.x c.if-x.true c.if-x-2.false) _ c.whole_part.ensures

pub returns-then-x : goal.returns-then-x
returns-then-x c =
    let x = c.args.x in
    let r = minus_range x c.if-x.true c.if-x-2.false in
    ap (λ (y : Float). +1 ⊘ y) (c.exp_fixed.ensures ∙ ap exp_fixed c.whole_part.ensures) ∙ exp_of_minus x r.0 r.1

pub returns-then-x-4 : goal.returns-then-x-4
unfolding of_bits
returns-then-x-4 c = sym (exp_special_cases.above c.args.x (holds c.if-x-4.true))

pub whole_part-requires-then-x-3 : goal.whole_part-requires-then-x-3
whole_part-requires-then-x-3 c =
    let x = c.args.x in
    (holds c.if-x-3.true, (plus_range x c.if-x-3.true c.if-x-4.false).1)

pub exp_fixed-requires-then-x-3 : goal.exp_fixed-requires-then-x-3
exp_fixed-requires-then-x-3 c =
    few c.args.x (held _ c.well_formed.0.1) (plus_range c.args.x c.if-x-3.true c.if-x-4.false) _ c.whole_part-then-x-3.ensures

pub returns-then-x-3 : goal.returns-then-x-3
returns-then-x-3 c =
    let x = c.args.x in
    let r = plus_range x c.if-x-3.true c.if-x-4.false in
    c.exp_fixed-then-x-3.ensures ∙ ap exp_fixed c.whole_part-then-x-3.ensures ∙ exp_of_plus x r.0 r.1

pub returns-then-is_nan : goal.returns-then-is_nan
unfolding of_bits
returns-then-is_nan c = exp_of_nan c.args.x (sym c.is_nan.ensures.value ∙ c.if-is_nan.true)

pub returns-else-is_nan : goal.returns-else-is_nan
returns-else-is_nan c = exp_near_zero c.args.x (held _ c.well_formed.0.1) c.if-x.false c.if-x-3.false (sym c.is_nan.ensures.value ∙ c.if-is_nan.false)
