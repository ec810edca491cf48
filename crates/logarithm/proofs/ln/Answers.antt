use lib.Ieee.{Float, binary64, fits, of_bits, to_bits, neg}
use Rattle.exponential.proofs.Ranges.{cond_else}
use Rattle.logarithm.specs.FixedPoint.{ln_mant_of, twos_of}
use Rattle.logarithm.specs.Logarithm.{rounded_of, ln_of}
use Rattle.logarithm.proofs.ByBits.{normal_no_nan, normal_range, ln_above, ln_below, ln_infinite}
use Rattle.logarithm.proofs.ln.Goals as goal
use Rattle.logarithm.proofs.ln.Goals.{else-x-via-then-x+else-x-2, else-x-via-else-x}
-- `logarithm::ln` meets its contract. Assumes nothing.
use Rattle.std.proofs.Common.{◌≡◌, true, ℕ, ◌+◌, ◌-◌, ◌*◌, ◌/◌, ◌^◌, ◌<◌, ◌≤◌, T, sym, refl, ap, ◌∙◌, subst, arith}

held : (x : Float) → fits binary64 x ≡ true → T (fits binary64 x)
held x e = subst T (sym e) tt

pub float_to_bits-bits : goal.float_to_bits-bits
unfolding of_bits
float_to_bits-bits c = normal_no_nan c.args.x (held _ c.well_formed.0.1) c.if-x.true c.if-x-2.true

pub overflow_sub-field : goal.overflow_sub-field
overflow_sub-field c = omega arith

pub log_below-requires : goal.log_below-requires
log_below-requires c = (some _ c.if-field-lt1023.true, few _)
  where
    some : (f : ℕ) → f < 1023 → 0 < 1023 - f
    some f h = omega arith

    few : (f : ℕ) → 1023 - f ≤ 1100
    few f = omega arith

pub returns-then-field-lt1023 : goal.returns-then-field-lt1023
unfolding of_bits
returns-then-field-lt1023 c =
    let b = to_bits binary64 c.args.x in
    ap neg (c.rounded.ensures ∙ ap rounded_of (c.log_below.ensures ∙ ap (λ (m : ℕ). twos_of (1023 - b / 2 ^ 52) - ln_mant_of m / 2048) c.digits.ensures))
    ∙ ln_below c.args.x (held _ c.well_formed.0.1) c.if-x.true c.if-x-2.true c.if-field-lt1023.true

pub log_above-requires : goal.log_above-requires
unfolding of_bits
log_above-requires c =
    field _ (normal_range c.args.x (held _ c.well_formed.0.1) c.if-x.true c.if-x-2.true).1
  where
    field : (b : ℕ) → b < 2047 * 2 ^ 52 → b / 2 ^ 52 - 1023 ≤ 1100
    field b h = omega arith

pub returns-then-x-2 : goal.returns-then-x-2
unfolding of_bits
returns-then-x-2 c =
    let b = to_bits binary64 c.args.x in
    c.rounded-then-x-2.ensures
    ∙ ap rounded_of (c.log_above.ensures ∙ ap (λ (m : ℕ). twos_of (b / 2 ^ 52 - 1023) + ln_mant_of m / 2048) c.digits-then-x-2.ensures)
    ∙ ln_above c.args.x (held _ c.well_formed.0.1) c.if-x.true c.if-x-2.true c.if-field-lt1023.false

pub returns : goal.returns
unfolding ln_of of_bits
returns c = elim c.else-x.branch [ else-x-via-then-x+else-x-2 w ↦ ln_infinite c.args.x w.if-x-2.false | else-x-via-else-x w ↦ cond_else _ _ _ _ w.if-x.false refl ]
