use lib.Ieee.{Float, binary64, fits, of_bits, to_bits}
use Rattle.exact.specs.Float64.{◌⊕◌, +1}
use Rattle.exponential.proofs.Ranges.{cond_else}
use Rattle.logarithm.specs.FixedPoint.{ln_mant_of, twos_of}
use Rattle.logarithm.specs.Logarithm.{rounded_of, ln1p_of}
use Rattle.logarithm.proofs.OnePlus.{no_nan, bits_range, field_from, ln_1p_by_bits, no_log}
use Rattle.logarithm.proofs.ln_1p.Goals as goal
use Rattle.logarithm.proofs.ln_1p.Goals.{else-a-via-then-a+else-b, else-a-via-else-a}
-- `logarithm::ln_1p` meets its contract. Assumes nothing.
use Rattle.std.proofs.Common.{◌≡◌, true, ℕ, ◌+◌, ◌-◌, ◌*◌, ◌/◌, ◌^◌, ◌<◌, ◌≤◌, T, sym, refl, ap, ◌∙◌, subst, arith}

held : (x : Float) → fits binary64 x ≡ true → T (fits binary64 x)
held x e = subst T (sym e) tt

pub float_to_bits-bits : goal.float_to_bits-bits
unfolding of_bits
float_to_bits-bits c = no_nan c.args.a (held _ c.well_formed.0.1) c.if-a.true c.if-b.true

pub overflow_sub-bits : goal.overflow_sub-bits
unfolding of_bits
overflow_sub-bits c =
    field_from c.args.a (held _ c.well_formed.0.1) c.if-a.true c.if-b.true

pub log_above-requires : goal.log_above-requires
unfolding of_bits
log_above-requires c =
    field _ (bits_range c.args.a (held _ c.well_formed.0.1) c.if-a.true c.if-b.true).1
  where
    field : (b : ℕ) → b < 2047 * 2 ^ 52 → b / 2 ^ 52 - 1023 ≤ 1100
    field b h = omega arith

pub returns-then-b : goal.returns-then-b
unfolding of_bits
returns-then-b c =
    let b = to_bits binary64 (+1 ⊕ c.args.a) in
    c.rounded.ensures
    ∙ ap rounded_of (c.log_above.ensures ∙ ap (λ (m : ℕ). twos_of (b / 2 ^ 52 - 1023) + ln_mant_of m / 2048) c.digits.ensures)
    ∙ ln_1p_by_bits c.args.a (held _ c.well_formed.0.1) c.if-a.true c.if-b.true

pub returns : goal.returns
unfolding ln1p_of of_bits
returns c = elim c.else-a.branch [ else-a-via-then-a+else-b w ↦ no_log c.args.a w.if-a.true w.if-b.false | else-a-via-else-a w ↦ cond_else _ _ _ _ w.if-a.false refl ]
