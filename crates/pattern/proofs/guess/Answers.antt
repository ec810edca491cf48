use Rattle.pattern.specs.Pattern.{distance}
use Rattle.pattern.proofs.Spans.{distance_is, guess_outside, guess_here, guess_elsewhere}
use Rattle.pattern.proofs.guess.Goals as goal
-- `pattern::guess`: the wrapped difference is the distance, and each return is one outcome of the guess.
use Rattle.std.proofs.Common.{◌≡◌, sym, ◌∙◌, arith}

pub returns-then-len-ahead-clause-place : goal.returns-then-len-ahead-clause-place
returns-then-len-ahead-clause-place c =
    let ahead : c.wrapping_sub_usize-ahead.result ≡ distance c.args.first c.args.column = distance_is _ _ _ c.ranges.first.fits c.ranges.column.fits c.wrapping_sub_usize-ahead.type_inv c.wrapping_sub_usize-ahead.ensures.value in
    guess_outside _ _ _ _ _ _ ahead c.if-len-ahead.true

pub returns-then-wide-column-clause-place : goal.returns-then-wide-column-clause-place
returns-then-wide-column-clause-place c =
    let ahead : c.wrapping_sub_usize-ahead.result ≡ distance c.args.first c.args.column = distance_is _ _ _ c.ranges.first.fits c.ranges.column.fits c.wrapping_sub_usize-ahead.type_inv c.wrapping_sub_usize-ahead.ensures.value in
    guess_here _ _ _ _ _ _ ahead (omega arith) (sym c.wide.ensures ∙ c.if-wide-column.true)

pub returns-clause-place : goal.returns-clause-place
returns-clause-place c =
    let ahead : c.wrapping_sub_usize-ahead.result ≡ distance c.args.first c.args.column = distance_is _ _ _ c.ranges.first.fits c.ranges.column.fits c.wrapping_sub_usize-ahead.type_inv c.wrapping_sub_usize-ahead.ensures.value in
    guess_elsewhere _ _ _ _ _ _ ahead (omega arith) (λ e. c.if-wide-column.false (c.wide.ensures ∙ e))
