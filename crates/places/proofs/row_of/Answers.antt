use native.Mathlib.Omega.{arith}
use Rattle.pattern.specs.Pattern.{lists}
use Rattle.places.proofs.Spans.{span_in}
use Rattle.places.proofs.row_of.Goals as goal

pub invariant_of-result : goal.invariant_of-result
invariant_of-result c =
    record { inside = span_in (lists c.args.pattern.pattern) c.args.node c.row_span-span.result c.args.pattern.fits (omega arith) c.row_span-span.ensures }
