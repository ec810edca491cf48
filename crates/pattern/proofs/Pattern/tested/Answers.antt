use Rattle.std.proofs.Common.{sym, ◌∙◌}
use Rattle.pattern.proofs.Rows.{whatever_the_count}
use Rattle.pattern.proofs.Pattern.tested.Goals as goal

pub invariant_of-result : goal.invariant_of-result
invariant_of-result c = record { fits = whatever_the_count _ _ _ c.args.values (sym c.is_well_formed.ensures ∙ c.if-is_well_formed.true) }
