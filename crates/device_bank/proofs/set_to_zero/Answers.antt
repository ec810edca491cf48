use Rattle.std.proofs.Common.{rules, sym, ◌∙◌}
use Rattle.device_bank.proofs.Zeros.{all_zero}
use Rattle.device_bank.proofs.set_to_zero.Goals as goal

pub returns : goal.returns
returns c = c.fill.ensures.after (λ y e. search rules) ∙ sym (all_zero c.args.xs.now)
