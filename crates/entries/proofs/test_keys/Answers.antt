use Rattle.device.specs.Refusals.{outcome, refused, number_of}
use Rattle.device.specs.declared.Refusal.{Refusal}
use Rattle.std.proofs.lemmas.Result.{err_from_is_err_and}
use Rattle.entries.proofs.Rows.{refused_pairs}
use Rattle.entries.proofs.test_keys.Goals as goal
-- `entries::test_keys` meets its contract: row 1 refuses before all others.
-- Assumes nothing.
use mathlib.Core.Path.{◌∙◌, sym, ap}

pub returns-in_err-keys : goal.returns-in_err-keys
returns-in_err-keys c =
    let answer = err_from_is_err_and c.from_residual.result c.from_residual.ensures.1 in
    let bad = c.in_err-keys.ensures.refused in
    ap outcome answer.1 ∙ ap (λ (r : Refusal). refused (number_of r)) (answer.2 ∙ bad.0) ∙ sym (refused_pairs _ _ _ _ _ _ bad.1)
