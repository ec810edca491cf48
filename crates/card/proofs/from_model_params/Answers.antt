use Rattle.device.specs.Refusals.{outcome, refused, number_of, done}
use Rattle.device.specs.declared.Refusal.{Refusal}
use Rattle.device.proofs.Branches.{tested}
use Rattle.std.proofs.lemmas.Result.{err_from_is_err_and}
use Rattle.entries.specs.Entries.{entries_of}
use Rattle.entries.proofs.Rows.{answered, refused_pairs}
use Rattle.card.specs.Card.{parameters_of, fresh_device}
use Rattle.card.specs.declared.Parameters.{Parameters}
use Rattle.card.proofs.Card.{at_keys, at_6, accepted}
use Rattle.card.proofs.from_model_params.Goals as goal
-- `card::from_model_params` meets its contract. The keys that are tested are those that are lent.
-- Assumes nothing.
use mathlib.Core.Path.{◌∙◌, sym, ap}

pub returns-in_err-keys : goal.returns-in_err-keys
returns-in_err-keys c =
    let answer = err_from_is_err_and c.from_residual.result c.from_residual.ensures.1 in
    let bad = c.in_err-keys.ensures.refused in
    let k = at_keys c.args.is_pmos _ _ _ _ c.args.unknown.now 1 (refused_pairs _ _ _ _ _ _ bad.1) in
    (ap outcome answer.1 ∙ ap (λ (r : Refusal). refused (number_of r)) (answer.2 ∙ bad.0) ∙ k.0, k.1)

pub returns-in_err-read : goal.returns-in_err-read
returns-in_err-read c =
    let answer = err_from_is_err_and c.from_residual-in_err-read.result c.from_residual-in_err-read.ensures.1 in
    let k = at_keys c.args.is_pmos _ _ _ _ c.args.unknown.now _ (sym c.in_err-read.ensures) in
    rw (← c.in_ok-keys.ensures.passed) (ap outcome answer.1 ∙ ap (λ (r : Refusal). refused (number_of r)) answer.2 ∙ k.0, k.1)

pub returns-then-read : goal.returns-then-read
returns-then-read c = let p = answered c.test_paired.ensures c.in_ok-read.was in rw (← c.in_ok-keys.ensures.passed) (at_6 _ _ _ _ _ _ p.none (tested p.tnom c.if-read.true))

pub list_unknown-requires : goal.list_unknown-requires
list_unknown-requires c = (answered c.test_paired.ensures c.in_ok-read.was).room

pub returns : goal.returns
unfolding parameters_of
returns c =
    let a = c.args in
    let k = c.in_ok-keys.keys.lent in
    let es = entries_of k.bytes.now k.offsets.now k.lengths.now k.values.now in
    let p = answered c.test_paired.ensures c.in_ok-read.was in
    let g = accepted a.is_pmos _ _ _ _ _ p.none (tested p.tnom c.if-read.false) in
    let device = c.fresh_device.ensures ∙ ap (fresh_device a.is_pmos) (c.read-parameters.ensures ∙ ap (λ (d : Parameters). parameters_of d es) c.defaults.ensures) in
    rw (← c.in_ok-keys.ensures.passed) ((λ i. done (record { device = device i; unknown = p.count i })) ∙ g.0, c.list_unknown.ensures ∙ g.1)
