use Rattle.device.specs.Refusals.{outcome, refused, number_of, done}
use Rattle.device.specs.declared.Refusal.{Refusal}
use Rattle.device.proofs.Branches.{tested}
use Rattle.std.proofs.lemmas.Result.{err_from_is_err_and}
use Rattle.entries.specs.Entries.{entries_of}
use Rattle.entries.proofs.Rows.{answered, refused_pairs}
use Rattle.geometry.specs.Geometry.{sizes_of, oxide_missing, sized_to}
use Rattle.geometry.specs.declared.Sizes.{Sizes}
use Rattle.geometry.proofs.Geometry.{at_keys, at_5, at_10, accepted}
use Rattle.geometry.proofs.set_instance_params.Goals as goal
-- `geometry::set_instance_params` meets its contract. The keys that are tested are those that are lent.
-- Assumes nothing.
use mathlib.Core.Path.{◌∙◌, sym, ap}

pub returns-in_err-keys : goal.returns-in_err-keys
returns-in_err-keys c =
    let answer = err_from_is_err_and c.from_residual.result c.from_residual.ensures.1 in
    let bad = c.in_err-keys.ensures.refused in
    let k = at_keys c.args.device _ _ _ _ c.args.unknown.now 1 (refused_pairs _ _ _ _ _ _ bad.1) in
    (ap outcome answer.1 ∙ ap (λ (r : Refusal). refused (number_of r)) (answer.2 ∙ bad.0) ∙ k.0, k.1)

pub returns-in_err-read : goal.returns-in_err-read
returns-in_err-read c =
    let answer = err_from_is_err_and c.from_residual-in_err-read.result c.from_residual-in_err-read.ensures.1 in
    let k = at_keys c.args.device _ _ _ _ c.args.unknown.now _ (sym c.in_err-read.ensures) in
    rw (← c.in_ok-keys.ensures.passed) (ap outcome answer.1 ∙ ap (λ (r : Refusal). refused (number_of r)) answer.2 ∙ k.0, k.1)

pub returns-then-oxide_missing : goal.returns-then-oxide_missing
unfolding sizes_of
returns-then-oxide_missing c =
    let d = c.args.device in
    let k = c.in_ok-keys.keys.lent in
    let es = entries_of k.bytes.now k.offsets.now k.lengths.now k.values.now in
    let sizes = c.read-sizes.ensures ∙ ap (λ (s : Sizes). sizes_of s es) c.fresh_sizes-start.ensures in
    let oxide = c.oxide_missing.ensures ∙ ap (λ (s : Sizes). oxide_missing d.card.kf s.w s.l d.card.cox) sizes in
    let p = answered c.test_paired.ensures c.in_ok-read.was in
    rw (← c.in_ok-keys.ensures.passed) (at_5 _ _ _ _ _ _ p.none (tested oxide c.if-oxide_missing.true))

pub returns-then-before : goal.returns-then-before
unfolding sizes_of
returns-then-before c =
    let d = c.args.device in
    let k = c.in_ok-keys.keys.lent in
    let es = entries_of k.bytes.now k.offsets.now k.lengths.now k.values.now in
    let sizes = c.read-sizes.ensures ∙ ap (λ (s : Sizes). sizes_of s es) c.fresh_sizes-start.ensures in
    let oxide = c.oxide_missing.ensures ∙ ap (λ (s : Sizes). oxide_missing d.card.kf s.w s.l d.card.cox) sizes in
    let p = answered c.test_paired.ensures c.in_ok-read.was in
    rw (← c.in_ok-keys.ensures.passed) (at_10 _ _ _ _ _ _ p.none (tested oxide c.if-oxide_missing.false) (tested c.before-2.ensures c.if-before.true))

pub list_unknown-requires : goal.list_unknown-requires
list_unknown-requires c = (answered c.test_paired.ensures c.in_ok-read.was).room

pub returns : goal.returns
unfolding sizes_of
returns c =
    let d = c.args.device in
    let k = c.in_ok-keys.keys.lent in
    let es = entries_of k.bytes.now k.offsets.now k.lengths.now k.values.now in
    let sizes = c.read-sizes.ensures ∙ ap (λ (s : Sizes). sizes_of s es) c.fresh_sizes-start.ensures in
    let oxide = c.oxide_missing.ensures ∙ ap (λ (s : Sizes). oxide_missing d.card.kf s.w s.l d.card.cox) sizes in
    let p = answered c.test_paired.ensures c.in_ok-read.was in
    let device = c.sized.ensures ∙ ap (sized_to d) sizes in
    let g = accepted d _ _ _ _ _ p.none (tested oxide c.if-oxide_missing.false) (tested c.before-2.ensures c.if-before.false) in
    rw (← c.in_ok-keys.ensures.passed) ((λ i. done (record { device = device i; unknown = p.count i })) ∙ g.0, c.list_unknown.ensures ∙ g.1)
