use Prim.Native.Nat.{ℕ, ◌<◌}
use mathlib.Core.Path.{subst}
use lib.ListN.{length}
use Rattle.from_record.proofs.Inside.{all_inside, none_beyond}
use Rattle.record_steps.specs.Steps.{reading_of}
use Rattle.record_steps.proofs.read_voltages.Goals as goal

pub read_inside-requires : goal.read_inside-requires
read_inside-requires c =
    let t = c.args.r.terminals in
    let n = length c.args.x.now in
    let below = subst (λ (m : ℕ). m < n) c.indices.ensures c.if-indices-x.true in
    let i = all_inside t n below in
    (none_beyond t n below, (i.drain, (i.gate, (i.source, i.bulk))))
