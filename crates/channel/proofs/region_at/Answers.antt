use Rattle.channel.specs.Channel.{region_of}
use Rattle.channel.proofs.region_at.Goals as goal

pub returns-then-vgs-vth : goal.returns-then-vgs-vth
unfolding region_of
returns-then-vgs-vth c = rw c.if-vgs-vth.true

pub returns-then-vds-vdsat : goal.returns-then-vds-vdsat
unfolding region_of
returns-then-vds-vdsat c = rw (c.if-vgs-vth.false, c.if-vds-vdsat.true)

pub returns : goal.returns
unfolding region_of
returns c = rw (c.if-vgs-vth.false, c.if-vds-vdsat.false)
