use Rattle.std.proofs.Common.{◌≡◌, ◌++◌, take, drop}
use Rattle.std.specs.Prelude.{map}
use Rattle.power.specs.Power.{pow_from}
use Rattle.power.proofs.powers.Given as goal

-- the powers that are taken stand in front of the exponents that are left
abbrev pub invariant-loop-p : goal.invariant-loop-p
invariant-loop-p g l = l.p-items ≡ map (pow_from l.l) (take l.p-index l.fn.exponents) ++ drop l.p-index l.fn.exponents
