use Prim.Native.Nat.{ℕ, ◌*◌, ◌^◌, ◌≤◌}
use native.Mathlib.Omega.{arith}
use lib.Ieee.{Float, of_bits}
use borrow.Author.Tests.{lt-ltb, le-ltb}
use Rattle.exact.specs.Float64.{◌⊘◌, +1}
use Rattle.exponential.proofs.Ranges.{cond_yes, cond_then, cond_else}
use Rattle.power.specs.Power.{power_of}
use Rattle.power.proofs.power.Goals as goal
-- `power::power` meets its contract. Assumes nothing.
use mathlib.Core.Path.{refl, ap}

room : (t : ℕ) → t ≤ 700 * 2 ^ 50 → 8 * t ≤ 700 * 2 ^ 53
room t h = omega arith

pub returns-then-down : goal.returns-then-down
unfolding power_of
returns-then-down c = cond_then _ _ _ _ (lt-ltb (700 * 2 ^ 50) _ c.if-t-gt788129934789836800.true) (cond_yes _ _ _ c.if-down.true)

pub returns-then-t-gt788129934789836800 : goal.returns-then-t-gt788129934789836800
unfolding power_of of_bits
returns-then-t-gt788129934789836800 c = cond_then _ _ _ _ (lt-ltb (700 * 2 ^ 50) _ c.if-t-gt788129934789836800.true) (cond_else _ _ _ _ c.if-down.false refl)

pub exp_fixed-e-requires : goal.exp_fixed-e-requires
exp_fixed-e-requires c = room _ c.if-t-gt788129934789836800.false

pub returns-then-down-2 : goal.returns-then-down-2
unfolding power_of
returns-then-down-2 c =
    cond_else _ _ _ _ (le-ltb (700 * 2 ^ 50) _ c.if-t-gt788129934789836800.false) (cond_then _ _ _ _ c.if-down-2.true (ap (λ (y : Float). +1 ⊘ y) c.exp_fixed-e.ensures))

pub returns : goal.returns
unfolding power_of
returns c =
    cond_else _ _ _ _ (le-ltb (700 * 2 ^ 50) _ c.if-t-gt788129934789836800.false) (cond_else _ _ _ _ c.if-down-2.false c.exp_fixed-e.ensures)
