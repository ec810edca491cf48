use Prim.Native.Nat.{ℕ, ◌*◌, ◌^◌, ◌≤◌}
use native.Mathlib.Omega.{arith}
use lib.Ieee.{neg}
use Rattle.exact.specs.Float64.{◌⊖◌, +1}
use Rattle.logarithm.specs.declared.Log.{Log}
use Rattle.power.specs.Power.{pow_from, pow_of}
use Rattle.power.proofs.BaseOne.{one_to}
use Rattle.power.proofs.fractional_powers.Goals as goal
-- `power::fractional_powers` meets its contract. Assumes nothing.
use mathlib.Core.Path.{sym, ap, ◌∙◌}
use Rattle.std.specs.Prelude.{map, [], ◌∷◌}

-- below 700, and so below 760
room : (v : ℕ) → v ≤ 700 * 2 ^ 53 → v ≤ 760 * 2 ^ 53
room v h = omega arith

pub returns-then-b : goal.returns-then-b
returns-then-b c =
    let e = c.if-b.true in
    let a = c.args in
    λ i. sym (one_to a.b (neg a.m) e) i ∷ sym (one_to a.b (+1 ⊖ a.m) e) i ∷ sym (one_to a.b (neg a.n) e) i ∷ sym (one_to a.b (+1 ⊖ a.n) e) i ∷ []

pub by_digits-requires : goal.by_digits-requires
by_digits-requires c =
    (c.if-v-le6305039478318694400.true, (c.fractions.ensures c.if-fractions.true, c.fractions-then-fractions.ensures c.if-fractions-2.true))

pub returns-then-fractions-2 : goal.returns-then-fractions-2
unfolding pow_of
returns-then-fractions-2 c =
    let a = c.args in
    let e = sym (c.log_size-v.ensures.1 (room _ c.if-v-le6305039478318694400.true)) in
    c.by_digits.ensures ∙ ap (λ (l : Log). map (pow_from l) (neg a.m ∷ (+1 ⊖ a.m) ∷ neg a.n ∷ (+1 ⊖ a.n) ∷ [])) e

pub returns : goal.returns
returns c = c.powers.ensures
