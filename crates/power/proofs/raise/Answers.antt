use Prim.Native.Nat.{ℕ, ◌*◌, ◌^◌, ◌≤◌, ◌<◌}
use native.Mathlib.Nat.{le_trans, mul-le-mul_right}
use native.Mathlib.Omega.{arith}
use lib.Dec.{lit≤}
use mir.Facts.{Fits-bits}
use Rattle.exponential.specs.Exponential.{exp_fixed}
use Rattle.power.proofs.FractionalExponents.{product_small}
use Rattle.power.proofs.raise.Goals as goal
-- `power::raise` meets its contract. Assumes nothing.
use mathlib.Core.Path.{◌≡◌, ap, ◌∙◌}

room : {r t : ℕ} → r ≡ t → t ≤ 700 * 2 ^ 50 → 8 * r ≤ 700 * 2 ^ 53
room {r} {t} e h = omega arith

-- with a factor up to 8
fewer : (k r : ℕ) → k ≤ 8 → 8 * r ≤ 700 * 2 ^ 53 → k * r ≤ 700 * 2 ^ 53
fewer k r h g = le_trans (mul-le-mul_right r h) g

pub overflow_mul-mulhi : goal.overflow_mul-mulhi
overflow_mul-mulhi c = Fits-bits 64 tt (fits (fewer _ _ (lit≤ tt) (room c.mulhi.ensures (product_small c.args.digits c.args.v c.requires.1 c.requires.0))))
  where
    fits : {n : ℕ} → n ≤ 700 * 2 ^ 53 → n < 2 ^ 64
    fits {n} h = omega arith

pub exp_fixed-requires : goal.exp_fixed-requires
exp_fixed-requires c = fewer _ _ (lit≤ tt) (room c.mulhi.ensures (product_small c.args.digits c.args.v c.requires.1 c.requires.0))

pub returns : goal.returns
returns c = c.exp_fixed.ensures ∙ ap (λ (t : ℕ). exp_fixed (8 * t)) c.mulhi.ensures
