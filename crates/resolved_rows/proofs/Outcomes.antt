-- The rows in their order.
use mathlib.Core.Path.{◌≡◌, refl}
use mathlib.Core.Bool.{Bool, true, false, cond}
use mathlib.Core.List.{[], ◌∷◌}
use native.Mathlib.Omega.{arith}
use Rattle.device.specs.Refusals.{row_number, ◌when◌}
use Rattle.loading.specs.Loading.{early_row}

-- the first four rows refuse, or the fifth decides
pub early_first : (a b c d e : Bool) → (early_row a b c d ≡ 0 → ⊥)
    → early_row a b c d ≡ row_number ((8 when a) ∷ (10 when b) ∷ (11 when c) ∷ (12 when d) ∷ (13 when e) ∷ [])
unfolding early_row
early_first true b c d e h = refl
early_first false true c d e h = refl
early_first false false true d e h = refl
early_first false false false true e h = refl
early_first false false false false e h = absurd (h refl)

pub fifth : (a b c d e : Bool) → early_row a b c d ≡ 0 → cond e 13 0 ≡ row_number ((8 when a) ∷ (10 when b) ∷ (11 when c) ∷ (12 when d) ∷ (13 when e) ∷ [])
unfolding early_row
fifth true b c d e h = absurd (omega arith)
fifth false true c d e h = absurd (omega arith)
fifth false false true d e h = absurd (omega arith)
fifth false false false true e h = absurd (omega arith)
fifth false false false false e h = refl

pub five_early : (a b c d e : Bool) → row_number ((8 when a) ∷ (10 when b) ∷ (11 when c) ∷ (12 when d) ∷ (13 when e) ∷ []) ≡ 0 → early_row a b c d ≡ 0
unfolding early_row
five_early true b c d e h = absurd (omega arith)
five_early false true c d e h = absurd (omega arith)
five_early false false true d e h = absurd (omega arith)
five_early false false false true e h = absurd (omega arith)
five_early false false false false e h = refl

pub five_last : (a b c d e : Bool) → row_number ((8 when a) ∷ (10 when b) ∷ (11 when c) ∷ (12 when d) ∷ (13 when e) ∷ []) ≡ 0 → e ≡ false
five_last true b c d e h = absurd (omega arith)
five_last false true c d e h = absurd (omega arith)
five_last false false true d e h = absurd (omega arith)
five_last false false false true e h = absurd (omega arith)
five_last false false false false true h = absurd (omega arith)
five_last false false false false false h = refl
