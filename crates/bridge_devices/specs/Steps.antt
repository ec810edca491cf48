-- The steps of the code: the rows of one device where the pattern was tested before, and the lower of two rows. A reader of the calls needs
-- none of it.
use Rattle.std.specs.Prelude.{ℕ, Bool, cond, not, [], ◌∷◌, eqb, ltb, length}
use Rattle.device.specs.Refusals.{row_number, ◌when◌}
use Rattle.device.specs.Stages.{unevaluated}
use Rattle.device.specs.declared.Mosfet1.{Mosfet1}
use Rattle.assembly.specs.Assembly.{Pattern, all_there}
use Rattle.loading.specs.Loading.{nodes_outside, alpha_outside, jacobian_contributions}
use Rattle.loading.specs.declared.LoadKind.{LoadKind}

-- the number of the first of five rows that applies, 0 where none does
unfoldable pub first_of : Bool → Bool → Bool → Bool → Bool → ℕ
first_of row8 row10 row11 row12 row13 =
    row_number ((8 when row8) ∷ (10 when row10) ∷ (11 when row11) ∷ (12 when row12) ∷ (13 when row13) ∷ [])

-- of one device, into a right-hand side of so many rows; `well` says that row 12 does not apply
unfoldable pub device_row : Mosfet1 → LoadKind → Pattern → Bool → ℕ → ℕ
device_row d k P well rows =
    first_of (nodes_outside d.stage d.terminals rows (length P.offsets)) (unevaluated d.stage) (alpha_outside d.disc k) (not well)
    (not (all_there P (jacobian_contributions d k)))

-- the lower of two numbers, where 0 is none
unfoldable pub lower : ℕ → ℕ → ℕ
lower a b = cond (eqb a 0) b (cond (eqb b 0) a (cond (ltb a b) a b))
