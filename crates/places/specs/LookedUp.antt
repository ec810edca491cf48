-- What is looked up for a load: the places of its cells, if all of them are in the pattern.
use Rattle.std.specs.Prelude.{cond, ◌&&◌, Option, Some, None}
use Rattle.device.specs.declared.Terminals.{Terminals}
use Rattle.stamps.specs.Stamps.{jac_pairs_of}
use Rattle.stamps.specs.declared.ChargeBranches.{ChargeBranches}
use Rattle.places.specs.Places.{Pattern, numbers_of, none_missing, gate_places_of, branches_there, any_gate}
use Rattle.places.specs.declared.Cells.{Cells}

unfoldable pub cells_of : Pattern → Terminals → ChargeBranches → Cells
cells_of P t b = record { places = numbers_of P (jac_pairs_of t); gate = gate_places_of P t (any_gate b) }

unfoldable pub looked_up : Pattern → Terminals → ChargeBranches → Option Cells
looked_up P t b =
    cond
    (none_missing (cells_of P t b).places && branches_there (cells_of P t b).places (cells_of P t b).gate b)
    (Some (cells_of P t b)) None
