-- A card or geometry call that answers with a device: the device is the one that the definition makes, and every parameter is in
-- its range.
use mathlib.Core.Path.{◌≡◌, ap}
use mathlib.Core.Bool.{Bool}
use mathlib.Core.List.{List}
use Prim.Native.Nat.{ℕ}
use lib.Ieee.{Float}
use Rattle.device.specs.Refusals.{done}
use Rattle.device.specs.declared.Mosfet1.{Mosfet1}
use Rattle.device.proofs.Rows.{passed}
use Rattle.keys.specs.declared.Key.TheVariants.{Nrd, Nrs}
use Rattle.entries.specs.Entries.{entries_of}
use Rattle.entries.specs.declared.Keyed.{Keyed}
use Rattle.card.specs.Card.{parameters_of, defaults_of, fresh_device, card_rows, card_of}
use Rattle.geometry.specs.Geometry.{sized_to, sizes_given, geometry_rows, geometry_of}
use Rattle.accepted.specs.Bounds.{InRange, ParametersInRange, SizesInRange}
use Rattle.accepted.proofs.Bounds.{card_in_range, geometry_in_range}

pub card_accepted : (is_pmos : Bool) (bytes offsets lengths : List ℕ) (values : List Float) (space : ℕ) (k : Keyed) → card_of is_pmos bytes offsets lengths values space ≡ done k → (k.device ≡ fresh_device is_pmos (parameters_of (defaults_of is_pmos) (entries_of bytes offsets lengths values))) × ParametersInRange (parameters_of (defaults_of is_pmos) (entries_of bytes offsets lengths values))
unfolding card_of
card_accepted is_pmos bytes offsets lengths values space k e =
    let h = passed (card_rows bytes offsets lengths values space) e in
    (ap (λ (x : Keyed). x.device) h.1, card_in_range is_pmos (entries_of bytes offsets lengths values) h.0.1.1.1.0 h.0.1.1.1.1.0)

pub geometry_accepted : (d : Mosfet1) (bytes offsets lengths : List ℕ) (values : List Float) (space : ℕ) (k : Keyed) → InRange Nrd d.geometry.nrd → InRange Nrs d.geometry.nrs → geometry_of d bytes offsets lengths values space ≡ done k → (k.device ≡ sized_to d (sizes_given d bytes offsets lengths values)) × SizesInRange (sizes_given d bytes offsets lengths values)
unfolding geometry_of
geometry_accepted d bytes offsets lengths values space k hd hs e =
    let h = passed (geometry_rows d bytes offsets lengths values space) e in
    (ap (λ (x : Keyed). x.device) h.1, geometry_in_range d.geometry.nrd d.geometry.nrs (entries_of bytes offsets lengths values) hd hs h.0.1.1.1.0)
