use Rattle.keys.specs.Names.{card_names, geometry_names, names_of, meaning_of}
use Rattle.keys.specs.declared.Table.{Table}
use Rattle.keys.specs.declared.Table.TheVariants.{Card, Geometry}
use Rattle.key_names.proofs.Spelling.{found_is, names_low}
use Rattle.key_names.proofs.meaning_of.Goals as goal
-- `key_names::meaning_of` meets its contract.
-- Assumes nothing.
use mathlib.Core.Path.{◌∙◌, sym, ap}

pub returns-in-Card : goal.returns-in-Card
unfolding meaning_of names_of
returns-in-Card c = c.card_key.ensures ∙ sym (found_is card_names (names_low Card) _) ∙ ap (λ (t : Table). meaning_of t c.args.key.now) (sym c.in-Card.is)

pub returns-in-Geometry : goal.returns-in-Geometry
unfolding meaning_of names_of
returns-in-Geometry c = c.geometry_key.ensures ∙ sym (found_is geometry_names (names_low Geometry) _) ∙ ap (λ (t : Table). meaning_of t c.args.key.now) (sym c.in-Geometry.is)
