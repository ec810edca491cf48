-- Where cells stand in a pattern, and how the code holds nodes and places: as numbers, with two numbers behind the end of every
-- slice for a skipped and a missing cell.
use Rattle.std.specs.Prelude.{ℕ, ◌+◌, ◌≤◌, ◌≡◌, Bool, true, cond, not, ◌&&◌, ◌||◌, List, [], ◌∷◌, length, get_or, eqb, Option, Some, None}
use Rattle.std.proofs.Math.Seq.{slice}
use Rattle.pattern.specs.Pattern.{rising, place_in, cell_of, span_of}
use Rattle.pattern.specs.declared.RowSpan.{RowSpan}
pub use Rattle.pattern.specs.Pattern.{Pattern}
use Rattle.device.specs.declared.NodeId.{NodeId}
use Rattle.device.specs.declared.NodeId.TheVariants.{Ground, At}
use Rattle.device.specs.declared.Terminals.{Terminals}
use Rattle.stamps.specs.Stamps.{jac_pairs_of}
use Rattle.stamps.specs.declared.Position.{Position}
use Rattle.stamps.specs.declared.ChargeBranches.{ChargeBranches}
use Rattle.places.specs.declared.Nodes.{Nodes}
use Rattle.places.specs.declared.GatePlaces.{GatePlaces}

-- where a cell stands: a position of ground has no place, and a cell may be missing from the pattern
pub data Place : Type 0 where
  ground : Place
  missing : Place
  at : ℕ → Place

unfoldable pub found_place : Option ℕ → Place
found_place (Some p) = at p
found_place None = missing

unfoldable pub place_of : Pattern → NodeId → NodeId → Place
place_of P Ground column = ground
place_of P (At r) Ground = ground
place_of P (At r) (At c) = found_place (cell_of P.columns P.offsets P.lengths r c)

-- 2^64 - 2
abbrev pub missing_number : ℕ
missing_number = 18446744073709551614

-- 2^64 - 1
abbrev pub skipped_number : ℕ
skipped_number = 18446744073709551615

unfoldable pub place_number : Place → ℕ
place_number ground = skipped_number
place_number missing = missing_number
place_number (at p) = p

abbrev pub number_of : Pattern → NodeId → NodeId → ℕ
number_of P r c = place_number (place_of P r c)

-- a node by its index, and the node of an index; ground is the number of a skipped place
unfoldable pub index_of : NodeId → ℕ
index_of Ground = skipped_number
index_of (At i) = i

unfoldable pub node_at : ℕ → NodeId
node_at i = cond (eqb i skipped_number) Ground (At i)

unfoldable pub nodes_of : Terminals → Nodes
nodes_of t = record {
  drain_ext = index_of t.drain_ext;
  source_ext = index_of t.source_ext;
  drain = index_of t.drain;
  gate = index_of t.gate;
  source = index_of t.source;
  bulk = index_of t.bulk;
}

unfoldable pub terminals_at : Nodes → Terminals
terminals_at n = record {
  drain_ext = node_at n.drain_ext;
  source_ext = node_at n.source_ext;
  drain = node_at n.drain;
  gate = node_at n.gate;
  source = node_at n.source;
  bulk = node_at n.bulk;
}

-- a row's part of the columns, in which a lookup is made; ground's is empty
pub record SpanIn (columns : List ℕ) (row from len : ℕ) : Type 0 where
  pub within : from + len ≤ length columns
  pub rises : rising (slice from (from + len) columns) ≡ true
  pub empty : row ≡ skipped_number → len ≡ 0

-- the row of the node with the number n, as the code holds it: the pattern's columns, the number, and the row's part
pub record IsRow (P : Pattern) (n : ℕ) (columns : List ℕ) (node : ℕ) (span : RowSpan) : Type 0 where
  pub columns_are : columns ≡ P.columns
  pub node_is : node ≡ n
  pub span_is : span ≡ span_of P.columns P.offsets P.lengths n

-- the place of the cell in a row's part of the columns
unfoldable pub span_number : List ℕ → ℕ → ℕ → ℕ → ℕ → ℕ
span_number columns row from len column =
    cond (eqb row skipped_number) skipped_number
    (cond (eqb column skipped_number) skipped_number
    (place_number (found_place (place_in from (slice from (from + len) columns) column))))

unfoldable pub numbers_of : Pattern → List Position → List ℕ
numbers_of P [] = []
numbers_of P (c ∷ cs) = number_of P c.row c.col ∷ numbers_of P cs

unfoldable pub none_missing : List ℕ → Bool
none_missing [] = true
none_missing (p ∷ ps) = not (eqb p missing_number) && none_missing ps

-- the five cells that only the gate's branches have; they are looked up where one of those is loaded
unfoldable pub gate_places_of : Pattern → Terminals → Bool → GatePlaces
gate_places_of P t any = cond any
    (record {
      gg = number_of P t.gate t.gate;
      gs = number_of P t.gate t.source;
      gd = number_of P t.gate t.drain;
      gb = number_of P t.gate t.bulk;
      bg = number_of P t.bulk t.gate;
    })
    (record { gg = skipped_number; gs = skipped_number; gd = skipped_number; gb = skipped_number; bg = skipped_number })

unfoldable pub four_there : Bool → ℕ → ℕ → ℕ → ℕ → Bool
four_there loaded aa ab bb ba = cond loaded (none_missing (aa ∷ ab ∷ bb ∷ ba ∷ [])) true

-- the cells of each loaded branch are in the pattern, by the 24 places p of the Jacobian's values and the gate's five
unfoldable pub branches_there : List ℕ → GatePlaces → ChargeBranches → Bool
branches_there p q b =
    four_there b.gs.conducts q.gg q.gs (get_or p 6 0) (get_or p 4 0)
    && four_there b.gd.conducts q.gg q.gd (get_or p 1 0) (get_or p 0 0)
    && four_there b.gb.conducts q.gg q.gb (get_or p 16 0) q.bg
    && four_there b.bs.conducts (get_or p 16 0) (get_or p 17 0) (get_or p 6 0) (get_or p 7 0)
    && four_there b.bd.conducts (get_or p 16 0) (get_or p 21 0) (get_or p 1 0) (get_or p 3 0)

-- a gate branch is loaded
unfoldable pub any_gate : ChargeBranches → Bool
any_gate b = b.gs.conducts || b.gd.conducts || b.gb.conducts
