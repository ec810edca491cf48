-- Binding to the drain, gate, source and bulk, with extra nodes from a first index on.
use Rattle.std.specs.Prelude.{ℕ, ◌+◌, Bool, cond, ◌||◌, List, [], ◌∷◌, Float}
use Rattle.exact.specs.Float64.{◌>f◌, +0}
use Rattle.device.specs.Nodes.{any_node_beyond}
use Rattle.device.specs.Refusals.{Row, unless, Outcome, refused, done, ◌when◌}
use Rattle.device.specs.Stages.{before}
use Rattle.device.specs.declared.NodeId.{NodeId}
use Rattle.device.specs.declared.NodeId.TheVariants.{At}
use Rattle.device.specs.declared.Stage.{Stage}
use Rattle.device.specs.declared.Stage.TheVariants.{Scaled, Bound}
use Rattle.device.specs.declared.Geometry.{Geometry}
use Rattle.device.specs.declared.Terminals.{Terminals}
use Rattle.device.specs.declared.Mosfet1.{Mosfet1}

-- one internal node for each series resistance above 0
abbrev pub extra : Float → ℕ
extra resistance = cond (resistance >f +0) 1 0

abbrev pub extra_nodes : Geometry → ℕ
extra_nodes g = extra g.rd + extra g.rs

-- the internal drain comes first, the internal source after it; without a resistance each is the terminal itself
abbrev pub inner_drain : Float → NodeId → ℕ → NodeId
inner_drain rd drain first = cond (rd >f +0) (At first) drain

abbrev pub inner_source : Float → Float → NodeId → ℕ → NodeId
inner_source rd rs source first = cond (rs >f +0) (At (first + extra rd)) source

abbrev pub terminals_of : Float → Float → NodeId → NodeId → NodeId → NodeId → ℕ → Terminals
terminals_of rd rs drain gate source bulk first =
    record { drain_ext = drain; source_ext = source; drain = inner_drain rd drain first; gate = gate; source = inner_source rd rs source first; bulk = bulk }

-- row 8 at binding: a node is above 2 ^ 32 - 1, that is, not below 2 ^ 32
abbrev pub node_limit : ℕ
node_limit = 4294967296

-- row 10 at binding: before the scaling, or after the first evaluation
abbrev pub outside_binding : Stage → Bool
outside_binding s = before s Scaled || before Bound s

abbrev pub bound_to : Mosfet1 → Terminals → Mosfet1
bound_to d t =
    record { card = d.card; geometry = d.geometry; scaled = d.scaled; terminals = t; point = d.point; charges = d.charges; histories = d.histories; disc = d.disc; stage = Bound }

-- the terminals that a binding of the device makes
abbrev pub bound_terminals : Mosfet1 → NodeId → NodeId → NodeId → NodeId → ℕ → Terminals
bound_terminals d drain gate source bulk first = terminals_of d.geometry.rd d.geometry.rs drain gate source bulk first

-- its refusals
abbrev pub binding_rows : Mosfet1 → Terminals → List Row
binding_rows d t = (8 when any_node_beyond node_limit t) ∷ (10 when outside_binding d.stage) ∷ []

-- the binding call
unfoldable pub binding_of : Mosfet1 → NodeId → NodeId → NodeId → NodeId → ℕ → Outcome Mosfet1
binding_of d drain gate source bulk first =
    let t = bound_terminals d drain gate source bulk first in
    unless (binding_rows d t) refused (done (bound_to d t))
