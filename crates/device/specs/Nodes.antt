-- Row 8: the six nodes against a length. Ground is below every length.
use Rattle.std.specs.Prelude.{ℕ, Bool, false, ◌||◌, leb}
use Rattle.device.specs.declared.NodeId.{NodeId}
use Rattle.device.specs.declared.NodeId.TheVariants.{Ground, At}
use Rattle.device.specs.declared.Terminals.{Terminals}

-- a node is not below n
abbrev pub node_beyond : ℕ → NodeId → Bool
node_beyond n Ground = false
node_beyond n (At i) = leb n i

-- row 8: any of the six nodes is not below n
unfoldable pub any_node_beyond : ℕ → Terminals → Bool
any_node_beyond n t =
    node_beyond n t.drain_ext || node_beyond n t.source_ext || node_beyond n t.drain || node_beyond n t.gate
    || node_beyond n t.source || node_beyond n t.bulk
