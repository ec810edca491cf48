-- The steps of the code, by node numbers: what its private functions answer. A reader of the calls needs none of it.
use Rattle.std.specs.Prelude.{ℕ, Bool, true, false, cond, ◌&&◌, ◌||◌, List, [], ◌∷◌, get_or, eqb, ltb}
use Rattle.exact.specs.Float64.{◌≠f◌, +0}
use Rattle.device.specs.declared.Charges.{Charges}
use Rattle.stamps.specs.Stamps.{position, jac_pairs_of, pair_between}
use Rattle.stamps.specs.declared.Position.{Position}
use Rattle.stamps.specs.declared.ChargeBranches.{ChargeBranches}
use Rattle.places.specs.Places.{node_at, terminals_at}
use Rattle.places.specs.declared.Nodes.{Nodes}
use Rattle.loading.specs.declared.LoadKind.{LoadKind}
use Rattle.loading.specs.declared.LoadKind.TheVariants.{DirectCurrent, Transient}
use Rattle.resolved_rows.specs.LoadResolved.{numbers_from, grounded}

-- a position has a ground end, or its place is among n values
unfoldable pub cell_there : ℕ → ℕ → ℕ → ℕ → Bool
cell_there n row column p = grounded (position (node_at row) (node_at column)) || ltb p n

unfoldable pub pairs_stored : ℕ → List Position → List ℕ → Bool
pairs_stored n [] ps = true
pairs_stored n (c ∷ cs) [] = true
pairs_stored n (c ∷ cs) (p ∷ ps) = (grounded c || ltb p n) && pairs_stored n cs ps

-- a conductance's four cells, in the order of the pairs
unfoldable pub pair_stored : ℕ → ℕ → ℕ → ℕ → ℕ → ℕ → ℕ → Bool
pair_stored n a b aa ab ba bb = pairs_stored n (pair_between (node_at a) (node_at b) []) (aa ∷ ab ∷ ba ∷ bb ∷ [])

-- the channel's four cells in a node's row: the gate, the drain, the source and the bulk
unfoldable pub row_stored : ℕ → ℕ → Nodes → ℕ → ℕ → ℕ → ℕ → Bool
row_stored n row t pg pd ps pb =
    pairs_stored n
    (position (node_at row) (node_at t.gate) ∷ position (node_at row) (node_at t.drain) ∷ position (node_at row) (node_at t.source) ∷ position (node_at row) (node_at t.bulk) ∷ [])
    (pg ∷ pd ∷ ps ∷ pb ∷ [])

-- a conducting branch's four cells
unfoldable pub branch_stored : ℕ → Bool → ℕ → ℕ → ℕ → ℕ → ℕ → ℕ → Bool
branch_stored n conducts a b aa ab bb ba =
    cond conducts (cell_there n a a aa && (cell_there n a b ab && (cell_there n b b bb && (cell_there n b a ba && true)))) true

-- the five branches
unfoldable pub branches_stored : ℕ → Nodes → List ℕ → Charges → Bool
branches_stored n t w q =
    branch_stored n (q.cgs_eval ≠f +0) t.gate t.source (get_or w 32 0) (get_or w 33 0) (get_or w 14 0) (get_or w 12 0)
    && branch_stored n (q.cgd_eval ≠f +0) t.gate t.drain (get_or w 32 0) (get_or w 34 0) (get_or w 9 0) (get_or w 8 0)
    && branch_stored n (q.cgb_eval ≠f +0) t.gate t.bulk (get_or w 32 0) (get_or w 35 0) (get_or w 24 0) (get_or w 36 0)
    && branch_stored n (q.cbs_eval ≠f +0) t.bulk t.source (get_or w 24 0) (get_or w 25 0) (get_or w 14 0) (get_or w 15 0)
    && branch_stored n (q.cbd_eval ≠f +0) t.bulk t.drain (get_or w 24 0) (get_or w 29 0) (get_or w 9 0) (get_or w 11 0)

-- the same of branches that were made: each says itself whether it conducts
unfoldable pub conducting_stored : ℕ → Nodes → List ℕ → ChargeBranches → Bool
conducting_stored n t w br =
    branch_stored n br.gs.conducts t.gate t.source (get_or w 32 0) (get_or w 33 0) (get_or w 14 0) (get_or w 12 0)
    && branch_stored n br.gd.conducts t.gate t.drain (get_or w 32 0) (get_or w 34 0) (get_or w 9 0) (get_or w 8 0)
    && branch_stored n br.gb.conducts t.gate t.bulk (get_or w 32 0) (get_or w 35 0) (get_or w 24 0) (get_or w 36 0)
    && branch_stored n br.bs.conducts t.bulk t.source (get_or w 24 0) (get_or w 25 0) (get_or w 14 0) (get_or w 15 0)
    && branch_stored n br.bd.conducts t.bulk t.drain (get_or w 24 0) (get_or w 29 0) (get_or w 9 0) (get_or w 11 0)

-- each of the places is among n values
unfoldable pub all_below : ℕ → List ℕ → Bool
all_below n [] = true
all_below n (p ∷ ps) = ltb p n && all_below n ps

-- the nodes' numbers that the cells w were looked up for
unfoldable pub nodes_at : List ℕ → Nodes
nodes_at w = record {
  drain_ext = get_or w 0 0;
  source_ext = get_or w 1 0;
  drain = get_or w 2 0;
  gate = get_or w 3 0;
  source = get_or w 4 0;
  bulk = get_or w 5 0;
}

-- they are a device's
unfoldable pub nodes_are : List ℕ → Nodes → Bool
nodes_are w t =
    eqb t.drain_ext (get_or w 0 0) && eqb t.source_ext (get_or w 1 0) && eqb t.drain (get_or w 2 0)
    && eqb t.gate (get_or w 3 0) && eqb t.source (get_or w 4 0) && eqb t.bulk (get_or w 5 0)

-- row 13 does not apply; the charge branches count where the load is transient
unfoldable pub held : ℕ → Nodes → List ℕ → Charges → Bool → Bool
held n t w q transient =
    nodes_are w t && (pairs_stored n (jac_pairs_of (terminals_at t)) (numbers_from w 8 24) && cond transient (branches_stored n t w q) true)

abbrev pub is_transient : LoadKind → Bool
is_transient DirectCurrent = false
is_transient (Transient alpha) = true
