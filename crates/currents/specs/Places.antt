-- Where the loaded values stand: the nodes of each cell and entry by which the claims name them, and that the charge branches are all else that
-- a load adds behind the 24 values and the six offsets.
use Rattle.std.specs.Prelude.{◌≡◌, List, ◌++◌}
use Rattle.device.specs.declared.Mosfet1.{Mosfet1}
use Rattle.stamps.specs.Stamps.{position, jac_pairs_of, jac_values_of, residual_of}
use Rattle.assembly.specs.Assembly.{Contribution, Source, paired, branch_cells, offset_sources, branch_history}
use Rattle.loading.specs.Loading.{branches_of, jacobian_contributions, rhs_contributions}
use Rattle.loading.specs.declared.LoadKind.{LoadKind}
use Rattle.currents.specs.Loaded.{cell_at, source_at}
use Rattle.currents.specs.Branches.{Branch, gs, gd, gb, bs, bd, pos_of, neg_of, loaded_branch}

-- what a load adds for a charge branch, between its nodes
unfoldable pub cells_of : Branch → Mosfet1 → LoadKind → List Contribution
cells_of b d k = branch_cells (pos_of b d.terminals) (neg_of b d.terminals) (loaded_branch b (branches_of d k))

unfoldable pub sources_of : Branch → Mosfet1 → LoadKind → List Source
sources_of b d k = branch_history (pos_of b d.terminals) (neg_of b d.terminals) (loaded_branch b (branches_of d k))

pub record LoadedPlaces (d : Mosfet1) (k : LoadKind) : Type 0 where
  -- the channel's
  pub gm : (cell_at 0 (jacobian_contributions d k)).position ≡ position d.terminals.drain d.terminals.gate
  pub gds : (cell_at 1 (jacobian_contributions d k)).position ≡ position d.terminals.drain d.terminals.drain
  pub gmbs : (cell_at 3 (jacobian_contributions d k)).position ≡ position d.terminals.drain d.terminals.bulk
  pub jeq : (source_at 1 (rhs_contributions d k)).node ≡ d.terminals.source
  -- the junctions'
  pub source_conductance : (cell_at 16 (jacobian_contributions d k)).position ≡ position d.terminals.bulk d.terminals.bulk
  pub source_offset : (source_at 3 (rhs_contributions d k)).node ≡ d.terminals.source
  pub drain_conductance : (cell_at 20 (jacobian_contributions d k)).position ≡ position d.terminals.bulk d.terminals.bulk
  pub drain_offset : (source_at 5 (rhs_contributions d k)).node ≡ d.terminals.drain
  -- the charge branches', "in that order"
  pub branch_cells : jacobian_contributions d k ≡ paired (jac_pairs_of d.terminals) (jac_values_of d) ++ cells_of gs d k ++ cells_of gd d k ++ cells_of gb d k ++ cells_of bs d k ++ cells_of bd d k
  pub branch_sources : rhs_contributions d k ≡ offset_sources d.terminals (residual_of d) ++ sources_of gs d k ++ sources_of gd d k ++ sources_of gb d k ++ sources_of bs d k ++ sources_of bd d k
