-- The load of the example is accepted, and leaves the slices of the trace.
use mathlib.Core.Path.{◌≡◌, refl, sym, subst}
use Rattle.device.specs.declared.Mosfet1.{Mosfet1}
use Rattle.pattern.specs.Pattern.{rising_after, rising, pairs_fit, well_formed, place_in, cell_of}
use Rattle.reactive.specs.Charge.{gear_conductance_of, scale_of, history_of, companion_of}
use Rattle.stamps.specs.Stamps.{jac_pairs_of, series_of, jac_values_of, residual_of, branch_of, has_junction_of, junction_branch_of, charge_branches_of}
use Rattle.assembly.specs.Assembly.{found_place, place_of, add_at, add_place, add_cells, there, all_there, add_node, add_sources, paired, conductance_pair, branch_cells, matrix_contributions, current_pair, branch_history, offset_sources, source_contributions}
use Rattle.loading.specs.Loading.{nodes_outside, alpha_inside, alpha_outside, branches_of, jacobian_contributions, rhs_contributions, load_of, if_done, Loaded}
use Rattle.device.specs.Refusals.{done}
use Rattle.call_lists.specs.Calls.{run}
use Rattle.currents_example.specs.Example.{kind, pattern, side, matrix, calls}
use Rattle.currents_example.specs.Trace.{fresh, evaluated3, side_loaded, matrix_loaded}
use Rattle.currents_example.proofs.Computing.{floats, model, rows}
use Rattle.currents_example.proofs.Run.{example_leaves}

load_answered : done tt ≡ load_of evaluated3 kind pattern side matrix
unfolding rising_after rising pairs_fit well_formed place_in cell_of jac_pairs_of jac_values_of branch_of junction_branch_of charge_branches_of found_place place_of there all_there paired conductance_pair branch_cells matrix_contributions nodes_outside alpha_inside alpha_outside branches_of jacobian_contributions load_of rows model floats
load_answered = refl

side_is : side_loaded ≡ if_done (done tt) (add_sources (rhs_contributions evaluated3 kind) side) side
unfolding scale_of history_of companion_of residual_of branch_of has_junction_of junction_branch_of charge_branches_of add_at add_node add_sources current_pair branch_history offset_sources source_contributions branches_of rhs_contributions if_done model floats
side_is = refl

matrix_is : matrix_loaded ≡ if_done (done tt) (add_cells pattern (jacobian_contributions evaluated3 kind) matrix) matrix
unfolding place_in cell_of gear_conductance_of scale_of jac_pairs_of series_of jac_values_of branch_of junction_branch_of charge_branches_of found_place place_of add_at add_place add_cells paired conductance_pair branch_cells matrix_contributions branches_of jacobian_contributions if_done model floats
matrix_is = refl

pub example_loaded : Loaded (run calls fresh) kind pattern side matrix (done tt) side_loaded matrix_loaded
example_loaded =
    subst (λ (d : Mosfet1). Loaded d kind pattern side matrix (done tt) side_loaded matrix_loaded) (sym example_leaves)
    (record { answer = load_answered; side = side_is; matrix = matrix_is })
