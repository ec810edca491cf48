-- Of the whole bridge and of a block: each device's own load is accepted, every contribution is added, and demand 3 holds of each device.
use mathlib.Core.List.{List}
use Rattle.device.specs.declared.Mosfet1.{Mosfet1}
use Rattle.assembly.specs.Assembly.{Pattern}
use Rattle.loading.specs.declared.LoadKind.{LoadKind}
use Rattle.call_lists.specs.Calls.{run}
use Rattle.currents.proofs.Currents.{currents_return}
use Rattle.bridge.specs.Bridge.{Slices, load_one, load_in_order, bridge_slices, block_slices}
use Rattle.bridge_sums.specs.BridgeSums.{zero_slices, own_slices, EachLoaded, EveryDeviceIsLoaded, EveryContributionIsAdded, EachHolds, EveryDeviceKeepsItsBound}
use Rattle.bridge_sums.proofs.InOrder.{each_loaded, all_added}
use Rattle.bridge_sums.proofs.Accepted.{bridge_passes, block_passes}

pub every_device_is_loaded : EveryDeviceIsLoaded
every_device_is_loaded = record {
  of_a_bridge = λ ds starts counts k P rhs values e. each_loaded ds k P (zero_slices rhs values) (bridge_passes ds starts counts k P rhs values e);
  of_a_block = λ ds block starts counts k P rhs values e. each_loaded ds k P (own_slices block starts counts rhs values) (block_passes ds block starts counts k P rhs values e);
}

pub every_contribution_is_added : EveryContributionIsAdded
unfolding bridge_slices block_slices
every_contribution_is_added = record {
  of_a_bridge = λ ds starts counts k P rhs values e. all_added ds k P (zero_slices rhs values) (bridge_passes ds starts counts k P rhs values e);
  of_a_block = λ ds block starts counts k P rhs values e. all_added ds k P (own_slices block starts counts rhs values) (block_passes ds block starts counts k P rhs values e);
}

each_holds : (ds : List Mosfet1) (k : LoadKind) (P : Pattern) (first : Slices) → EachLoaded ds k P first → EachHolds ds k P first
each_holds ds k P first l = record {
  each = λ before d calls after fresh fs split.
      let s = load_in_order k P before first in
      let s' = load_one k P (run calls d) s in
      currents_return d fresh calls fs k P s.side s.matrix s'.side s'.matrix (l.each before (run calls d) after split);
}

pub every_device_keeps_its_bound : EveryDeviceKeepsItsBound
every_device_keeps_its_bound = record {
  of_a_bridge = λ ds starts counts k P rhs values e. each_holds ds k P (zero_slices rhs values) (every_device_is_loaded.of_a_bridge ds starts counts k P rhs values e);
  of_a_block = λ ds block starts counts k P rhs values e. each_holds ds k P (own_slices block starts counts rhs values) (every_device_is_loaded.of_a_block ds block starts counts k P rhs values e);
}
