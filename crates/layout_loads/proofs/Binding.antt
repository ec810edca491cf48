-- Calls that do not bind, and bindings that are refused, leave the device's nodes.
use mathlib.Core.Path.{◌≡◌, refl, ap, ◌∙◌}
use mathlib.Core.Bool.{false, ◌&&◌}
use mathlib.Core.List.{List, [], ◌∷◌}
use lib.ListN.{length}
use Rattle.device.specs.declared.Mosfet1.{Mosfet1}
use Rattle.geometry.specs.Geometry.{geometry_of, geometry_list_of}
use Rattle.setup.specs.Scaling.{scaling_of}
use Rattle.mosfet1.specs.Steps.{evaluated_of, evaluated_from_of, committed_of}
use Rattle.mosfet1.specs.declared.steps.Evaluated.{Evaluated}
use Rattle.model.specs.Calls.{eval_of, commit_of}
use Rattle.cells.proofs.Indices.{or_left, or_right}
use Rattle.call_lists.specs.Calls.{Call, geometry, scaling, binding, evaluation, loading, commit, noise, reactances, answer, device_left, accepted, after, run}
use Rattle.call_lists.proofs.Outcomes.{refused_call_leaves_the_device, geometry_done, scaling_done, evaluation_done, commit_done}
use Rattle.call_lists.proofs.Induction.{geometry_keeps, setup_keeps, evaluation_keeps, commit_keeps}
use Rattle.layout_loads.specs.LayoutLoads.{binds, binds_anew}

module _ (d : Mosfet1) where
  abbrev Same : Mosfet1 → Type 0
  Same e = e.terminals ≡ d.terminals

  call_stays : (c : Call) → (binds c && accepted c d) ≡ false → Same (after c d)
  unfolding binds after answer device_left evaluated_of evaluated_from_of committed_of
  call_stays (binding drain gate source bulk first) b = ap (λ (e : Mosfet1). e.terminals) (refused_call_leaves_the_device (binding drain gate source bulk first) d b)
  call_stays (geometry bytes offsets lengths values list) b =
      geometry_keeps Same d (geometry_list_of d bytes offsets lengths values list) (geometry_of d bytes offsets lengths values (length list))
      (λ k h. ap (λ (e : Mosfet1). e.terminals) (geometry_done d bytes offsets lengths values (length list) k h).1) refl
  call_stays (scaling t) b = setup_keeps Same d (scaling_of d t) (λ e h. ap (λ (e : Mosfet1). e.terminals) (scaling_done d t e h).1) refl
  call_stays (evaluation x transient k) b =
      evaluation_keeps Same d (eval_of d x transient k) (λ e h. ap (λ (e : Evaluated). e.device.terminals) (evaluation_done d x transient k e h)) refl
  call_stays (loading kind P rhs values) b = refl
  call_stays (commit x) b = commit_keeps Same d (commit_of d x) (λ e h. ap (λ (e : Mosfet1). e.terminals) (commit_done d x e h)) refl
  call_stays (noise t freq) b = refl
  call_stays reactances b = refl

pub nodes_stay : (calls : List Call) (d : Mosfet1) → binds_anew calls d ≡ false → (run calls d).terminals ≡ d.terminals
unfolding run binds_anew
nodes_stay [] d b = refl
nodes_stay (c ∷ calls) d b =
    nodes_stay calls (after c d) (or_right (binds c && accepted c d) _ b) ∙ call_stays d c (or_left (binds c && accepted c d) _ b)
