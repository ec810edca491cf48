-- The rows in their order, and the outcome by what each test found.
use mathlib.Core.Path.{◌≡◌, refl, sym, ap, ◌∙◌}
use mathlib.Core.Bool.{Bool, true, false, cond, not, ◌&&◌}
use mathlib.Core.List.{List, [], ◌∷◌, ◌++◌}
use Prim.Native.Nat.{ℕ, ◌≤◌}
use native.Mathlib.Omega.{arith}
use lib.ListN.{length}
use Rattle.pattern.specs.Pattern.{well_formed}
use Rattle.device.specs.Nodes.{any_node_beyond}
use Rattle.device.specs.Refusals.{done, refused, row_number, unless, ◌when◌}
use Rattle.device.specs.Stages.{unbound}
use Rattle.device.specs.declared.Terminals.{Terminals}
use Rattle.device.specs.declared.Mosfet1.{Mosfet1}
use Rattle.stamps.specs.Stamps.{jac_pairs_of, jac_values_of}
use Rattle.places.specs.Places.{missing_number, none_missing, nodes_of, numbers_of}
use Rattle.places.specs.declared.Nodes.{Nodes}
use Rattle.assembly.specs.Assembly.{Pattern, all_there, paired}
use Rattle.assembly.proofs.Cells.{well_small, numbers_there}
use Rattle.resolve.specs.Resolve.{node_numbers, gate_pairs_of, positions_there, resolved_cells, resolve_of, early_row_of}

early_refuses : {A : Type 0} (a b c d : Bool) (x : A) → (row_number ((8 when a) ∷ (10 when b) ∷ (12 when c) ∷ []) ≡ 0 → ⊥)
    → unless ((8 when a) ∷ (10 when b) ∷ (12 when c) ∷ (13 when d) ∷ []) refused (done x) ≡ refused (row_number ((8 when a) ∷ (10 when b) ∷ (12 when c) ∷ []))
early_refuses true b c d x h = refl
early_refuses false true c d x h = refl
early_refuses false false true d x h = refl
early_refuses false false false d x h = absurd (h refl)

early_passes : {A : Type 0} (a b c d : Bool) (x : A) → row_number ((8 when a) ∷ (10 when b) ∷ (12 when c) ∷ []) ≡ 0
    → unless ((8 when a) ∷ (10 when b) ∷ (12 when c) ∷ (13 when d) ∷ []) refused (done x) ≡ cond d (refused 13) (done x)
early_passes true b c d x h = absurd (omega arith)
early_passes false true c d x h = absurd (omega arith)
early_passes false false true d x h = absurd (omega arith)
early_passes false false false d x h = refl

third : (a b w : Bool) → row_number ((8 when a) ∷ (10 when b) ∷ (12 when not w) ∷ []) ≡ 0 → w ≡ true
third true b w h = absurd (omega arith)
third false true w h = absurd (omega arith)
third false false true h = refl
third false false false h = absurd (omega arith)

module _ (d : Mosfet1) (P : Pattern) where
  abbrev row8 : Bool
  row8 = not (unbound d.stage) && any_node_beyond (length P.offsets) d.terminals

  abbrev well : Bool
  well = well_formed P.columns P.offsets P.lengths (length P.columns)

  pub refused_early : (row : ℕ) → row ≡ early_row_of d P → (row ≡ 0 → ⊥) → resolve_of d P ≡ refused row
  unfolding resolve_of early_row_of
  refused_early row e h =
      early_refuses row8 (unbound d.stage) (not well) (not (positions_there P (jac_pairs_of d.terminals))) (resolved_cells d.terminals P) (λ z. h (e ∙ z)) ∙ ap refused (sym e)

  pub early_well : early_row_of d P ≡ 0 → well ≡ true
  unfolding early_row_of
  early_well e = third row8 (unbound d.stage) well e

  late : early_row_of d P ≡ 0 → resolve_of d P ≡ cond (not (positions_there P (jac_pairs_of d.terminals))) (refused 13) (done (resolved_cells d.terminals P))
  unfolding resolve_of early_row_of
  late e = early_passes row8 (unbound d.stage) (not well) (not (positions_there P (jac_pairs_of d.terminals))) (resolved_cells d.terminals P) e

  positions_same : all_there P (paired (jac_pairs_of d.terminals) (jac_values_of d)) ≡ positions_there P (jac_pairs_of d.terminals)
  unfolding all_there positions_there paired jac_pairs_of jac_values_of
  positions_same = refl

  pairs_length : length (jac_pairs_of d.terminals) ≡ length (jac_values_of d)
  unfolding jac_pairs_of jac_values_of
  pairs_length = refl

  pub pairs_there : early_row_of d P ≡ 0 → length P.columns ≤ missing_number → none_missing (numbers_of P (jac_pairs_of d.terminals)) ≡ positions_there P (jac_pairs_of d.terminals)
  pairs_there e room = numbers_there P (well_small P (early_well e) room) (jac_pairs_of d.terminals) (jac_values_of d) pairs_length ∙ positions_same

  pub refused_13 : early_row_of d P ≡ 0 → positions_there P (jac_pairs_of d.terminals) ≡ false → resolve_of d P ≡ refused 13
  refused_13 e f = late e ∙ rw f

  pub accepted : early_row_of d P ≡ 0 → positions_there P (jac_pairs_of d.terminals) ≡ true → resolve_of d P ≡ done (resolved_cells d.terminals P)
  accepted e f = late e ∙ rw f

-- the numbers in their order, from what was looked up
pub cells_are : (t : Terminals) (P : Pattern) (n : Nodes) (p q : List ℕ) → n ≡ nodes_of t → p ≡ numbers_of P (jac_pairs_of t) → q ≡ numbers_of P (gate_pairs_of t)
    → ((n.drain_ext ∷ n.source_ext ∷ n.drain ∷ n.gate ∷ n.source ∷ n.bulk ∷ []) ++ (length P.offsets ∷ length P.columns ∷ []) ++ p ++ q) ≡ resolved_cells t P
unfolding resolved_cells node_numbers nodes_of
cells_are t P n p q e f g = rw (e, f, g)
