-- The rows of one device on a pattern that was tested before.
use mathlib.Core.Path.{◌≡◌, refl, sym, ap, ◌∙◌, subst}
use mathlib.Core.Bool.{Bool, true, false, not}
use mathlib.Core.List.{List}
use Prim.Native.Nat.{ℕ, ◌≤◌}
use lib.ListN.{length}
use lib.Ieee.{Float}
use Rattle.pattern.specs.Pattern.{well_formed}
use Rattle.device.specs.Refusals.{done}
use Rattle.device.specs.Stages.{unevaluated}
use Rattle.device.proofs.Rows.{passed}
use Rattle.device.specs.declared.Terminals.{Terminals}
use Rattle.device.specs.declared.Mosfet1.{Mosfet1}
use Rattle.stamps.specs.Stamps.{jac_values_of}
use Rattle.stamps.specs.declared.ChargeBranches.{ChargeBranches}
use Rattle.std.specs.Prelude.{Option, Some, None, is_some}
use Rattle.places.specs.LookedUp.{looked_up}
use Rattle.places.specs.declared.Cells.{Cells}
use Rattle.places.specs.Places.{missing_number, skipped_number, nodes_of, terminals_at}
use Rattle.places.specs.declared.Nodes.{Nodes}
use Rattle.assembly.specs.Assembly.{Pattern, all_there, matrix_contributions}
use Rattle.assembly.proofs.Outcome.{not_there, are_there}
use Rattle.loading.specs.Loading.{nodes_outside, alpha_outside, branches_of, jacobian_contributions, load_rows, load_of, early_row}
use Rattle.loading.specs.declared.LoadKind.{LoadKind}
use Rattle.loading.proofs.Rows.{early_terminals, well_columns}

-- what was looked up says whether row 13 applies
module _ (d : Mosfet1) (k : LoadKind) (P : Pattern) (n : Nodes) (b : ChargeBranches) (well : well_formed P.columns P.offsets P.lengths (length P.columns) ≡ true) (room : length P.columns ≤ missing_number) where
  all_or_none : (o : Option Cells) → looked_up P d.terminals b ≡ o → all_there P (matrix_contributions d.terminals (jac_values_of d) b) ≡ is_some o
  unfolding jac_values_of
  all_or_none None e = not_there P d.terminals b (jac_values_of d) well room refl e
  all_or_none (Some c) e = are_there P d.terminals b (jac_values_of d) well room refl c e

  looked_for : (o : Option Cells) → n ≡ nodes_of d.terminals → b ≡ branches_of d k → terminals_at (nodes_of d.terminals) ≡ d.terminals
      → o ≡ looked_up P (terminals_at n) b → all_there P (jacobian_contributions d k) ≡ is_some o
  unfolding jacobian_contributions
  looked_for o en eb back eo =
      ap (λ (c : ChargeBranches). all_there P (matrix_contributions d.terminals (jac_values_of d) c)) (sym eb)
      ∙ all_or_none o (sym (eo ∙ ap (λ (t : Terminals). looked_up P t b) (ap terminals_at en ∙ back)))

not_not : (b : Bool) → not b ≡ false → b ≡ true
not_not true e = refl
not_not false e = sym e

three_passed : (x y z : Bool) → x ≡ false → y ≡ false → z ≡ false → early_row x y z false ≡ 0
unfolding early_row
three_passed x y z e f g = rw (e, f, g)

-- where the first three rows do not apply, on a tested pattern of the same lists
pub cells_there : (d : Mosfet1) (k : LoadKind) (W P : Pattern) (rows : ℕ) (n : Nodes) (b : ChargeBranches) (o : Option Cells) → W ≡ P → rows ≤ skipped_number → length P.columns ≤ missing_number
    → nodes_outside d.stage d.terminals rows (length P.offsets) ≡ false → unevaluated d.stage ≡ false → alpha_outside d.disc k ≡ false → well_formed W.columns W.offsets W.lengths (length W.columns) ≡ true
    → n ≡ nodes_of d.terminals → b ≡ branches_of d k → o ≡ looked_up W (terminals_at n) b → all_there P (jacobian_contributions d k) ≡ is_some o
cells_there d k W P rows n b o same few room e8 e10 e11 well en eb eo =
    subst (λ (Q : Pattern). all_there Q (jacobian_contributions d k) ≡ is_some o) same
    (looked_for d k W n b well (subst (λ (Q : Pattern). length Q.columns ≤ missing_number) (sym same) room) o en eb
    (early_terminals d.stage d.terminals rows (length P.offsets) (alpha_outside d.disc k) false few (three_passed (nodes_outside d.stage d.terminals rows (length P.offsets)) (unevaluated d.stage) (alpha_outside d.disc k) e8 e10 e11)) eo)

-- what an accepted load says of its rows
module _ (d : Mosfet1) (k : LoadKind) (P : Pattern) (rhs values : List Float) (e : load_of d k P rhs values ≡ done tt) where
  abbrev row8 : Bool
  row8 = nodes_outside d.stage d.terminals (length rhs) (length P.offsets)

  abbrev well : Bool
  well = well_formed P.columns P.offsets P.lengths (length values)

  none : (row8 ≡ false) × ((unevaluated d.stage ≡ false) × ((alpha_outside d.disc k ≡ false) × ((not well ≡ false) × ((not (all_there P (jacobian_contributions d k)) ≡ false) × Unit {0}))))
  unfolding load_of
  none = (passed (load_rows d k P rhs values) e).0

  pub early : early_row row8 (unevaluated d.stage) (alpha_outside d.disc k) (not well) ≡ 0
  unfolding early_row
  early = rw (none.0, none.1.0, none.1.1.0, none.1.1.1.0)

  pub columns_well : well_formed P.columns P.offsets P.lengths (length P.columns) ≡ true
  columns_well = well_columns P.columns P.offsets P.lengths (length values) (not_not well none.1.1.1.0)

  pub terminals_same : length rhs ≤ skipped_number → terminals_at (nodes_of d.terminals) ≡ d.terminals
  terminals_same room = early_terminals d.stage d.terminals (length rhs) (length P.offsets) (alpha_outside d.disc k) (not well) room early

  -- so the assembly of its contributions finds every cell
  pub assembled_there : (jacobian : List Float) (b : ChargeBranches) (r : Bool) → jacobian ≡ jac_values_of d → b ≡ branches_of d k → r ≡ all_there P (matrix_contributions d.terminals jacobian b) → r ≡ true
  unfolding jacobian_contributions
  assembled_there jacobian b r ej eb er = er ∙ rw (ej, eb) (not_not (all_there P (jacobian_contributions d k)) none.1.1.1.1.0)
