use Rattle.std.proofs.Common.{true, false}
use mathlib.Core.Bool.{Bool, cond, not}
use native.Mathlib.Omega.{arith}
use Rattle.std.proofs.lemmas.Result.{err_from_is_err_and}
use lib.ListN.{get_or}
use lib.Dec.{eqb}
use borrow.Author.Tests.{not-true, not-false}
use Rattle.device.specs.Stages.{unevaluated}
use Rattle.places.specs.Places.{nodes_of}
use Rattle.places.specs.declared.Nodes.{Nodes}
use Rattle.loading.specs.Loading.{nodes_outside, alpha_outside}
use Rattle.loading.proofs.Rows.{never_0, early_terminals}
use Rattle.resolved_rows.specs.LoadResolved.{cells_held, resolved_row_of}
use Rattle.resolved_rows.specs.ByNumbers.{held}
use Rattle.resolved_rows.proofs.Held.{held_is}
use Rattle.resolved_rows.proofs.Outcomes.{early_first, fifth}
use Rattle.resolved_rows.proofs.resolved_row.Goals as goal
-- `resolved_rows::resolved_row`: the early rows, then row 13's test, by numbers once row 8 has passed.
use mathlib.Core.Path.{◌≡◌, sym, ap, ◌∙◌}

pub early_row-requires : goal.early_row-requires
early_row-requires c = c.requires.1

pub returns-in_err-early_row : goal.returns-in_err-early_row
unfolding resolved_row_of
returns-in_err-early_row c =
    let p = err_from_is_err_and c.from_residual.result c.from_residual.ensures.1 in
    let e = c.in_err-early_row.ensures in
    rw (p.1, p.2)
    (e ∙ early_first _ _ _ _ (not (cells_held c.args.cells.now c.args.d c.args.kind c.args.values)) (λ z. never_0 c.in_err-early_row.field-0.0 (e ∙ z)))

pub returns-then-cells_held : goal.returns-then-cells_held
unfolding resolved_row_of
returns-then-cells_held c =
    let late : (x : Bool) → c.cells_held.result ≡ x → cond (not x) 13 0 ≡ resolved_row_of c.args.d c.args.kind c.args.cells.now c.args.rhs c.args.values = λ x e. let w = c.args.cells.now in let d = c.args.d in let outside = nodes_outside d.stage d.terminals c.args.rhs (get_or w 6 0) in let alpha = alpha_outside d.disc c.args.kind in let count = not (eqb c.args.values (get_or w 7 0)) in let passed = sym c.in_ok-early_row.ensures in let nodes = early_terminals d.stage d.terminals c.args.rhs (get_or w 6 0) alpha count (omega arith) passed in let found = c.cells_held.ensures ∙ ap (λ (n : Nodes). held c.args.values n w d.charges c.is_transient.result) c.requires.0 ∙ ap (λ (b : Bool). held c.args.values (nodes_of d.terminals) w d.charges b) c.is_transient.ensures ∙ held_is c.args.values w d c.args.kind nodes in ap (λ (b : Bool). cond (not b) 13 0) (sym e ∙ found) ∙ fifth outside (unevaluated d.stage) alpha count (not (cells_held w d c.args.kind c.args.values)) passed in
    late _ c.if-cells_held.true

pub returns-else-cells_held : goal.returns-else-cells_held
unfolding resolved_row_of
returns-else-cells_held c =
    let late : (x : Bool) → c.cells_held.result ≡ x → cond (not x) 13 0 ≡ resolved_row_of c.args.d c.args.kind c.args.cells.now c.args.rhs c.args.values = λ x e. let w = c.args.cells.now in let d = c.args.d in let outside = nodes_outside d.stage d.terminals c.args.rhs (get_or w 6 0) in let alpha = alpha_outside d.disc c.args.kind in let count = not (eqb c.args.values (get_or w 7 0)) in let passed = sym c.in_ok-early_row.ensures in let nodes = early_terminals d.stage d.terminals c.args.rhs (get_or w 6 0) alpha count (omega arith) passed in let found = c.cells_held.ensures ∙ ap (λ (n : Nodes). held c.args.values n w d.charges c.is_transient.result) c.requires.0 ∙ ap (λ (b : Bool). held c.args.values (nodes_of d.terminals) w d.charges b) c.is_transient.ensures ∙ held_is c.args.values w d c.args.kind nodes in ap (λ (b : Bool). cond (not b) 13 0) (sym e ∙ found) ∙ fifth outside (unevaluated d.stage) alpha count (not (cells_held w d c.args.kind c.args.values)) passed in
    late _ c.if-cells_held.false
