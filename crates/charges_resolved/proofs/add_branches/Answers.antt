use mathlib.Core.Bool.{true}
use Prim.Native.Nat.{ℕ}
use native.Mathlib.Omega.{arith}
use lib.ListN.{length}
use Rattle.resolved_rows.specs.ByNumbers.{conducting_stored}
use Rattle.load_resolved.specs.ByNumbers.{add_branches_stored}
use Rattle.load_resolved.proofs.Stored.{length_branch, length_branches}
use Rattle.load_resolved.proofs.There.{gs_stored, gd_stored, gb_stored, bs_stored, bd_stored}
use Rattle.charges_resolved.proofs.add_branches.Goals as goal
-- `charges_resolved::add_branches`: five branches in turn.
use mathlib.Core.Path.{◌≡◌, sym, ap, ◌∙◌, subst}

pub branch_at-requires : goal.branch_at-requires
branch_at-requires c = (omega arith, (omega arith, (omega arith, (omega arith, gs_stored _ _ _ _ c.requires))))

pub branch_at-requires-2 : goal.branch_at-requires-2
branch_at-requires-2 c =
    let later : (n : ℕ) → n ≡ length c.args.xs.now → conducting_stored n c.args.n c.args.cells.now c.args.b ≡ true = λ n same. subst (λ (n : ℕ). conducting_stored n c.args.n c.args.cells.now c.args.b ≡ true) (sym same) c.requires in
    let same = ap length c.branch_at.ensures ∙ length_branch _ _ _ _ _ _ _ _ in
    (omega arith, (omega arith, (omega arith, (omega arith, gd_stored _ _ _ _ (later _ same)))))

pub branch_at-requires-3 : goal.branch_at-requires-3
branch_at-requires-3 c =
    let later : (n : ℕ) → n ≡ length c.args.xs.now → conducting_stored n c.args.n c.args.cells.now c.args.b ≡ true = λ n same. subst (λ (n : ℕ). conducting_stored n c.args.n c.args.cells.now c.args.b ≡ true) (sym same) c.requires in
    let same = ap length c.branch_at-2.ensures ∙ length_branch _ _ _ _ _ _ _ _ ∙ ap length c.branch_at.ensures ∙ length_branch _ _ _ _ _ _ _ _ in
    (omega arith, (omega arith, (omega arith, (omega arith, gb_stored _ _ _ _ (later _ same)))))

pub branch_at-requires-4 : goal.branch_at-requires-4
branch_at-requires-4 c =
    let later : (n : ℕ) → n ≡ length c.args.xs.now → conducting_stored n c.args.n c.args.cells.now c.args.b ≡ true = λ n same. subst (λ (n : ℕ). conducting_stored n c.args.n c.args.cells.now c.args.b ≡ true) (sym same) c.requires in
    let same = ap length c.branch_at-3.ensures ∙ length_branch _ _ _ _ _ _ _ _ ∙ ap length c.branch_at-2.ensures ∙ length_branch _ _ _ _ _ _ _ _ ∙ ap length c.branch_at.ensures ∙ length_branch _ _ _ _ _ _ _ _ in
    (omega arith, (omega arith, (omega arith, (omega arith, bs_stored _ _ _ _ (later _ same)))))

pub branch_at-requires-5 : goal.branch_at-requires-5
branch_at-requires-5 c =
    let later : (n : ℕ) → n ≡ length c.args.xs.now → conducting_stored n c.args.n c.args.cells.now c.args.b ≡ true = λ n same. subst (λ (n : ℕ). conducting_stored n c.args.n c.args.cells.now c.args.b ≡ true) (sym same) c.requires in
    let same = ap length c.branch_at-4.ensures ∙ length_branch _ _ _ _ _ _ _ _ ∙ ap length c.branch_at-3.ensures ∙ length_branch _ _ _ _ _ _ _ _ ∙ ap length c.branch_at-2.ensures ∙ length_branch _ _ _ _ _ _ _ _ ∙ ap length c.branch_at.ensures ∙ length_branch _ _ _ _ _ _ _ _ in
    (omega arith, (omega arith, (omega arith, (omega arith, bd_stored _ _ _ _ (later _ same)))))

pub returns : goal.returns
unfolding add_branches_stored
returns c = rw (c.branch_at-5.ensures, c.branch_at-4.ensures, c.branch_at-3.ensures, c.branch_at-2.ensures, c.branch_at.ensures)

pub shape_of-xs : goal.shape_of-xs
shape_of-xs c = ap length (returns c) ∙ length_branches _ _ _ _
