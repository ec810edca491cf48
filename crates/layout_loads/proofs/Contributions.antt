-- Of any pattern that holds the positions: every contribution finds its cell.
use mathlib.Core.Path.{◌≡◌, refl, ◌∙◌}
use mathlib.Core.Bool.{Bool, true, false, cond, ◌&&◌}
use mathlib.Core.List.{List, [], ◌∷◌, ◌++◌}
use lib.Ieee.{Float}
use Rattle.pattern.proofs.Rows.{and_left, and_right}
use Rattle.device.specs.declared.NodeId.{NodeId}
use Rattle.device.specs.declared.Terminals.{Terminals}
use Rattle.stamps.specs.Stamps.{jac_pairs_of}
use Rattle.stamps.specs.declared.Position.{Position}
use Rattle.stamps.specs.declared.ChargeBranch.{ChargeBranch}
use Rattle.stamps.specs.declared.ChargeBranches.{ChargeBranches}
use Rattle.assembly.specs.Assembly.{Pattern, Contribution, place_of, there, all_there, paired, conductance_pair, branch_cells, matrix_contributions}
use Rattle.assembly.proofs.Cells.{there_append}
use Rattle.resolve.specs.Resolve.{positions_there}
use Rattle.cells.specs.Cells.{branch_positions, positions_of}

and_both : (a b : Bool) → a ≡ true → b ≡ true → (a && b) ≡ true
and_both a b e f = rw (e, f)

module _ (P : Pattern) where
  abbrev in_it : NodeId → NodeId → Bool
  in_it a b = there (place_of P a b)

  pub append_left : (ps qs : List Position) → positions_there P (ps ++ qs) ≡ true → positions_there P ps ≡ true
  unfolding positions_there
  append_left [] qs e = refl
  append_left (p ∷ ps) qs e = and_both (in_it p.row p.col) _ (and_left (in_it p.row p.col) _ e) (append_left ps qs (and_right (in_it p.row p.col) _ e))

  append_right : (ps qs : List Position) → positions_there P (ps ++ qs) ≡ true → positions_there P qs ≡ true
  unfolding positions_there
  append_right [] qs e = e
  append_right (p ∷ ps) qs e = append_right ps qs (and_right (in_it p.row p.col) _ e)

  pub paired_there : (ps : List Position) (xs : List Float) → positions_there P ps ≡ true → all_there P (paired ps xs) ≡ true
  unfolding positions_there all_there paired
  paired_there [] xs e = refl
  paired_there (p ∷ ps) [] e = refl
  paired_there (p ∷ ps) (x ∷ xs) e = and_both (in_it p.row p.col) _ (and_left (in_it p.row p.col) _ e) (paired_there ps xs (and_right (in_it p.row p.col) _ e))

  module _ (a b : NodeId) (rest : List Position) (e : positions_there P (branch_positions a b rest) ≡ true) where
    h1 : (in_it a b && (in_it b b && (in_it b a && positions_there P rest))) ≡ true
    unfolding positions_there
    h1 = and_right (in_it a a) _ e

    h2 : (in_it b b && (in_it b a && positions_there P rest)) ≡ true
    h2 = and_right (in_it a b) _ h1

    h3 : (in_it b a && positions_there P rest) ≡ true
    h3 = and_right (in_it b b) _ h2

    pub four_rest : positions_there P rest ≡ true
    four_rest = and_right (in_it b a) _ h3

    pair_there : (g : Float) → all_there P (conductance_pair a b g) ≡ true
    unfolding all_there conductance_pair positions_there
    pair_there g =
        and_both (in_it a a) _ (and_left (in_it a a) _ e)
        (and_both (in_it a b) _ (and_left (in_it a b) _ h1) (and_both (in_it b b) _ (and_left (in_it b b) _ h2) (and_both (in_it b a) _ (and_left (in_it b a) _ h3) refl)))

    pub four_there_lem : (br : ChargeBranch) → all_there P (branch_cells a b br) ≡ true
    unfolding all_there branch_cells
    four_there_lem br = go br.conducts
      where
        go : (c : Bool) → all_there P (cond c (conductance_pair a b br.conductance) []) ≡ true
        go true = pair_there br.conductance
        go false = refl

  then_there : (cs ds : List Contribution) → all_there P cs ≡ true → all_there P ds ≡ true → all_there P (cs ++ ds) ≡ true
  then_there cs ds e f = there_append P cs ds ∙ and_both _ _ e f

  -- whatever the values, and whichever branches are loaded
  pub contributions_there : (t : Terminals) (jacobian : List Float) (br : ChargeBranches) → positions_there P (positions_of t) ≡ true
      → all_there P (matrix_contributions t jacobian br) ≡ true
  unfolding matrix_contributions positions_of
  contributions_there t jacobian br e =
      let e0 = append_right (jac_pairs_of t) _ e in
      let e1 = four_rest t.gate t.source _ e0 in
      let e2 = four_rest t.gate t.drain _ e1 in
      let e3 = four_rest t.gate t.bulk _ e2 in
      let e4 = four_rest t.bulk t.source _ e3 in
      then_there _ _
      (then_there _ _
      (then_there _ _
      (then_there _ _
      (then_there _ _ (paired_there (jac_pairs_of t) jacobian (append_left (jac_pairs_of t) _ e))
      (four_there_lem t.gate t.source _ e0 br.gs))
      (four_there_lem t.gate t.drain _ e1 br.gd))
      (four_there_lem t.gate t.bulk _ e2 br.gb))
      (four_there_lem t.bulk t.source _ e3 br.bs))
      (four_there_lem t.bulk t.drain _ e4 br.bd)
