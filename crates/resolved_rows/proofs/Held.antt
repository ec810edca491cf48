-- Row 13's test by numbers is the definition's, once row 8 has passed: no node then has ground's number but ground.
use mathlib.Core.Path.{◌≡◌, refl, sym, ap, ◌∙◌}
use mathlib.Core.Bool.{Bool, true, false, cond, ◌&&◌, ◌||◌}
use mathlib.Core.List.{List, [], ◌∷◌, ◌++◌}
use Prim.Native.Nat.{ℕ, suc}
use native.Mathlib.Nat.{suc_inj}
use native.Mathlib.Omega.{arith}
use lib.ListN.{length, get_or}
use lib.Dec.{ltb}
use lib.Ieee.{Float}
use Rattle.device.specs.declared.Terminals.{Terminals}
use Rattle.device.specs.declared.Mosfet1.{Mosfet1}
use Rattle.stamps.specs.Stamps.{jac_pairs_of, jac_values_of, branch_of, junction_branch_of, charge_branches_of}
use Rattle.stamps.specs.declared.ChargeBranches.{ChargeBranches}
use Rattle.places.specs.Places.{node_at, nodes_of, terminals_at}
use Rattle.places.specs.declared.Nodes.{Nodes}
use Rattle.assembly.specs.Assembly.{Contribution, paired, conductance_pair, branch_cells, matrix_contributions}
use Rattle.loading.specs.Loading.{branches_of, no_branches, no_branch, jacobian_contributions}
use Rattle.loading.specs.declared.LoadKind.{LoadKind}
use Rattle.loading.specs.declared.LoadKind.TheVariants.{DirectCurrent, Transient}
use Rattle.resolved_rows.specs.LoadResolved.{numbers_from, made_for, grounded, all_stored, branch_places, stored_places, cells_held}
use Rattle.resolved_rows.specs.ByNumbers.{cell_there, pairs_stored, branch_stored, branches_stored, conducting_stored, nodes_are, held, is_transient}

and_move : (a b c : Bool) → (a && (b && c)) ≡ ((a && b) && c)
and_move true b c = refl
and_move false b c = refl

and_true : (a : Bool) → (a && true) ≡ a
and_true true = refl
and_true false = refl

and_five : (z a b c d e : Bool) → (z && (a && b && c && d && e)) ≡ (z && a && b && c && d && e)
and_five true a b c d e = refl
and_five false a b c d e = refl

-- contributions one after another, each with its places
pub stored_append : (n : ℕ) (cs ds : List Contribution) (ps qs : List ℕ) → length cs ≡ length ps → all_stored n (cs ++ ds) (ps ++ qs) ≡ (all_stored n cs ps && all_stored n ds qs)
unfolding all_stored
stored_append n [] ds [] qs e = refl
stored_append n [] ds (p ∷ ps) qs e = absurd (omega arith)
stored_append n (c ∷ cs) ds [] qs e = absurd (omega arith)
stored_append n (c ∷ cs) ds (p ∷ ps) qs e =
    ap (λ (b : Bool). (grounded c.position || ltb p n) && b) (stored_append n cs ds ps qs (suc_inj e))
    ∙ and_move (grounded c.position || ltb p n) (all_stored n cs ps) (all_stored n ds qs)

pub length_append : (cs ds : List Contribution) (ps qs : List ℕ) → length cs ≡ length ps → length ds ≡ length qs → length (cs ++ ds) ≡ length (ps ++ qs)
length_append [] ds [] qs e f = f
length_append [] ds (p ∷ ps) qs e f = absurd (omega arith)
length_append (c ∷ cs) ds [] qs e f = absurd (omega arith)
length_append (c ∷ cs) ds (p ∷ ps) qs e f = ap suc (length_append cs ds ps qs (suc_inj e) f)

-- one branch, between nodes that their numbers stand for
module _ (n : ℕ) (a b aa ab bb ba : ℕ) (g : Float) where
  by_conducts : (c : Bool) → branch_stored n c a b aa ab bb ba ≡ all_stored n (cond c (conductance_pair (node_at a) (node_at b) g) []) (cond c (aa ∷ ab ∷ bb ∷ ba ∷ []) [])
  unfolding branch_stored all_stored conductance_pair cell_there
  by_conducts true = refl
  by_conducts false = refl

  branch_length : (c : Bool) → length (cond c (conductance_pair (node_at a) (node_at b) g) []) ≡ length (cond c (aa ∷ ab ∷ bb ∷ ba ∷ []) [])
  unfolding conductance_pair
  branch_length true = refl
  branch_length false = refl

module _ (n : ℕ) (m : Nodes) (w : List ℕ) (d : Mosfet1) (br : ChargeBranches) where
  abbrev pub pair_cells : List Contribution
  pair_cells = paired (jac_pairs_of (terminals_at m)) (jac_values_of d)

  abbrev pub gs_cells : List Contribution
  gs_cells = branch_cells (node_at m.gate) (node_at m.source) br.gs

  abbrev pub gd_cells : List Contribution
  gd_cells = branch_cells (node_at m.gate) (node_at m.drain) br.gd

  abbrev pub gb_cells : List Contribution
  gb_cells = branch_cells (node_at m.gate) (node_at m.bulk) br.gb

  abbrev pub bs_cells : List Contribution
  bs_cells = branch_cells (node_at m.bulk) (node_at m.source) br.bs

  abbrev pub bd_cells : List Contribution
  bd_cells = branch_cells (node_at m.bulk) (node_at m.drain) br.bd

  abbrev pub gs_places : List ℕ
  gs_places = branch_places br.gs (get_or w 32 0) (get_or w 33 0) (get_or w 14 0) (get_or w 12 0)

  abbrev pub gd_places : List ℕ
  gd_places = branch_places br.gd (get_or w 32 0) (get_or w 34 0) (get_or w 9 0) (get_or w 8 0)

  abbrev pub gb_places : List ℕ
  gb_places = branch_places br.gb (get_or w 32 0) (get_or w 35 0) (get_or w 24 0) (get_or w 36 0)

  abbrev pub bs_places : List ℕ
  bs_places = branch_places br.bs (get_or w 24 0) (get_or w 25 0) (get_or w 14 0) (get_or w 15 0)

  abbrev pub bd_places : List ℕ
  bd_places = branch_places br.bd (get_or w 24 0) (get_or w 29 0) (get_or w 9 0) (get_or w 11 0)

  abbrev pub pair_places : List ℕ
  pair_places = numbers_from w 8 24

  -- each part has as many places as cells
  pub length_pairs : length pair_cells ≡ length pair_places
  unfolding paired jac_pairs_of jac_values_of numbers_from
  length_pairs = refl

  pub length_gs : length gs_cells ≡ length gs_places
  unfolding branch_cells branch_places
  length_gs = branch_length n m.gate m.source (get_or w 32 0) (get_or w 33 0) (get_or w 14 0) (get_or w 12 0) br.gs.conductance br.gs.conducts

  pub length_gd : length gd_cells ≡ length gd_places
  unfolding branch_cells branch_places
  length_gd = branch_length n m.gate m.drain (get_or w 32 0) (get_or w 34 0) (get_or w 9 0) (get_or w 8 0) br.gd.conductance br.gd.conducts

  pub length_gb : length gb_cells ≡ length gb_places
  unfolding branch_cells branch_places
  length_gb = branch_length n m.gate m.bulk (get_or w 32 0) (get_or w 35 0) (get_or w 24 0) (get_or w 36 0) br.gb.conductance br.gb.conducts

  pub length_bs : length bs_cells ≡ length bs_places
  unfolding branch_cells branch_places
  length_bs = branch_length n m.bulk m.source (get_or w 24 0) (get_or w 25 0) (get_or w 14 0) (get_or w 15 0) br.bs.conductance br.bs.conducts

  pub length_1 : length (pair_cells ++ gs_cells) ≡ length (pair_places ++ gs_places)
  length_1 = length_append pair_cells gs_cells pair_places gs_places length_pairs length_gs

  pub length_2 : length (pair_cells ++ gs_cells ++ gd_cells) ≡ length (pair_places ++ gs_places ++ gd_places)
  length_2 = length_append (pair_cells ++ gs_cells) gd_cells (pair_places ++ gs_places) gd_places length_1 length_gd

  pub length_3 : length (pair_cells ++ gs_cells ++ gd_cells ++ gb_cells) ≡ length (pair_places ++ gs_places ++ gd_places ++ gb_places)
  length_3 = length_append (pair_cells ++ gs_cells ++ gd_cells) gb_cells (pair_places ++ gs_places ++ gd_places) gb_places length_2 length_gb

  pub length_4 : length (pair_cells ++ gs_cells ++ gd_cells ++ gb_cells ++ bs_cells) ≡ length (pair_places ++ gs_places ++ gd_places ++ gb_places ++ bs_places)
  length_4 = length_append (pair_cells ++ gs_cells ++ gd_cells ++ gb_cells) bs_cells (pair_places ++ gs_places ++ gd_places ++ gb_places) bs_places length_3 length_bs

  apart : all_stored n (matrix_contributions (terminals_at m) (jac_values_of d) br) (stored_places w br)
      ≡ (all_stored n pair_cells pair_places && all_stored n gs_cells gs_places && all_stored n gd_cells gd_places && all_stored n gb_cells gb_places && all_stored n bs_cells bs_places && all_stored n bd_cells bd_places)
  unfolding matrix_contributions stored_places terminals_at
  apart =
      stored_append n (pair_cells ++ gs_cells ++ gd_cells ++ gb_cells ++ bs_cells) bd_cells (pair_places ++ gs_places ++ gd_places ++ gb_places ++ bs_places) bd_places length_4
      ∙ ap (λ (x : Bool). x && all_stored n bd_cells bd_places)
      (stored_append n (pair_cells ++ gs_cells ++ gd_cells ++ gb_cells) bs_cells (pair_places ++ gs_places ++ gd_places ++ gb_places) bs_places length_3
      ∙ ap (λ (x : Bool). x && all_stored n bs_cells bs_places)
      (stored_append n (pair_cells ++ gs_cells ++ gd_cells) gb_cells (pair_places ++ gs_places ++ gd_places) gb_places length_2
      ∙ ap (λ (x : Bool). x && all_stored n gb_cells gb_places)
      (stored_append n (pair_cells ++ gs_cells) gd_cells (pair_places ++ gs_places) gd_places length_1
      ∙ ap (λ (x : Bool). x && all_stored n gd_cells gd_places) (stored_append n pair_cells gs_cells pair_places gs_places length_pairs))))

  pairs_same : pairs_stored n (jac_pairs_of (terminals_at m)) pair_places ≡ all_stored n pair_cells pair_places
  unfolding pairs_stored all_stored paired jac_pairs_of jac_values_of numbers_from
  pairs_same = refl

  five_same : conducting_stored n m w br
      ≡ (all_stored n gs_cells gs_places && all_stored n gd_cells gd_places && all_stored n gb_cells gb_places && all_stored n bs_cells bs_places && all_stored n bd_cells bd_places)
  unfolding conducting_stored branch_cells branch_places
  five_same = rw (
    by_conducts n m.gate m.source (get_or w 32 0) (get_or w 33 0) (get_or w 14 0) (get_or w 12 0) br.gs.conductance br.gs.conducts,
    by_conducts n m.gate m.drain (get_or w 32 0) (get_or w 34 0) (get_or w 9 0) (get_or w 8 0) br.gd.conductance br.gd.conducts,
    by_conducts n m.gate m.bulk (get_or w 32 0) (get_or w 35 0) (get_or w 24 0) (get_or w 36 0) br.gb.conductance br.gb.conducts,
    by_conducts n m.bulk m.source (get_or w 24 0) (get_or w 25 0) (get_or w 14 0) (get_or w 15 0) br.bs.conductance br.bs.conducts,
    by_conducts n m.bulk m.drain (get_or w 24 0) (get_or w 29 0) (get_or w 9 0) (get_or w 11 0) br.bd.conductance br.bd.conducts,
  )

  joined : (x : Bool) → x ≡ (all_stored n gs_cells gs_places && all_stored n gd_cells gd_places && all_stored n gb_cells gb_places && all_stored n bs_cells bs_places && all_stored n bd_cells bd_places)
      → (pairs_stored n (jac_pairs_of (terminals_at m)) pair_places && x) ≡ all_stored n (matrix_contributions (terminals_at m) (jac_values_of d) br) (stored_places w br)
  joined x e =
      ap (λ (y : Bool). pairs_stored n (jac_pairs_of (terminals_at m)) pair_places && y) e
      ∙ ap (λ (y : Bool). y && (all_stored n gs_cells gs_places && all_stored n gd_cells gd_places && all_stored n gb_cells gb_places && all_stored n bs_cells bs_places && all_stored n bd_cells bd_places)) pairs_same
      ∙ and_five (all_stored n pair_cells pair_places) (all_stored n gs_cells gs_places) (all_stored n gd_cells gd_places) (all_stored n gb_cells gb_places) (all_stored n bs_cells bs_places) (all_stored n bd_cells bd_places)
      ∙ sym apart

-- the whole test, by the kind of load
by_kind : (n : ℕ) (m : Nodes) (w : List ℕ) (d : Mosfet1) (k : LoadKind)
    → (pairs_stored n (jac_pairs_of (terminals_at m)) (numbers_from w 8 24) && cond (is_transient k) (branches_stored n m w d.charges) true)
    ≡ all_stored n (matrix_contributions (terminals_at m) (jac_values_of d) (branches_of d k)) (stored_places w (branches_of d k))
unfolding branches_of branches_stored conducting_stored branch_stored charge_branches_of branch_of junction_branch_of no_branches no_branch
by_kind n m w d DirectCurrent = joined n m w d no_branches true (five_same n m w d no_branches)
by_kind n m w d (Transient alpha) = joined n m w d (charge_branches_of d alpha) (branches_stored n m w d.charges) (five_same n m w d (charge_branches_of d alpha))

pub held_is : (n : ℕ) (w : List ℕ) (d : Mosfet1) (k : LoadKind) → terminals_at (nodes_of d.terminals) ≡ d.terminals
    → held n (nodes_of d.terminals) w d.charges (is_transient k) ≡ cells_held w d k n
unfolding held cells_held nodes_are made_for nodes_of jacobian_contributions
held_is n w d k e =
    ap (λ (x : Bool). made_for w d.terminals && x)
    (by_kind n (nodes_of d.terminals) w d k
    ∙ ap (λ (t : Terminals). all_stored n (matrix_contributions t (jac_values_of d) (branches_of d k)) (stored_places w (branches_of d k))) e)
