-- Adding by numbered places is adding the contributions: the numbers of skipped and missing cells lie behind the end of
-- every list that the program can hold.
use mathlib.Core.Path.{◌≡◌, refl, sym, ap, ◌∙◌, subst}
use mathlib.Core.Bool.{Bool, true, false, cond, not, ◌&&◌, ◌||◌}
use mathlib.Core.List.{List, [], ◌∷◌, ◌++◌}
use Prim.Native.Nat.{ℕ, ◌≤◌, ◌<◌}
use native.Mathlib.Nat.{suc_inj, suc-ne-zero}
use native.Mathlib.Omega.{arith}
use lib.ListN.{length, get_or}
use lib.Ieee.{Float, neg}
use lib.Dec.{T, eqb}
use borrow.Author.Tests.{ne_eqb}
use Rattle.pattern.specs.Pattern.{cell_of, well_formed}
use Rattle.std.specs.Prelude.{Option, Some, None}
use Rattle.pattern.proofs.Places.{cell_within}
use Rattle.device.specs.declared.NodeId.{NodeId}
use Rattle.device.specs.declared.NodeId.TheVariants.{Ground, At}
use Rattle.device.specs.declared.Terminals.{Terminals}
use Rattle.stamps.specs.Stamps.{position, jac_pairs_of}
use Rattle.stamps.specs.declared.Position.{Position}
use Rattle.stamps.specs.declared.ChargeBranches.{ChargeBranches}
use Rattle.assembly.specs.Assembly.{Pattern, Contribution, Place, ground, missing, at, found_place, place_of, add_at, add_place, add_cells, there, all_there, paired, conductance_pair, branch_cells, matrix_contributions}
use Rattle.places.specs.Places.{missing_number, skipped_number, place_number, number_of, numbers_of, none_missing, four_there, gate_places_of, branches_there, any_gate}
use Rattle.places.specs.declared.GatePlaces.{GatePlaces}
use Rattle.adding.specs.Adding.{add_all, add_four, add_branches}
use Rattle.adding.proofs.Adding.{add_outside, length_add}

-- contributions one after another
pub cells_append : (P : Pattern) (cs ds : List Contribution) (xs : List Float) → add_cells P (cs ++ ds) xs ≡ add_cells P ds (add_cells P cs xs)
unfolding add_cells
cells_append P [] ds xs = refl
cells_append P (c ∷ cs) ds xs = cells_append P cs ds _

and_move : (a b c : Bool) → (a && (b && c)) ≡ ((a && b) && c)
and_move true b c = refl
and_move false b c = refl

pub there_append : (P : Pattern) (cs ds : List Contribution) → all_there P (cs ++ ds) ≡ (all_there P cs && all_there P ds)
unfolding all_there
there_append P [] ds = refl
there_append P (c ∷ cs) ds = ap (λ (t : Bool). there (place_of P c.position.row c.position.col) && t) (there_append P cs ds)
    ∙ and_move (there (place_of P c.position.row c.position.col)) (all_there P cs) (all_there P ds)

-- one place
module _ (xs : List Float) (room : length xs ≤ missing_number) where
  pub number_adds : (p : Place) (x : Float) → add_at xs (place_number p) x ≡ add_place p x xs
  unfolding place_number add_place
  number_adds ground x = add_outside xs skipped_number x (omega arith)
  number_adds missing x = add_outside xs missing_number x room
  number_adds (at p) x = refl

length_place : (p : Place) (x : Float) (xs : List Float) → length (add_place p x xs) ≡ length xs
unfolding add_place
length_place ground x xs = refl
length_place missing x xs = refl
length_place (at p) x xs = length_add xs p x

pub length_cells : (P : Pattern) (cs : List Contribution) (xs : List Float) → length (add_cells P cs xs) ≡ length xs
unfolding add_cells
length_cells P [] xs = refl
length_cells P (c ∷ cs) xs = length_cells P cs _ ∙ length_place (place_of P c.position.row c.position.col) c.value xs

room_cells : (P : Pattern) (cs : List Contribution) (xs : List Float) → length xs ≤ missing_number → length (add_cells P cs xs) ≤ missing_number
room_cells P cs xs h = omega (arith, length_cells P cs xs)

-- positions with their values
pub numbers_add : (P : Pattern) (cs : List Position) (vs xs : List Float) → length xs ≤ missing_number
    → add_all xs (numbers_of P cs) vs ≡ add_cells P (paired cs vs) xs
unfolding add_all numbers_of add_cells paired
numbers_add P [] vs xs room = refl
numbers_add P (c ∷ cs) [] xs room = refl
numbers_add P (c ∷ cs) (v ∷ vs) xs room =
    let p = place_of P c.row c.col in
    ap (λ (ys : List Float). add_all ys (numbers_of P cs) vs) (number_adds xs room p v)
    ∙ numbers_add P cs vs (add_place p v xs) (omega (arith, length_place p v xs))

-- places that are found are below the numbers of skipped and missing cells
pub record Small (P : Pattern) : Type 0 where
  pub small : (r c p : ℕ) → cell_of P.columns P.offsets P.lengths r c ≡ Some p → p < missing_number

pub well_small : (P : Pattern) → well_formed P.columns P.offsets P.lengths (length P.columns) ≡ true → length P.columns ≤ missing_number → Small P
well_small P well room = record { small = λ r c p e. omega (arith, cell_within P.columns P.offsets P.lengths _ well r c p e) }

module _ (P : Pattern) (s : Small P) where
  found_there : (r c : ℕ) (f : Option ℕ) → cell_of P.columns P.offsets P.lengths r c ≡ f → not (eqb (place_number (found_place f)) missing_number) ≡ there (found_place f)
  unfolding place_number found_place there
  found_there r c (Some p) e = let h = s.small r c p e in simp (ne_eqb p missing_number (λ q. omega arith))
  found_there r c None e = refl

  pub number_there : (r c : NodeId) → not (eqb (number_of P r c) missing_number) ≡ there (place_of P r c)
  unfolding place_of place_number there
  number_there Ground c = refl
  number_there (At r) Ground = refl
  number_there (At r) (At c) = found_there r c (cell_of P.columns P.offsets P.lengths r c) refl

  pub numbers_there : (cs : List Position) (vs : List Float) → length cs ≡ length vs → none_missing (numbers_of P cs) ≡ all_there P (paired cs vs)
  unfolding none_missing numbers_of all_there paired
  numbers_there [] vs e = refl
  numbers_there (c ∷ cs) [] e = absurd (suc-ne-zero (length cs) e)
  numbers_there (c ∷ cs) (v ∷ vs) e =
      ap (λ (t : Bool). t && none_missing (numbers_of P cs)) (number_there c.row c.col)
      ∙ ap (λ (t : Bool). there (place_of P c.row c.col) && t) (numbers_there cs vs (suc_inj e))

-- the four cells of a branch between a and b
pub record Four (P : Pattern) (a b : NodeId) (aa ab bb ba : ℕ) : Type 0 where
  pub aa_is : aa ≡ number_of P a a
  pub ab_is : ab ≡ number_of P a b
  pub bb_is : bb ≡ number_of P b b
  pub ba_is : ba ≡ number_of P b a

abbrev four_positions : NodeId → NodeId → List Position
four_positions a b = position a a ∷ position a b ∷ position b b ∷ position b a ∷ []

abbrev four_values : Float → List Float
four_values g = g ∷ neg g ∷ g ∷ neg g ∷ []

module _ (P : Pattern) (a b : NodeId) (aa ab bb ba : ℕ) (g : Float) where
  pub four_adds : (loaded : Bool) → (loaded ≡ true → Four P a b aa ab bb ba) → (xs : List Float) → length xs ≤ missing_number
      → add_four loaded g aa ab bb ba xs ≡ add_cells P (cond loaded (conductance_pair a b g) []) xs
  unfolding add_four conductance_pair add_all numbers_of paired add_cells
  four_adds true f xs room =
      rw ((f refl).aa_is, (f refl).ab_is, (f refl).bb_is, (f refl).ba_is) (numbers_add P (four_positions a b) (four_values g) xs room)
  four_adds false f xs room = refl

  pub four_there_lem : Small P → (loaded : Bool) → (loaded ≡ true → Four P a b aa ab bb ba)
      → four_there loaded aa ab bb ba ≡ all_there P (cond loaded (conductance_pair a b g) [])
  unfolding four_there conductance_pair numbers_of paired all_there
  four_there_lem s true f =
      rw ((f refl).aa_is, (f refl).ab_is, (f refl).bb_is, (f refl).ba_is) (numbers_there P s (four_positions a b) (four_values g) refl)
  four_there_lem s false f = refl

-- the gate's five places where a gate branch is loaded
or_first : (a b c : Bool) → a ≡ true → (a || b || c) ≡ true
or_first true b c e = refl
or_first false b c e = absurd (subst T (sym e) tt)

or_second : (a b c : Bool) → b ≡ true → (a || b || c) ≡ true
or_second true b c e = refl
or_second false true c e = refl
or_second false false c e = absurd (subst T (sym e) tt)

or_third : (a b c : Bool) → c ≡ true → (a || b || c) ≡ true
or_third true b c e = refl
or_third false true c e = refl
or_third false false c e = e

and_last : (z a b c d e : Bool) → (z && (a && b && c && d && e)) ≡ (z && a && b && c && d && e)
and_last true a b c d e = refl
and_last false a b c d e = refl

module _ (P : Pattern) (t : Terminals) (b : ChargeBranches) where
  abbrev jacobian_places : List ℕ
  jacobian_places = numbers_of P (jac_pairs_of t)

  abbrev gate_places : GatePlaces
  gate_places = gate_places_of P t (any_gate b)

  four_gs : b.gs.conducts ≡ true → Four P t.gate t.source gate_places.gg gate_places.gs (get_or jacobian_places 6 0) (get_or jacobian_places 4 0)
  unfolding numbers_of jac_pairs_of gate_places_of any_gate
  four_gs e =
      let any = or_first b.gs.conducts b.gd.conducts b.gb.conducts e in
      record { aa_is = rw any; ab_is = rw any; bb_is = refl; ba_is = refl }

  four_gd : b.gd.conducts ≡ true → Four P t.gate t.drain gate_places.gg gate_places.gd (get_or jacobian_places 1 0) (get_or jacobian_places 0 0)
  unfolding numbers_of jac_pairs_of gate_places_of any_gate
  four_gd e =
      let any = or_second b.gs.conducts b.gd.conducts b.gb.conducts e in
      record { aa_is = rw any; ab_is = rw any; bb_is = refl; ba_is = refl }

  four_gb : b.gb.conducts ≡ true → Four P t.gate t.bulk gate_places.gg gate_places.gb (get_or jacobian_places 16 0) gate_places.bg
  unfolding numbers_of jac_pairs_of gate_places_of any_gate
  four_gb e =
      let any = or_third b.gs.conducts b.gd.conducts b.gb.conducts e in
      record { aa_is = rw any; ab_is = rw any; bb_is = refl; ba_is = rw any }

  four_bs : Four P t.bulk t.source (get_or jacobian_places 16 0) (get_or jacobian_places 17 0) (get_or jacobian_places 6 0) (get_or jacobian_places 7 0)
  unfolding numbers_of jac_pairs_of
  four_bs = record { aa_is = refl; ab_is = refl; bb_is = refl; ba_is = refl }

  four_bd : Four P t.bulk t.drain (get_or jacobian_places 16 0) (get_or jacobian_places 21 0) (get_or jacobian_places 1 0) (get_or jacobian_places 3 0)
  unfolding numbers_of jac_pairs_of
  four_bd = record { aa_is = refl; ab_is = refl; bb_is = refl; ba_is = refl }

  abbrev gs_cells : List Contribution
  gs_cells = branch_cells t.gate t.source b.gs

  abbrev gd_cells : List Contribution
  gd_cells = branch_cells t.gate t.drain b.gd

  abbrev gb_cells : List Contribution
  gb_cells = branch_cells t.gate t.bulk b.gb

  abbrev bs_cells : List Contribution
  bs_cells = branch_cells t.bulk t.source b.bs

  abbrev bd_cells : List Contribution
  bd_cells = branch_cells t.bulk t.drain b.bd

  -- the branches one after another
  branches_add : (xs : List Float) → length xs ≤ missing_number
      → add_branches jacobian_places gate_places b xs ≡ add_cells P bd_cells (add_cells P bs_cells (add_cells P gb_cells (add_cells P gd_cells (add_cells P gs_cells xs))))
  unfolding add_branches branch_cells
  branches_add xs r0 =
      let x1 = add_cells P gs_cells xs in
      let r1 = room_cells P gs_cells xs r0 in
      let x2 = add_cells P gd_cells x1 in
      let r2 = room_cells P gd_cells x1 r1 in
      let x3 = add_cells P gb_cells x2 in
      let r3 = room_cells P gb_cells x2 r2 in
      let x4 = add_cells P bs_cells x3 in
      let r4 = room_cells P bs_cells x3 r3 in
      rw (
        four_adds P t.gate t.source gate_places.gg gate_places.gs (get_or jacobian_places 6 0) (get_or jacobian_places 4 0) b.gs.conductance b.gs.conducts four_gs xs r0,
        four_adds P t.gate t.drain gate_places.gg gate_places.gd (get_or jacobian_places 1 0) (get_or jacobian_places 0 0) b.gd.conductance b.gd.conducts four_gd x1 r1,
        four_adds P t.gate t.bulk gate_places.gg gate_places.gb (get_or jacobian_places 16 0) gate_places.bg b.gb.conductance b.gb.conducts four_gb x2 r2,
        four_adds P t.bulk t.source (get_or jacobian_places 16 0) (get_or jacobian_places 17 0) (get_or jacobian_places 6 0) (get_or jacobian_places 7 0) b.bs.conductance b.bs.conducts (λ _. four_bs) x3 r3,
        four_adds P t.bulk t.drain (get_or jacobian_places 16 0) (get_or jacobian_places 21 0) (get_or jacobian_places 1 0) (get_or jacobian_places 3 0) b.bd.conductance b.bd.conducts (λ _. four_bd) x4 r4,
      )

  branches_there_lem : Small P → branches_there jacobian_places gate_places b ≡ (all_there P gs_cells && all_there P gd_cells && all_there P gb_cells && all_there P bs_cells && all_there P bd_cells)
  unfolding branches_there branch_cells
  branches_there_lem s =
      rw (
        four_there_lem P t.gate t.source gate_places.gg gate_places.gs (get_or jacobian_places 6 0) (get_or jacobian_places 4 0) b.gs.conductance s b.gs.conducts four_gs,
        four_there_lem P t.gate t.drain gate_places.gg gate_places.gd (get_or jacobian_places 1 0) (get_or jacobian_places 0 0) b.gd.conductance s b.gd.conducts four_gd,
        four_there_lem P t.gate t.bulk gate_places.gg gate_places.gb (get_or jacobian_places 16 0) gate_places.bg b.gb.conductance s b.gb.conducts four_gb,
        four_there_lem P t.bulk t.source (get_or jacobian_places 16 0) (get_or jacobian_places 17 0) (get_or jacobian_places 6 0) (get_or jacobian_places 7 0) b.bs.conductance s b.bs.conducts (λ _. four_bs),
        four_there_lem P t.bulk t.drain (get_or jacobian_places 16 0) (get_or jacobian_places 21 0) (get_or jacobian_places 1 0) (get_or jacobian_places 3 0) b.bd.conductance s b.bd.conducts (λ _. four_bd),
      )

  -- all contributions
  pub all_added : (jacobian values : List Float) → length values ≤ missing_number
      → add_branches jacobian_places gate_places b (add_all values jacobian_places jacobian) ≡ add_cells P (matrix_contributions t jacobian b) values
  unfolding matrix_contributions
  all_added jacobian values room =
      rw (numbers_add P (jac_pairs_of t) jacobian values room, cells_append, cells_append, cells_append, cells_append, cells_append)
      (branches_add (add_cells P (paired (jac_pairs_of t) jacobian) values) (room_cells P (paired (jac_pairs_of t) jacobian) values room))

  pub all_found : Small P → (jacobian : List Float) → length jacobian ≡ 24
      → (none_missing jacobian_places && branches_there jacobian_places gate_places b) ≡ all_there P (matrix_contributions t jacobian b)
  unfolding matrix_contributions jac_pairs_of
  all_found s jacobian e =
      rw
      (numbers_there P s (jac_pairs_of t) jacobian (sym e), branches_there_lem s, there_append, there_append, there_append, there_append, there_append)
      (and_last (all_there P (paired (jac_pairs_of t) jacobian)) (all_there P gs_cells) (all_there P gd_cells) (all_there P gb_cells) (all_there P bs_cells) (all_there P bd_cells))
