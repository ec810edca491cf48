-- From the tests that a load has passed to places among the values: where no node is ground, a cell that is there is below their number.
use mathlib.Core.Path.{◌≡◌, refl, sym, ap, ◌∙◌, subst}
use mathlib.Core.Bool.{Bool, true, false, ◌&&◌, ◌||◌}
use mathlib.Core.List.{List, [], ◌∷◌, ◌++◌}
use Prim.Native.Nat.{ℕ, ◌<◌}
use native.Mathlib.Nat.{suc_inj}
use native.Mathlib.Omega.{arith}
use lib.ListN.{length, get_or}
use lib.Dec.{eqb, ltb}
use lib.Ieee.{Float}
use borrow.Author.Tests.{ltb-true}
use Rattle.pattern.proofs.Rows.{and_left, and_right}
use Rattle.device.specs.declared.Mosfet1.{Mosfet1}
use Rattle.stamps.specs.Stamps.{jac_pairs_of, pair_between, branch_of, junction_branch_of, charge_branches_of}
use Rattle.stamps.specs.declared.Position.{Position}
use Rattle.stamps.specs.declared.ChargeBranches.{ChargeBranches}
use Rattle.places.specs.Places.{skipped_number, node_at, terminals_at}
use Rattle.places.specs.declared.Nodes.{Nodes}
use Rattle.adding.specs.Adding.{add_at}
use Rattle.adding.proofs.Adding.{length_add}
use Rattle.resolved_rows.specs.LoadResolved.{numbers_from, grounded}
use Rattle.resolved_rows.specs.ByNumbers.{cell_there, pairs_stored, pair_stored, branch_stored, branches_stored, conducting_stored, all_below}
use Rattle.load_resolved.specs.ByNumbers.{channel_pairs}
use Rattle.resolved_rows.proofs.Below.{below_front, below_back}
use Rattle.load_resolved.proofs.Stored.{or_left, or_right}

-- what was below before an addition is so after it
pub still_below : (xs : List Float) (q : ℕ) (x : Float) {p : ℕ} {ys : List Float} → ys ≡ add_at xs q x → p < length xs → p < length ys
still_below xs q x {p} e h = subst (λ (n : ℕ). p < n) (sym (ap length e ∙ length_add xs q x)) h

-- four places, one by one
pub four_below : (n p q r s : ℕ) → all_below n (p ∷ q ∷ r ∷ s ∷ []) ≡ true → (p < n) × ((q < n) × ((r < n) × (s < n)))
unfolding all_below
four_below n p q r s e =
    let e₁ = and_right (ltb p n) (all_below n (q ∷ r ∷ s ∷ [])) e in
    let e₂ = and_right (ltb q n) (all_below n (r ∷ s ∷ [])) e₁ in
    let e₃ = and_right (ltb r n) (all_below n (s ∷ [])) e₂ in (
      ltb-true p n (and_left (ltb p n) (all_below n (q ∷ r ∷ s ∷ [])) e),
      (ltb-true q n (and_left (ltb q n) (all_below n (r ∷ s ∷ [])) e₁), (ltb-true r n (and_left (ltb r n) (all_below n (s ∷ [])) e₂), ltb-true s n (and_left (ltb s n) (all_below n []) e₃))),
    )

-- the channel's two rows
pub first_row : (n : ℕ) (w : List ℕ) → all_below n (numbers_from w 8 8) ≡ true → all_below n (get_or w 8 0 ∷ get_or w 9 0 ∷ get_or w 10 0 ∷ get_or w 11 0 ∷ []) ≡ true
unfolding numbers_from
first_row n w e = below_front n (numbers_from w 8 4) (numbers_from w 12 4) e

pub second_row : (n : ℕ) (w : List ℕ) → all_below n (numbers_from w 8 8) ≡ true → all_below n (get_or w 12 0 ∷ get_or w 13 0 ∷ get_or w 14 0 ∷ get_or w 15 0 ∷ []) ≡ true
unfolding numbers_from
second_row n w e = below_back n (numbers_from w 8 4) (numbers_from w 12 4) e

-- the cells of a conductance, where neither node is ground
module _ (n a b : ℕ) (none : (eqb a skipped_number || eqb b skipped_number) ≡ false) where
  pair_same : (aa ab ba bb : ℕ) → all_below n (aa ∷ ab ∷ ba ∷ bb ∷ []) ≡ pair_stored n a b aa ab ba bb
  unfolding all_below pair_stored pairs_stored grounded node_at
  pair_same aa ab ba bb = rw (or_left (eqb a skipped_number) (eqb b skipped_number) none, or_right (eqb a skipped_number) (eqb b skipped_number) none)

  branch_same : (aa ab bb ba : ℕ) → all_below n (aa ∷ ab ∷ bb ∷ ba ∷ []) ≡ branch_stored n true a b aa ab bb ba
  unfolding all_below branch_stored cell_there grounded node_at
  branch_same aa ab bb ba = rw (or_left (eqb a skipped_number) (eqb b skipped_number) none, or_right (eqb a skipped_number) (eqb b skipped_number) none)

  pub pair_known : (aa ab ba bb : ℕ) → pair_stored n a b aa ab ba bb ≡ true → (aa < n) × ((ab < n) × ((ba < n) × (bb < n)))
  pair_known aa ab ba bb e = four_below n aa ab ba bb (pair_same aa ab ba bb ∙ e)

  pub branch_known : (aa ab bb ba : ℕ) → branch_stored n true a b aa ab bb ba ≡ true → (aa < n) × ((ab < n) × ((bb < n) × (ba < n)))
  branch_known aa ab bb ba e = four_below n aa ab bb ba (branch_same aa ab bb ba ∙ e)

-- the channel's eight, where none of its nodes is
module _ (n : ℕ) (t : Nodes) (w : List ℕ)
    (none : ((eqb t.drain skipped_number || eqb t.gate skipped_number) || (eqb t.source skipped_number || eqb t.bulk skipped_number)) ≡ false) where
  channel_same : all_below n (numbers_from w 8 8) ≡ pairs_stored n (channel_pairs t) (numbers_from w 8 8)
  unfolding all_below pairs_stored numbers_from grounded node_at
  channel_same =
      let d = eqb t.drain skipped_number in
      let g = eqb t.gate skipped_number in
      let s = eqb t.source skipped_number in
      let b = eqb t.bulk skipped_number in
      let ends = or_left (d || g) (s || b) none in
      let others = or_right (d || g) (s || b) none in
      rw (or_left d g ends, or_right d g ends, or_left s b others, or_right s b others)

  pub channel_known : pairs_stored n (channel_pairs t) (numbers_from w 8 8) ≡ true → all_below n (numbers_from w 8 8) ≡ true
  channel_known e = channel_same ∙ e

-- pairs one after another, each part with as many places
pairs_apart : (n : ℕ) (cs ds : List Position) (ps qs : List ℕ) → length cs ≡ length ps → pairs_stored n (cs ++ ds) (ps ++ qs) ≡ true → (pairs_stored n cs ps ≡ true) × (pairs_stored n ds qs ≡ true)
unfolding pairs_stored
pairs_apart n [] ds [] qs e h = (refl, h)
pairs_apart n [] ds (p ∷ ps) qs e h = absurd (omega arith)
pairs_apart n (c ∷ cs) ds [] qs e h = absurd (omega arith)
pairs_apart n (c ∷ cs) ds (p ∷ ps) qs e h =
    let here = grounded c || ltb p n in
    let rest = pairs_apart n cs ds ps qs (suc_inj e) (and_right here (pairs_stored n (cs ++ ds) (ps ++ qs)) h) in
    (rw (and_left here (pairs_stored n (cs ++ ds) (ps ++ qs)) h) rest.0, rest.1)

-- the 24 pairs: the channel's eight, then four conductances
module _ (n : ℕ) (t : Nodes) (w : List ℕ) (h : pairs_stored n (jac_pairs_of (terminals_at t)) (numbers_from w 8 24) ≡ true) where
  abbrev bd_pairs : List Position
  bd_pairs = pair_between (node_at t.bulk) (node_at t.drain) []

  abbrev bs_pairs : List Position
  bs_pairs = pair_between (node_at t.bulk) (node_at t.source) []

  abbrev rs_pairs : List Position
  rs_pairs = pair_between (node_at t.source_ext) (node_at t.source) []

  abbrev rd_pairs : List Position
  rd_pairs = pair_between (node_at t.drain_ext) (node_at t.drain) []

  from_channel : (pairs_stored n (channel_pairs t) (numbers_from w 8 8) ≡ true) × (pairs_stored n (rd_pairs ++ (rs_pairs ++ (bs_pairs ++ bd_pairs))) (numbers_from w 16 16) ≡ true)
  unfolding jac_pairs_of terminals_at numbers_from
  from_channel = pairs_apart n (channel_pairs t) (rd_pairs ++ (rs_pairs ++ (bs_pairs ++ bd_pairs))) (numbers_from w 8 8) (numbers_from w 16 16) refl h

  from_rd : (pairs_stored n rd_pairs (numbers_from w 16 4) ≡ true) × (pairs_stored n (rs_pairs ++ (bs_pairs ++ bd_pairs)) (numbers_from w 20 12) ≡ true)
  unfolding numbers_from
  from_rd = pairs_apart n rd_pairs (rs_pairs ++ (bs_pairs ++ bd_pairs)) (numbers_from w 16 4) (numbers_from w 20 12) refl from_channel.1

  from_rs : (pairs_stored n rs_pairs (numbers_from w 20 4) ≡ true) × (pairs_stored n (bs_pairs ++ bd_pairs) (numbers_from w 24 8) ≡ true)
  unfolding numbers_from
  from_rs = pairs_apart n rs_pairs (bs_pairs ++ bd_pairs) (numbers_from w 20 4) (numbers_from w 24 8) refl from_rd.1

  from_bs : (pairs_stored n bs_pairs (numbers_from w 24 4) ≡ true) × (pairs_stored n bd_pairs (numbers_from w 28 4) ≡ true)
  unfolding numbers_from
  from_bs = pairs_apart n bs_pairs bd_pairs (numbers_from w 24 4) (numbers_from w 28 4) refl from_rs.1

  pub channel_there : pairs_stored n (channel_pairs t) (numbers_from w 8 8) ≡ true
  channel_there = from_channel.0

  pub rd_there : pair_stored n t.drain_ext t.drain (get_or w 16 0) (get_or w 17 0) (get_or w 18 0) (get_or w 19 0) ≡ true
  unfolding pair_stored numbers_from
  rd_there = from_rd.0

  pub rs_there : pair_stored n t.source_ext t.source (get_or w 20 0) (get_or w 21 0) (get_or w 22 0) (get_or w 23 0) ≡ true
  unfolding pair_stored numbers_from
  rs_there = from_rs.0

  pub bs_there : pair_stored n t.bulk t.source (get_or w 24 0) (get_or w 25 0) (get_or w 26 0) (get_or w 27 0) ≡ true
  unfolding pair_stored numbers_from
  bs_there = from_bs.0

  pub bd_there : pair_stored n t.bulk t.drain (get_or w 28 0) (get_or w 29 0) (get_or w 30 0) (get_or w 31 0) ≡ true
  unfolding pair_stored numbers_from
  bd_there = from_bs.1

-- the five branches, one by one
module _ (n : ℕ) (t : Nodes) (w : List ℕ) (br : ChargeBranches) (h : conducting_stored n t w br ≡ true) where
  abbrev gs : Bool
  gs = branch_stored n br.gs.conducts t.gate t.source (get_or w 32 0) (get_or w 33 0) (get_or w 14 0) (get_or w 12 0)

  abbrev gd : Bool
  gd = branch_stored n br.gd.conducts t.gate t.drain (get_or w 32 0) (get_or w 34 0) (get_or w 9 0) (get_or w 8 0)

  abbrev gb : Bool
  gb = branch_stored n br.gb.conducts t.gate t.bulk (get_or w 32 0) (get_or w 35 0) (get_or w 24 0) (get_or w 36 0)

  abbrev bs : Bool
  bs = branch_stored n br.bs.conducts t.bulk t.source (get_or w 24 0) (get_or w 25 0) (get_or w 14 0) (get_or w 15 0)

  abbrev bd : Bool
  bd = branch_stored n br.bd.conducts t.bulk t.drain (get_or w 24 0) (get_or w 29 0) (get_or w 9 0) (get_or w 11 0)

  up_to_bs : (gs && gd && gb && bs) ≡ true
  unfolding conducting_stored
  up_to_bs = and_left (gs && gd && gb && bs) bd h

  up_to_gb : (gs && gd && gb) ≡ true
  up_to_gb = and_left (gs && gd && gb) bs up_to_bs

  up_to_gd : (gs && gd) ≡ true
  up_to_gd = and_left (gs && gd) gb up_to_gb

  pub gs_stored : gs ≡ true
  gs_stored = and_left gs gd up_to_gd

  pub gd_stored : gd ≡ true
  gd_stored = and_right gs gd up_to_gd

  pub gb_stored : gb ≡ true
  gb_stored = and_right (gs && gd) gb up_to_gb

  pub bs_stored : bs ≡ true
  bs_stored = and_right (gs && gd && gb) bs up_to_bs

  pub bd_stored : bd ≡ true
  unfolding conducting_stored
  bd_stored = and_right (gs && gd && gb && bs) bd h

-- a branch conducts where its capacitance is not zero
pub conducting_is : (n : ℕ) (t : Nodes) (w : List ℕ) (d : Mosfet1) (alpha : Float) → conducting_stored n t w (charge_branches_of d alpha) ≡ branches_stored n t w d.charges
unfolding conducting_stored branches_stored charge_branches_of branch_of junction_branch_of
conducting_is n t w d alpha = refl
