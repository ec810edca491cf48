-- Where every place is among the values, no cell is missed, whichever nodes are ground.
use mathlib.Core.Path.{◌≡◌, refl, sym, ap, ◌∙◌, subst}
use mathlib.Core.Bool.{Bool, true, false, ◌&&◌, ◌||◌}
use mathlib.Core.List.{List, [], ◌∷◌, ◌++◌}
use Prim.Native.Nat.{ℕ, zero, suc, ◌+◌, ◌-◌, ◌<◌, ◌≤◌}
use native.Mathlib.Omega.{arith}
use native.Mathlib.Nat.{add-zero}
use lib.ListN.{length, get_or, take, drop}
use lib.Seq.{drop-cons}
use Rattle.std.specs.List.{list_all}
use lib.Dec.{ltb}
use Rattle.pattern.proofs.Rows.{and_left, and_right}
use Rattle.device.specs.declared.Charges.{Charges}
use Rattle.stamps.specs.Stamps.{position}
use Rattle.stamps.specs.declared.Position.{Position}
use Rattle.places.specs.Places.{node_at}
use Rattle.places.specs.declared.Nodes.{Nodes}
use Rattle.resolved_rows.specs.LoadResolved.{numbers_from, grounded}
use Rattle.resolved_rows.specs.ByNumbers.{cell_there, pairs_stored, branch_stored, branches_stored, all_below}

or_true : (a b : Bool) → b ≡ true → (a || b) ≡ true
or_true true b e = refl
or_true false b e = e

both_true : (a b : Bool) → a ≡ true → b ≡ true → (a && b) ≡ true
both_true a b e f = rw (e, f)

pairs_below : (n : ℕ) (cs : List Position) (ps : List ℕ) → all_below n ps ≡ true → pairs_stored n cs ps ≡ true
unfolding pairs_stored all_below
pairs_below n [] ps e = refl
pairs_below n (c ∷ cs) [] e = refl
pairs_below n (c ∷ cs) (p ∷ ps) e =
    both_true _ _ (or_true (grounded c) (ltb p n) (and_left (ltb p n) (all_below n ps) e)) (pairs_below n cs ps (and_right (ltb p n) (all_below n ps) e))

pub below_front : (n : ℕ) (ps qs : List ℕ) → all_below n (ps ++ qs) ≡ true → all_below n ps ≡ true
unfolding all_below
below_front n [] qs e = refl
below_front n (p ∷ ps) qs e = both_true _ _ (and_left (ltb p n) (all_below n (ps ++ qs)) e) (below_front n ps qs (and_right (ltb p n) (all_below n (ps ++ qs)) e))

pub below_back : (n : ℕ) (ps qs : List ℕ) → all_below n (ps ++ qs) ≡ true → all_below n qs ≡ true
unfolding all_below
below_back n [] qs e = e
below_back n (p ∷ ps) qs e = below_back n ps qs (and_right (ltb p n) (all_below n (ps ++ qs)) e)

below_at : (n : ℕ) (w : List ℕ) (k m j : ℕ) → all_below n (numbers_from w k m) ≡ true → j < m → ltb (get_or w (k + j) 0) n ≡ true
unfolding all_below numbers_from
below_at n w k zero j e h = absurd (omega arith)
below_at n w k (suc m) zero e h = subst (λ (i : ℕ). ltb (get_or w i 0) n ≡ true) (sym (add-zero k)) (and_left (ltb (get_or w k 0) n) (all_below n (numbers_from w (suc k) m)) e)
below_at n w k (suc m) (suc j) e h =
    let moved : suc k + j ≡ k + suc j = omega arith in
    subst (λ (i : ℕ). ltb (get_or w i 0) n ≡ true) moved
    (below_at n w (suc k) m j (and_right (ltb (get_or w k 0) n) (all_below n (numbers_from w (suc k) m)) e) (omega arith))

-- asked of each place from the k-th on
pub below_each : (n : ℕ) (w : List ℕ) (k m : ℕ) → k + m ≤ length w → list_all (λ (p : ℕ). ltb p n) (take m (drop k w)) ≡ all_below n (numbers_from w k m)
unfolding all_below numbers_from
below_each n w k zero e = refl
below_each n w k (suc m) e =
    let h : k < length w = omega arith in
    rw (drop-cons w k 0 h) (ap (λ (b : Bool). ltb (get_or w k 0) n && b) (below_each n w (suc k) m (omega arith)))

cell_below : (n row column p : ℕ) → ltb p n ≡ true → cell_there n row column p ≡ true
unfolding cell_there
cell_below n row column p e = or_true (grounded (position (node_at row) (node_at column))) (ltb p n) e

branch_below : (n : ℕ) (conducts : Bool) (a b aa ab bb ba : ℕ) → ltb aa n ≡ true → ltb ab n ≡ true → ltb bb n ≡ true → ltb ba n ≡ true
    → branch_stored n conducts a b aa ab bb ba ≡ true
unfolding branch_stored
branch_below n true a b aa ab bb ba e f g h = rw (cell_below n a a aa e, cell_below n a b ab f, cell_below n b b bb g, cell_below n b a ba h)
branch_below n false a b aa ab bb ba e f g h = refl

module _ (n : ℕ) (w : List ℕ) (e : all_below n (numbers_from w 8 29) ≡ true) where
  pub no_pair_missed : (cs : List Position) → pairs_stored n cs (numbers_from w 8 24) ≡ true
  unfolding numbers_from
  no_pair_missed cs = pairs_below n cs (numbers_from w 8 24) (below_front n (numbers_from w 8 24) (numbers_from w 32 5) e)

  place : (j : ℕ) → j < 29 → ltb (get_or w (8 + j) 0) n ≡ true
  place j h = below_at n w 8 29 j e h

  pub no_branch_missed : (t : Nodes) (q : Charges) → branches_stored n t w q ≡ true
  unfolding branches_stored
  no_branch_missed t q =
      both_true _ _
      (both_true _ _
      (both_true _ _
      (both_true _ _
      (branch_below n _ t.gate t.source _ _ _ _ (place 24 (omega arith)) (place 25 (omega arith)) (place 6 (omega arith)) (place 4 (omega arith)))
      (branch_below n _ t.gate t.drain _ _ _ _ (place 24 (omega arith)) (place 26 (omega arith)) (place 1 (omega arith)) (place 0 (omega arith))))
      (branch_below n _ t.gate t.bulk _ _ _ _ (place 24 (omega arith)) (place 27 (omega arith)) (place 16 (omega arith)) (place 28 (omega arith))))
      (branch_below n _ t.bulk t.source _ _ _ _ (place 16 (omega arith)) (place 17 (omega arith)) (place 6 (omega arith)) (place 7 (omega arith))))
      (branch_below n _ t.bulk t.drain _ _ _ _ (place 16 (omega arith)) (place 21 (omega arith)) (place 1 (omega arith)) (place 3 (omega arith)))
