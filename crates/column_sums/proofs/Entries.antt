-- Adding contributions leaves the lengths and each entry that gets none.
use mathlib.Core.Path.{◌≡◌, refl, sym, ◌∙◌, subst}
use mathlib.Core.Bool.{Bool, true, false, ◌||◌}
use mathlib.Core.List.{List, [], ◌∷◌}
use Prim.Native.Nat.{ℕ}
use lib.ListN.{length-set}
use lib.Seq.{get_or-set_other}
use lib.Dec.{T, eqb}
use lib.Ieee.{Float, nan}
use borrow.Author.Tests.{eqb-false}
use Rattle.device.specs.declared.NodeId.{NodeId}
use Rattle.device.specs.declared.NodeId.TheVariants.{Ground, At}
use Rattle.assembly.specs.Assembly.{Pattern, Contribution, Source, Place, ground, missing, at, place_of, add_at, add_place, add_cells, add_node, add_sources}
use Rattle.column_sums.specs.ColumnSums.{same_node, is_place, place_gets, entry_gets, OthersUnchanged}

pub or_left : (a b : Bool) → (a || b) ≡ false → a ≡ false
or_left true b e = e
or_left false b e = refl

pub or_right : (a b : Bool) → (a || b) ≡ false → b ≡ false
or_right true b e = absurd (subst T e tt)
or_right false b e = e

pub unchanged : (gets : ℕ → Bool) (xs : List Float) → OthersUnchanged gets xs xs
unchanged gets xs = record { same_length = refl; same_entry = λ i e. refl }

-- one contribution, then those behind it
behind_one : (first rest : ℕ → Bool) (xs ys zs : List Float) → OthersUnchanged first xs ys → OthersUnchanged rest ys zs → OthersUnchanged (λ i. first i || rest i) xs zs
behind_one first rest xs ys zs u v = record {
  same_length = v.same_length ∙ u.same_length;
  same_entry = λ i e. v.same_entry i (or_right (first i) (rest i) e) ∙ u.same_entry i (or_left (first i) (rest i) e);
}

add_at_lem : (p : ℕ) (x : Float) (xs : List Float) → OthersUnchanged (λ i. eqb p i) xs (add_at xs p x)
unfolding add_at
add_at_lem p x xs = record {
  same_length = length-set xs p _;
  same_entry = λ i e. get_or-set_other xs p i _ nan (λ h. eqb-false p i e (sym h));
}

add_place_lem : (p : Place) (x : Float) (xs : List Float) → OthersUnchanged (is_place p) xs (add_place p x xs)
unfolding is_place add_place
add_place_lem ground x xs = unchanged _ xs
add_place_lem missing x xs = unchanged _ xs
add_place_lem (at p) x xs = add_at_lem p x xs

add_node_lem : (n : NodeId) (x : Float) (xs : List Float) → OthersUnchanged (λ i. same_node n (At i)) xs (add_node n x xs)
unfolding same_node add_node
add_node_lem Ground x xs = unchanged _ xs
add_node_lem (At j) x xs = add_at_lem j x xs

pub other_places : (P : Pattern) (cs : List Contribution) (xs : List Float) → OthersUnchanged (place_gets P cs) xs (add_cells P cs xs)
unfolding place_gets add_cells
other_places P [] xs = unchanged _ xs
other_places P (c ∷ cs) xs =
    let p = place_of P c.position.row c.position.col in
    behind_one (is_place p) (place_gets P cs) xs (add_place p c.value xs) (add_cells P cs (add_place p c.value xs))
    (add_place_lem p c.value xs) (other_places P cs (add_place p c.value xs))

pub other_entries_lem : (ss : List Source) (xs : List Float) → OthersUnchanged (entry_gets ss) xs (add_sources ss xs)
unfolding entry_gets add_sources
other_entries_lem [] xs = unchanged _ xs
other_entries_lem (s ∷ ss) xs =
    let ys = add_node s.node s.value xs in
    behind_one (λ i. same_node s.node (At i)) (entry_gets ss) xs ys (add_sources ss ys)
    (add_node_lem s.node s.value xs) (other_entries_lem ss ys)
