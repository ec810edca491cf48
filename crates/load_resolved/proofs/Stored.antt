-- Adding at stored places: one place by the nodes' numbers, lists one after another, lengths.
use mathlib.Core.Path.{◌≡◌, refl, sym, ◌∙◌}
use mathlib.Core.Bool.{Bool, true, false, false≢true, cond, ◌||◌}
use mathlib.Core.List.{List, [], ◌∷◌}
use Prim.Native.Nat.{ℕ, ◌≤◌}
use lib.ListN.{length, get_or}
use lib.Dec.{eqb}
use lib.Ieee.{Float, neg}
use Rattle.device.specs.declared.NodeId.TheVariants.{Ground, At}
use Rattle.device.specs.declared.Mosfet1.{Mosfet1}
use Rattle.device.specs.declared.OperatingPoint.{OperatingPoint}
use Rattle.stamps.specs.Stamps.{position, jac_pairs_of, jac_values_of, pair_between, values_between, series_of, channel_values}
use Rattle.stamps.specs.declared.ChargeBranch.{ChargeBranch}
use Rattle.stamps.specs.declared.ChargeBranches.{ChargeBranches}
use Rattle.places.specs.Places.{skipped_number, node_at, terminals_at}
use Rattle.places.specs.declared.Nodes.{Nodes}
use Rattle.adding.specs.Adding.{add_at, add_all}
use Rattle.adding.proofs.Adding.{add_outside, length_add}
use Rattle.assembly.specs.Assembly.{Contribution, Place, ground, missing, at, add_place, paired, conductance_pair}
use Rattle.resolved_rows.specs.LoadResolved.{is_ground, numbers_from, grounded, stored_place, add_stored}
use Rattle.load_resolved.specs.ByNumbers.{place_between, add_branch, add_branches_stored, add_channel, add_pair, add_conductance, channel_pairs}

-- a skipped place lies behind the end
between : (xs : List Float) (i j p : ℕ) (x : Float) (a b : Bool) → length xs ≤ skipped_number
    → add_at xs (cond a skipped_number (cond b skipped_number p)) x ≡ add_place (cond (is_ground (cond a Ground (At i)) || is_ground (cond b Ground (At j))) ground (at p)) x xs
unfolding add_place
between xs i j p x true b room = add_outside xs skipped_number x room
between xs i j p x false true room = add_outside xs skipped_number x room
between xs i j p x false false room = refl

pub add_between : (xs : List Float) (row column p : ℕ) (x : Float) → length xs ≤ skipped_number
    → add_at xs (place_between row column p) x ≡ add_place (stored_place (position (node_at row) (node_at column)) p) x xs
unfolding place_between stored_place grounded node_at
add_between xs row column p x room = between xs row column p x (eqb row skipped_number) (eqb column skipped_number) room

pub or_left : (a b : Bool) → (a || b) ≡ false → a ≡ false
or_left true b e = e
or_left false b e = refl

pub or_right : (a b : Bool) → (a || b) ≡ false → b ≡ false
or_right true b e = absurd (false≢true (sym e))
or_right false b e = e

-- Where neither node is ground the places count as they are stored
module _ (a b : ℕ) (none : (eqb a skipped_number || eqb b skipped_number) ≡ false) where
  pub pair_plain : (g : Float) (aa ab ba bb : ℕ) (xs : List Float) → add_at (add_at (add_at (add_at xs aa g) ab (neg g)) ba (neg g)) bb g ≡ add_pair a b g aa ab ba bb xs
  unfolding add_pair add_stored paired add_place stored_place grounded node_at
  pair_plain g aa ab ba bb xs = rw (or_left (eqb a skipped_number) (eqb b skipped_number) none, or_right (eqb a skipped_number) (eqb b skipped_number) none)

  pub conductance_plain : (g : Float) (aa ab bb ba : ℕ) (xs : List Float) → add_at (add_at (add_at (add_at xs aa g) ab (neg g)) bb g) ba (neg g) ≡ add_conductance a b g aa ab bb ba xs
  unfolding add_conductance add_stored conductance_pair add_place stored_place grounded node_at
  conductance_plain g aa ab bb ba xs = rw (or_left (eqb a skipped_number) (eqb b skipped_number) none, or_right (eqb a skipped_number) (eqb b skipped_number) none)

pub channel_plain : (n : Nodes) (w : List ℕ) (p : OperatingPoint) (xs : List Float)
    → ((eqb n.drain skipped_number || eqb n.gate skipped_number) || (eqb n.source skipped_number || eqb n.bulk skipped_number)) ≡ false
    → add_all xs (numbers_from w 8 8) (channel_values p []) ≡ add_channel n w p xs
unfolding add_channel add_stored paired numbers_from add_all add_place stored_place grounded node_at
channel_plain n w p xs none =
    let d = eqb n.drain skipped_number in
    let g = eqb n.gate skipped_number in
    let s = eqb n.source skipped_number in
    let b = eqb n.bulk skipped_number in
    let ends = or_left (d || g) (s || b) none in
    let others = or_right (d || g) (s || b) none in
    rw (or_left d g ends, or_right d g ends, or_left s b others, or_right s b others)

length_place : (p : Place) (x : Float) (xs : List Float) → length (add_place p x xs) ≡ length xs
unfolding add_place
length_place ground x xs = refl
length_place missing x xs = refl
length_place (at p) x xs = length_add xs p x

pub length_stored : (cs : List Contribution) (ps : List ℕ) (xs : List Float) → length (add_stored cs ps xs) ≡ length xs
unfolding add_stored
length_stored [] ps xs = refl
length_stored (c ∷ cs) [] xs = refl
length_stored (c ∷ cs) (p ∷ ps) xs = length_stored cs ps _ ∙ length_place (stored_place c.position p) c.value xs

pub length_branch : (br : ChargeBranch) (a b aa ab bb ba : ℕ) (xs : List Float) → length (add_branch br a b aa ab bb ba xs) ≡ length xs
unfolding add_branch
length_branch br a b aa ab bb ba xs = length_stored _ _ xs

pub length_branches : (n : Nodes) (w : List ℕ) (br : ChargeBranches) (xs : List Float) → length (add_branches_stored n w br xs) ≡ length xs
unfolding add_branches_stored
length_branches n w br xs =
    length_branch br.bd _ _ _ _ _ _ _ ∙ length_branch br.bs _ _ _ _ _ _ _ ∙ length_branch br.gb _ _ _ _ _ _ _ ∙ length_branch br.gd _ _ _ _ _ _ _ ∙ length_branch br.gs _ _ _ _ _ _ xs

pub length_channel : (n : Nodes) (w : List ℕ) (p : OperatingPoint) (xs : List Float) → length (add_channel n w p xs) ≡ length xs
unfolding add_channel
length_channel n w p xs = length_stored (paired (channel_pairs n) (channel_values p [])) (numbers_from w 8 8) xs

pub length_pair : (a b : ℕ) (g : Float) (aa ab ba bb : ℕ) (xs : List Float) → length (add_pair a b g aa ab ba bb xs) ≡ length xs
unfolding add_pair
length_pair a b g aa ab ba bb xs = length_stored (paired (pair_between (node_at a) (node_at b) []) (values_between g [])) (aa ∷ ab ∷ ba ∷ bb ∷ []) xs

pub length_row : (p q r s : ℕ) (a b c d : Float) (xs : List Float) → length (add_at (add_at (add_at (add_at xs p a) q b) r c) s d) ≡ length xs
length_row p q r s a b c d xs = length_add _ s d ∙ length_add _ r c ∙ length_add _ q b ∙ length_add xs p a

-- the 24 values are the channel's eight and four conductances
pub jacobian_parts : (n : Nodes) (w : List ℕ) (d : Mosfet1) (xs : List Float)
    → add_pair n.bulk n.drain d.point.gbd (get_or w 28 0) (get_or w 29 0) (get_or w 30 0) (get_or w 31 0)
    (add_pair n.bulk n.source d.point.gbs (get_or w 24 0) (get_or w 25 0) (get_or w 26 0) (get_or w 27 0)
    (add_pair n.source_ext n.source (series_of d.geometry.rs) (get_or w 20 0) (get_or w 21 0) (get_or w 22 0) (get_or w 23 0)
    (add_pair n.drain_ext n.drain (series_of d.geometry.rd) (get_or w 16 0) (get_or w 17 0) (get_or w 18 0) (get_or w 19 0)
    (add_channel n w d.point xs))))
    ≡ add_stored (paired (jac_pairs_of (terminals_at n)) (jac_values_of d)) (numbers_from w 8 24) xs
unfolding add_stored paired numbers_from jac_pairs_of jac_values_of terminals_at add_channel add_pair
jacobian_parts n w d xs = refl
