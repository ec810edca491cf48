-- Laws of adding by places: lists read one by one, and places behind the end.
use mathlib.Core.Path.{◌≡◌, refl}
use mathlib.Core.Bool.{Bool, true, false, cond}
use mathlib.Core.List.{List, [], ◌∷◌, ◌++◌}
use Prim.Native.Nat.{ℕ, zero, suc, ◌+◌, ◌≤◌, ◌<◌, min}
use native.Mathlib.Numerals.{add-one}
use native.Mathlib.Omega.{arith}
use lib.ListN.{length, get_or, drop, length-set}
use lib.Seq.{set_out, drop-cons}
use lib.Ieee.{Float, nan}
use lib.Dec.{eqb}
use borrow.Author.Tests.{eqb-true}
use Rattle.device.specs.declared.NodeId.TheVariants.{Ground, At}
use Rattle.places.specs.Places.{skipped_number, node_at}
use Rattle.adding.specs.Adding.{Source, add_at, add_node, add_sources, add_all}

-- a place behind the end
pub add_outside : (xs : List Float) (p : ℕ) (x : Float) → length xs ≤ p → add_at xs p x ≡ xs
unfolding add_at
add_outside xs p x h = set_out xs p _ h

pub length_add : (xs : List Float) (p : ℕ) (x : Float) → length (add_at xs p x) ≡ length xs
unfolding add_at
length_add xs p x = length-set xs p _

-- the places and values from index k on
pub add_more : (xs : List Float) (ps : List ℕ) (vs : List Float) (k : ℕ) → k < length ps → k < length vs
    → add_all xs (drop k ps) (drop k vs) ≡ add_all (add_at xs (get_or ps k 0) (get_or vs k nan)) (drop (k + 1) ps) (drop (k + 1) vs)
unfolding add_all
add_more xs ps vs k h e = rw (add-one, drop-cons ps k 0 h, drop-cons vs k nan e)

pub add_end : (xs : List Float) (ps : List ℕ) (vs : List Float) (k : ℕ) → k ≡ min (length ps) (length vs) → add_all xs (drop k ps) (drop k vs) ≡ xs
unfolding add_all
add_end xs [] vs zero h = refl
add_end xs [] vs (suc k) h = absurd (omega arith)
add_end xs (p ∷ ps) [] zero h = refl
add_end xs (p ∷ ps) [] (suc k) h = absurd (omega arith)
add_end xs (p ∷ ps) (v ∷ vs) zero h = absurd (omega arith)
add_end xs (p ∷ ps) (v ∷ vs) (suc k) h = add_end xs ps vs k (omega arith)

-- a node by its index; ground's lies behind the end
by_test : (xs : List Float) (i : ℕ) (x : Float) (b : Bool) → (b ≡ true → length xs ≤ i) → add_at xs i x ≡ add_node (cond b Ground (At i)) x xs
unfolding add_node
by_test xs i x true h = add_outside xs i x (h refl)
by_test xs i x false h = refl

pub add_index : (xs : List Float) (i : ℕ) (x : Float) → length xs ≤ skipped_number → add_at xs i x ≡ add_node (node_at i) x xs
unfolding node_at
add_index xs i x room = by_test xs i x (eqb i skipped_number) (λ e. omega (arith, eqb-true i skipped_number e))

-- sources one after another
pub sources_append : (ss ts : List Source) (xs : List Float) → add_sources (ss ++ ts) xs ≡ add_sources ts (add_sources ss xs)
unfolding add_sources
sources_append [] ts xs = refl
sources_append (s ∷ ss) ts xs = sources_append ss ts _
