-- The cells of the 24 pairs, four by four.
use mathlib.Core.Path.{◌≡◌, refl, ap, ◌∙◌}
use mathlib.Core.Bool.{Bool, true, false, ◌&&◌, ◌||◌}
use mathlib.Core.List.{List, [], ◌∷◌, ◌++◌}
use Prim.Native.Nat.{ℕ, suc}
use native.Mathlib.Omega.{arith}
use lib.ListN.{length, get_or}
use lib.Dec.{ltb}
use Rattle.stamps.specs.Stamps.{jac_pairs_of, pair_between}
use Rattle.stamps.specs.declared.Position.{Position}
use Rattle.places.specs.Places.{node_at, terminals_at}
use Rattle.places.specs.declared.Nodes.{Nodes}
use Rattle.resolved_rows.specs.LoadResolved.{numbers_from, grounded}
use Rattle.resolved_rows.specs.ByNumbers.{cell_there, pairs_stored, pair_stored, row_stored}

and_assoc : (a b c : Bool) → (a && (b && c)) ≡ (a && b && c)
and_assoc true b c = refl
and_assoc false b c = refl

four_tests : (a b c d : Bool) → (a && (b && (c && d))) ≡ (a && b && c && d)
four_tests true b c d = and_assoc b c d
four_tests false b c d = refl

five_tests : (a b c d e : Bool) → (a && (b && (c && (d && e)))) ≡ (a && b && c && d && e)
five_tests true b c d e = four_tests b c d e
five_tests false b c d e = refl

six_tests : (a b c d e f : Bool) → (a && (b && (c && (d && (e && f))))) ≡ (a && b && c && d && e && f)
six_tests true b c d e f = five_tests b c d e f
six_tests false b c d e f = refl

module _ (n : ℕ) where
  split : (cs ds : List Position) (ps qs : List ℕ) → length cs ≡ length ps → pairs_stored n (cs ++ ds) (ps ++ qs) ≡ (pairs_stored n cs ps && pairs_stored n ds qs)
  unfolding pairs_stored
  split [] ds [] qs e = refl
  split [] ds (p ∷ ps) qs e = absurd (omega arith)
  split (c ∷ cs) ds [] qs e = absurd (omega arith)
  split (c ∷ cs) ds (p ∷ ps) qs e =
      ap (λ (b : Bool). (grounded c || ltb p n) && b) (split cs ds ps qs (omega arith)) ∙ and_assoc (grounded c || ltb p n) (pairs_stored n cs ps) (pairs_stored n ds qs)

  first_four : (a b c d : Position) (cs : List Position) (p q r s : ℕ) (ps : List ℕ)
      → pairs_stored n (a ∷ b ∷ c ∷ d ∷ cs) (p ∷ q ∷ r ∷ s ∷ ps) ≡ (pairs_stored n (a ∷ b ∷ c ∷ d ∷ []) (p ∷ q ∷ r ∷ s ∷ []) && pairs_stored n cs ps)
  first_four a b c d cs p q r s ps = split (a ∷ b ∷ c ∷ d ∷ []) cs (p ∷ q ∷ r ∷ s ∷ []) ps refl

  -- the channel's two rows, then four conductances
  pub pairs_parts : (t : Nodes) (w : List ℕ) → pairs_stored n (jac_pairs_of (terminals_at t)) (numbers_from w 8 24)
      ≡ (row_stored n t.drain t (get_or w 8 0) (get_or w 9 0) (get_or w 10 0) (get_or w 11 0)
      && row_stored n t.source t (get_or w 12 0) (get_or w 13 0) (get_or w 14 0) (get_or w 15 0)
      && pair_stored n t.drain_ext t.drain (get_or w 16 0) (get_or w 17 0) (get_or w 18 0) (get_or w 19 0)
      && pair_stored n t.source_ext t.source (get_or w 20 0) (get_or w 21 0) (get_or w 22 0) (get_or w 23 0)
      && pair_stored n t.bulk t.source (get_or w 24 0) (get_or w 25 0) (get_or w 26 0) (get_or w 27 0)
      && pair_stored n t.bulk t.drain (get_or w 28 0) (get_or w 29 0) (get_or w 30 0) (get_or w 31 0))
  unfolding pair_stored row_stored jac_pairs_of terminals_at numbers_from
  pairs_parts t w =
      let drain = row_stored n t.drain t (get_or w 8 0) (get_or w 9 0) (get_or w 10 0) (get_or w 11 0) in
      let source = row_stored n t.source t (get_or w 12 0) (get_or w 13 0) (get_or w 14 0) (get_or w 15 0) in
      let rd = pair_stored n t.drain_ext t.drain (get_or w 16 0) (get_or w 17 0) (get_or w 18 0) (get_or w 19 0) in
      let rs = pair_stored n t.source_ext t.source (get_or w 20 0) (get_or w 21 0) (get_or w 22 0) (get_or w 23 0) in
      let bs = pair_stored n t.bulk t.source (get_or w 24 0) (get_or w 25 0) (get_or w 26 0) (get_or w 27 0) in
      let bd = pair_stored n t.bulk t.drain (get_or w 28 0) (get_or w 29 0) (get_or w 30 0) (get_or w 31 0) in
      first_four _ _ _ _ _ _ _ _ _ _ ∙ ap (λ (x : Bool). drain && x)
      (first_four _ _ _ _ _ _ _ _ _ _ ∙ ap (λ (x : Bool). source && x)
      (first_four _ _ _ _ _ _ _ _ _ _ ∙ ap (λ (x : Bool). rd && x)
      (first_four _ _ _ _ _ _ _ _ _ _ ∙ ap (λ (x : Bool). rs && x)
      (first_four _ _ _ _ _ _ _ _ _ _))))
      ∙ six_tests drain source rd rs bs bd

-- four cells of a conductance in front of what else was asked
module _ (n : ℕ) (w : List ℕ) (k m : ℕ) (rest : Bool) where
  pub four_there_lem : (a b : ℕ) (cs : List Position) → rest ≡ pairs_stored n cs (numbers_from w (suc (suc (suc (suc k)))) m)
      → (cell_there n a a (get_or w k 0) && (cell_there n a b (get_or w (suc k) 0) && (cell_there n b a (get_or w (suc (suc k)) 0) && (cell_there n b b (get_or w (suc (suc (suc k))) 0) && rest)))) ≡ pairs_stored n (pair_between (node_at a) (node_at b) cs) (numbers_from w k (suc (suc (suc (suc m)))))
  unfolding pairs_stored numbers_from cell_there
  four_there_lem a b cs e = ap (λ (x : Bool). cell_there n a a (get_or w k 0) && (cell_there n a b (get_or w (suc k) 0) && (cell_there n b a (get_or w (suc (suc k)) 0) && (cell_there n b b (get_or w (suc (suc (suc k))) 0) && x)))) e
