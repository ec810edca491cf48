-- A conductance of zero at its four places: the additions that change nothing.
use mathlib.Core.Path.{◌≡◌, refl, sym, ap, ◌∙◌, subst}
use mathlib.Core.List.{List, [], ◌∷◌}
use Prim.Native.Nat.{ℕ, zero, suc, ◌≤◌, ◌<◌}
use lib.ListN.{length, get_or, set}
use lib.Seq.{get_or-set_same}
use lib.Ieee.{Float, nan, neg}
use Rattle.exact.specs.Float64.{◌⊕◌, +0}
use Rattle.places.specs.Places.{skipped_number, node_at}
use Rattle.stamps.specs.Stamps.{position}
use Rattle.adding.specs.Adding.{add_at}
use Rattle.adding.proofs.Adding.{length_add}
use Rattle.assembly.specs.Assembly.{add_place, paired}
use Rattle.resolved_rows.specs.LoadResolved.{stored_place, add_stored}
use Rattle.load_resolved.specs.ByNumbers.{place_between, add_pair}
use Rattle.load_resolved.proofs.Stored.{add_between}

-- an entry that a value does not change
pub unchanged : (ys : List Float) (p : ℕ) (x : Float) → get_or ys p nan ⊕ x ≡ get_or ys p nan → add_at ys p x ≡ ys
unfolding add_at
unchanged [] p x e = refl
unchanged (y ∷ ys) zero x e = ap (λ (z : Float). z ∷ ys) e
unchanged (y ∷ ys) (suc p) x e = ap (λ (zs : List Float). y ∷ zs) (unchanged ys p x e)

pub zero_stored : (xs : List Float) (p : ℕ) (r : Float) → p < length xs → r ≡ get_or xs p nan ⊕ +0 → r ⊕ +0 ≡ r
    → (set xs p r ≡ add_at xs p +0) × (add_at (set xs p r) p +0 ≡ set xs p r)
unfolding add_at
zero_stored xs p r h e f = (ap (λ (x : Float). set xs p x) e, unchanged (set xs p r) p +0 (rw (get_or-set_same xs p r nan h) f))

module _ (xs₀ xs₁ xs₂ xs₃ : List Float) (first ab ba last : ℕ) (added : xs₁ ≡ add_at xs₀ first +0) (kept₁ : xs₂ ≡ xs₁) (none₁ : add_at xs₁ ab (neg +0) ≡ xs₁)
    (kept₂ : xs₃ ≡ xs₂) (none₂ : add_at xs₂ ba (neg +0) ≡ xs₂) where
  pub four_zeros : add_at xs₃ last +0 ≡ add_at (add_at (add_at (add_at xs₀ first +0) ab (neg +0)) ba (neg +0)) last +0
  four_zeros =
      ap (λ (ys : List Float). add_at ys last +0)
      (kept₂ ∙ sym none₂ ∙ ap (λ (ys : List Float). add_at ys ba (neg +0)) (kept₁ ∙ sym none₁ ∙ ap (λ (ys : List Float). add_at ys ab (neg +0)) added))

  pub three_zeros : first ≡ last → add_at xs₁ first +0 ≡ xs₁ → xs₃ ≡ add_at (add_at (add_at (add_at xs₀ first +0) ab (neg +0)) ba (neg +0)) last +0
  three_zeros e again =
      sym (ap (λ (ys : List Float). add_at ys last +0) (kept₂ ∙ kept₁) ∙ ap (λ (p : ℕ). add_at xs₁ p +0) (sym e) ∙ again ∙ sym (kept₂ ∙ kept₁)) ∙ four_zeros

room_later : (xs : List Float) (p : ℕ) (x : Float) → length xs ≤ skipped_number → length (add_at xs p x) ≤ skipped_number
room_later xs p x h = subst (λ (n : ℕ). n ≤ skipped_number) (sym (length_add xs p x)) h

-- the four cells of a conductance, at their marked places
module _ (a b aa ab ba bb : ℕ) (g : Float) (xs : List Float) where
  pair_marked : length xs ≤ skipped_number
      → add_at (add_at (add_at (add_at xs (place_between a a aa) g) (place_between a b ab) (neg g)) (place_between b a ba) (neg g)) (place_between b b bb) g ≡ add_pair a b g aa ab ba bb xs
  unfolding add_pair add_stored paired
  pair_marked h =
      let ys = add_at xs (place_between a a aa) g in
      let zs = add_at ys (place_between a b ab) (neg g) in
      let us = add_at zs (place_between b a ba) (neg g) in
      let hy = room_later xs (place_between a a aa) g h in
      let hz = room_later ys (place_between a b ab) (neg g) hy in
      add_between us b b bb g (room_later zs (place_between b a ba) (neg g) hz)
      ∙ ap (add_place (stored_place (position (node_at b) (node_at b)) bb) g)
      (add_between zs b a ba (neg g) hz
      ∙ ap (add_place (stored_place (position (node_at b) (node_at a)) ba) (neg g))
      (add_between ys a b ab (neg g) hy ∙ ap (add_place (stored_place (position (node_at a) (node_at b)) ab) (neg g)) (add_between xs a a aa g h)))

  pub marked_pair : (p q r s : ℕ) → p ≡ place_between a a aa → q ≡ place_between a b ab → r ≡ place_between b a ba → s ≡ place_between b b bb → length xs ≤ skipped_number
      → add_at (add_at (add_at (add_at xs p g) q (neg g)) r (neg g)) s g ≡ add_pair a b g aa ab ba bb xs
  marked_pair p q r s e f i j h = rw (e, f, i, j) (pair_marked h)
