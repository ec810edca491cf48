-- The text of a list from a place on.
use Rattle.std.proofs.Common.{◌≡◌, ℕ, ◌+◌, ◌<◌, ◌≤◌, List, [], ◌∷◌, ◌++◌, length, get_or, drop, sym, ap, subst, refl, arith, ◌∙◌}
use Rattle.std.proofs.lemmas.List.{at_drop_more, at_drop_all}
use Rattle.hex_text.proofs.Joining.{Written}
use Rattle.replay.specs.Text.{each_by, list_by}

module _ {A : Type 0} (text : A → List ℕ) (xs : List A) (i : ℕ) where
  pub each_next : (x : A) → i < length xs → x ≡ get_or xs i x → each_by text (drop i xs) ≡ text x ++ each_by text (drop (i + 1) xs)
  unfolding each_by
  each_next x h e = at_drop_more (each_by text) xs i x h ∙ ap (λ (y : A). text y ++ each_by text (drop (i + 1) xs)) (sym e)

  pub each_end : length xs ≤ i → each_by text (drop i xs) ≡ []
  unfolding each_by
  each_end h = at_drop_all (each_by text) xs i h

-- another way to say the text
pub written_as : {out s t result : List ℕ} {at end : ℕ} → t ≡ s → Written out at s end result → Written out at t end result
written_as {out} {s} {t} {result} {at} {end} e w = subst (λ (r : List ℕ). Written out at r end result) (sym e) w

module _ {A : Type 0} (text : A → List ℕ) (xs : List A) where
  pub none_listed : length xs ≡ 0 → list_by text xs ≡ 32 ∷ 45 ∷ []
  unfolding list_by
  none_listed h = by_cases xs h
    where
      by_cases : (s : List A) → length s ≡ 0 → list_by text s ≡ 32 ∷ 45 ∷ []
      by_cases [] h = refl
      by_cases (x ∷ s) h = absurd (omega arith)

  pub some_listed : (x : A) (rest : List A) → xs ≡ x ∷ rest → list_by text xs ≡ ((32 ∷ []) ++ text x) ++ each_by (λ (y : A). (44 ∷ []) ++ text y) rest
  unfolding list_by
  some_listed x rest e = ap (list_by text) e
