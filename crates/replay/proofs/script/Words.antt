-- The words of a line, one after another.
use Rattle.std.proofs.Common.{◌≡◌, ℕ, suc, ◌+◌, ◌-◌, ◌<◌, ◌≤◌, Bool, true, false, cond, not, eqb, ltb, List, [], ◌∷◌, None, Some, length, filter, take, drop, get_or, position, arith, tests, ne_eqb, refl, sym, ap, ◌∙◌, subst}
use Rattle.std.specs.List.{slice_split, onto_first, position_or_len}
use Rattle.std.specs.Option.{unwrap_or}
use Rattle.std.proofs.lemmas.List.Splits.{length-slice_split}
use Rattle.std.proofs.lemmas.List.Sums.{length-filter, count_by-le-length, prefix_len-le-length, passes_at_first}
use Rattle.std.proofs.lemmas.Grind.{common_steps}
use Rattle.std.proofs.lemmas.List.{drop_all, drop-drop, length-drop, nil_from_length, take_all}
use Rattle.replay.specs.Word.{words}

abbrev space : ℕ → Bool
space b = eqb b 32

abbrev other : ℕ → Bool
other b = not (eqb b 32)

abbrev some : List ℕ → Bool
some w = not (eqb (length w) 0)

next : (n : ℕ) → 1 + n ≡ suc n
next n = omega arith

-- a line from its first word on has the words that the line has
pub trimmed_words : (s : List ℕ) → words (drop (position_or_len other s) s) ≡ words s
trimmed_words [] = refl
trimmed_words (b ∷ s) = by (eqb b 32) refl (trimmed_words s)
  where
    by : (t : Bool) → eqb b 32 ≡ t → words (drop (position_or_len other s) s) ≡ words s → words (drop (position_or_len other (b ∷ s)) (b ∷ s)) ≡ words (b ∷ s)
    by true e rest =
        ap (λ t. words (drop (cond (not (not t)) (1 + position_or_len other s) 0) (b ∷ s))) e
        ∙ ap (λ n. words (drop n (b ∷ s))) (next (position_or_len other s))
        ∙ rest
        ∙ sym (ap (λ t. filter some (cond t ([] ∷ slice_split space s) (onto_first b (slice_split space s)))) e)
    by false e rest = ap (λ t. words (drop (cond (not (not t)) (1 + position_or_len other s) 0) (b ∷ s))) e

-- the first of the parts is what stands before the first space, and the words among the others are those from that space on
abbrev Begins : List ℕ → ℕ → List (List ℕ) → Type 0
Begins s n parts = (others : List (List ℕ)) × (parts ≡ take n s ∷ others) × (filter some others ≡ words (drop n s))

begins : (s : List ℕ) → Begins s (position_or_len space s) (slice_split space s)
begins [] = ([], refl, refl)
begins (b ∷ s) = by (eqb b 32) refl (begins s)
  where
    by : (t : Bool) → eqb b 32 ≡ t → Begins s (position_or_len space s) (slice_split space s) → Begins (b ∷ s) (cond (not (eqb b 32)) (1 + position_or_len space s) 0) (cond (eqb b 32) ([] ∷ slice_split space s) (onto_first b (slice_split space s)))
    by true e rest = subst (λ t. Begins (b ∷ s) (cond (not t) (1 + position_or_len space s) 0) (cond t ([] ∷ slice_split space s) (onto_first b (slice_split space s)))) (sym e)
        (slice_split space s, refl, sym (ap (λ t. filter some (cond t ([] ∷ slice_split space s) (onto_first b (slice_split space s)))) e))
    by false e rest = subst (λ t. Begins (b ∷ s) (cond (not t) (1 + position_or_len space s) 0) (cond t ([] ∷ slice_split space s) (onto_first b (slice_split space s)))) (sym e)
        (subst (λ n. Begins (b ∷ s) n (onto_first b (slice_split space s))) (sym (next (position_or_len space s))) (rest.0, ap (onto_first b) rest.1, rest.2))

kept : (b : ℕ) (w : List ℕ) (others : List (List ℕ)) → filter some ((b ∷ w) ∷ others) ≡ (b ∷ w) ∷ filter some others
kept b w others = ap (λ t. cond (not t) ((b ∷ w) ∷ filter some others) (filter some others)) (ne_eqb (suc (length w)) 0 (λ h. omega arith))

-- a line that begins with a word: its words are that one and those behind it
begins_with : (b : ℕ) (s : List ℕ) → eqb b 32 ≡ false → Begins s (position_or_len space s) (slice_split space s) → words (b ∷ s) ≡ take (position_or_len space (b ∷ s)) (b ∷ s) ∷ words (drop (position_or_len space (b ∷ s)) (b ∷ s))
begins_with b s e rest =
    let long : position_or_len space (b ∷ s) ≡ suc (position_or_len space s) = ap (λ t. cond (not t) (1 + position_or_len space s) 0) e ∙ next (position_or_len space s) in
    ap (λ t. filter some (cond t ([] ∷ slice_split space s) (onto_first b (slice_split space s)))) e
    ∙ ap (λ parts. filter some (onto_first b parts)) rest.1
    ∙ kept b (take (position_or_len space s) s) rest.0
    ∙ ap (λ others. (b ∷ take (position_or_len space s) s) ∷ others) rest.2
    ∙ sym (ap (λ n. take n (b ∷ s) ∷ words (drop n (b ∷ s))) long)

first_of : (s : List ℕ) → 0 < length s → eqb (get_or s 0 0) 32 ≡ false → words s ≡ take (position_or_len space s) s ∷ words (drop (position_or_len space s) s)
first_of [] l e = absurd (omega arith)
first_of (b ∷ s) l e = begins_with b s e (begins s)

-- what a search gives, as a number
found : (n m i : ℕ) → cond (ltb n m) (Some n) None ≡ Some i → (i ≡ n) × (n < m)
found n m i h = grind (arith, tests)

not_found : (n m : ℕ) → cond (ltb n m) (Some n) None ≡ None → m ≤ n
not_found n m h = grind (arith, tests)

or_end : (n m : ℕ) → n ≤ m → unwrap_or (cond (ltb n m) (Some n) None) m ≡ n
or_end n m h = grind (arith, tests)

-- a line from its first word on: from the place that was found on, or nothing where none was
pub trimmed_at : (s : List ℕ) (i : ℕ) → position other s ≡ Some i → take (length s - i) (drop i s) ≡ drop (position_or_len other s) s
trimmed_at s i h = take_all _ _ (omega (arith, length-drop i s)) ∙ ap (λ k. drop k s) (found _ _ i h).0

pub trimmed_away : (s : List ℕ) → position other s ≡ None → [] ≡ drop (position_or_len other s) s
trimmed_away s h = sym (drop_all (position_or_len other s) s (not_found _ _ h))

module _ (s rest : List ℕ) (trimmed : rest ≡ drop (position_or_len other s) s) where
  pub no_word : length rest ≡ 0 → words s ≡ []
  no_word h = sym (ap words trimmed ∙ trimmed_words s) ∙ ap words (nil_from_length rest h)

  -- the first word is what a space or the line's end ends
  pub word_first : (n : ℕ) → 0 < length rest → n ≡ unwrap_or (position space rest) (length rest) → words s ≡ take n rest ∷ words (drop n rest)
  word_first n some_left e =
      let within : position_or_len other s < length s = omega (arith, ap length trimmed, length-drop (position_or_len other s) s) in
      let passes : other (get_or s (position_or_len other s) 0) ≡ true = passes_at_first other s 0 within in
      let byte : get_or rest 0 0 ≡ get_or s (position_or_len other s) 0 = grind (arith, common_steps) in
      let word : eqb (get_or rest 0 0) 32 ≡ false = grind (arith, tests) in
      let end : n ≡ position_or_len space rest = e ∙ or_end _ _ (prefix_len-le-length other rest) in
      sym (ap words trimmed ∙ trimmed_words s) ∙ first_of rest some_left word ∙ sym (ap (λ k. take k rest ∷ words (drop k rest)) end)

-- no line has more words than bytes and one
pub few_words : (s : List ℕ) → length (words s) ≤ length s + 1
few_words s = omega (arith, length-filter some (slice_split space s), count_by-le-length some (slice_split space s), length-slice_split space s, count_by-le-length space s)

-- behind the first of the words from number n on stand those from the next number on
pub next_words : (s rest word behind : List ℕ) (n : ℕ) → words rest ≡ drop n (words s) → words rest ≡ word ∷ words behind → words behind ≡ drop (n + 1) (words s)
next_words s rest word behind n e h = ap (drop 1) (sym h ∙ e) ∙ drop-drop 1 n (words s)

pub none_left : (s rest : List ℕ) (n k : ℕ) → words rest ≡ drop n (words s) → words rest ≡ [] → n ≤ k → [] ≡ drop k (words s)
none_left s rest n k e h l = sym (drop_all k (words s) (omega (arith, ap length (sym h ∙ e), length-drop n (words s))))
