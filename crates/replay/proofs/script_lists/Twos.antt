-- Bytes of two digits each.
use Prim.Native.Nat.{ℕ, suc, ◌+◌, ◌*◌, ◌/◌, ◌%◌, ◌≤◌, ◌<◌}
use mathlib.Core.Path.{◌≡◌, sym, ◌∙◌, ap}
use mathlib.Core.Bool.{true, false}
use mathlib.Core.List.{List, [], ◌∷◌}
use native.Mathlib.Numerals.{add-one}
use native.Mathlib.Omega.{arith}
use lib.ListN.{length, drop, get_or, drop_of_length-le}
use lib.Seq.{drop-cons}
use borrow.Author.Tests.{eq-eqb, ne_eqb, lt-ltb, le-ltb}
use Rattle.std.specs.Prelude.{Option, Some, None}
use Rattle.replay.specs.Lists.{twos, is_empty_list, byte_in, fit_bytes, byte_count_of, bytes_filled_by}
use Rattle.replay.proofs.script_lists.Filling.{Over}

pub next_two : (w : List ℕ) (i : ℕ) → 2 * i + 1 < length w → twos (drop (2 * i) w) ≡ (get_or w (2 * i) 0 ∷ get_or w (2 * i + 1) 0 ∷ []) ∷ twos (drop (2 * (i + 1)) w)
unfolding twos
next_two w i h = ap twos (drop-cons w (2 * i) 0 (omega arith) ∙ ap (λ (s : List ℕ). get_or w (2 * i) 0 ∷ s) second)
  where
    behind_both : suc (2 * i + 1) ≡ 2 * (i + 1)
    behind_both = omega arith

    second : drop (suc (2 * i)) w ≡ get_or w (2 * i + 1) 0 ∷ drop (2 * (i + 1)) w
    second = ap (λ (k : ℕ). drop k w) (sym (add-one (2 * i))) ∙ drop-cons w (2 * i + 1) 0 h ∙ ap (λ (k : ℕ). get_or w (2 * i + 1) 0 ∷ drop k w) behind_both

pub no_two : (w : List ℕ) (i : ℕ) → length w ≤ 2 * i → twos (drop (2 * i) w) ≡ []
unfolding twos
no_two w i h = ap twos (drop_of_length-le w h)

-- what `bytes` promises of a count and a slice
pub record ReadBytes (w first : List ℕ) (r : Option ℕ) (out : List ℕ) : Type 0 where
  pub count : r ≡ byte_count_of (length first) w
  pub left : out ≡ bytes_filled_by first w

module _ (w first : List ℕ) where
  pub empty_bytes : is_empty_list w ≡ true → ReadBytes w first (Some 0) first
  unfolding byte_count_of bytes_filled_by
  empty_bytes f = record { count = simp f; left = simp f }

  pub unfit_bytes : is_empty_list w ≡ false → fit_bytes (length first) w ≡ false → ReadBytes w first None first
  unfolding byte_count_of bytes_filled_by
  unfit_bytes f t = record { count = simp (f, t); left = simp (f, t) }

  pub bytes_over : is_empty_list w ≡ false → fit_bytes (length first) w ≡ true → {r : Option ℕ} {out : List ℕ} → Over byte_in (length first) (twos w) first r out → ReadBytes w first r out
  unfolding byte_count_of bytes_filled_by
  bytes_over f t o = record { count = o.count ∙ simp (f, t); left = o.left ∙ simp (f, t) }

module _ (room : ℕ) (w : List ℕ) where
  pub odd : (length w % 2 ≡ 0 → ⊥) → fit_bytes room w ≡ false
  unfolding fit_bytes
  odd h = simp (ne_eqb (length w % 2) 0 h)

  pub too_long : length w % 2 ≡ 0 → room < length w / 2 → fit_bytes room w ≡ false
  unfolding fit_bytes
  too_long e h = simp (eq-eqb (length w % 2) 0 e, lt-ltb room (length w / 2) h)

  pub fit : length w % 2 ≡ 0 → length w / 2 ≤ room → fit_bytes room w ≡ true
  unfolding fit_bytes
  fit e h = simp (eq-eqb (length w % 2) 0 e, le-ltb room (length w / 2) h)
