-- The lowest number of a bank's devices, those that have a list of cells first.
use mathlib.Core.Path.{◌≡◌, refl, sym, ap, ◌∙◌}
use mathlib.Core.Bool.{Bool, true, false}
use mathlib.Core.List.{List, [], ◌∷◌}
use Prim.Native.Nat.{ℕ, suc, ◌+◌, ◌≤◌, ◌<◌, min}
use native.Mathlib.Numerals.{add-one}
use Rattle.std.proofs.lemmas.Bool.Decides.{nat_tests}
use native.Mathlib.Omega.{arith}
use lib.Dec.{ltb}
use lib.ListN.{length, get_or, drop, drop_of_length-le}
use lib.Seq.{drop-cons}
use lib.Ieee.{Float}
use borrow.Author.Tests.{ltb-true, ltb-false}
use Rattle.record_words.specs.Words.{record_of}
use Rattle.record_resolved.specs.Steps.{resolved_number}
use Rattle.bridge_devices.specs.Steps.{first_of, lower}
use Rattle.bank_resolved.specs.Steps.{number_from}

lower_assoc : (a b c : ℕ) → lower a (lower b c) ≡ lower (lower a b) c
unfolding lower
lower_assoc a b c = grind (arith, nat_tests)

pub lower_0 : (a : ℕ) → lower 0 a ≡ a
unfolding lower
lower_0 a = refl

module _ (t : ℕ) (alpha : Float) (rows values : ℕ) (lacking : Bool) where
  abbrev left : List (List Float) → List (List ℕ) → ℕ → ℕ
  left bank cells i = number_from t alpha rows values lacking (drop i bank) (drop i cells)

  no_list : (ws : List (List Float)) → number_from t alpha rows values lacking ws [] ≡ first_of false false false false lacking
  unfolding number_from
  no_list [] = refl
  no_list (w ∷ ws) = refl

  no_device : (cs : List (List ℕ)) → number_from t alpha rows values lacking [] cs ≡ first_of false false false false lacking
  unfolding number_from
  no_device cs = refl

  -- behind those that have a list
  pub none_left : (bank : List (List Float)) (cells : List (List ℕ)) (i : ℕ) → i ≡ min (length bank) (length cells) → left bank cells i ≡ first_of false false false false lacking
  none_left bank cells i e = go (ltb (length cells) (length bank)) refl
    where
      go : (b : Bool) → ltb (length cells) (length bank) ≡ b → left bank cells i ≡ first_of false false false false lacking
      go true q =
          let l = ltb-true (length cells) (length bank) q in
          ap (number_from t alpha rows values lacking (drop i bank)) (drop_of_length-le cells {i = i} (omega arith)) ∙ no_list (drop i bank)
      go false q =
          let l = ltb-false (length cells) (length bank) q in
          ap (λ (ws : List (List Float)). number_from t alpha rows values lacking ws (drop i cells)) (drop_of_length-le bank {i = i} (omega arith)) ∙ no_device (drop i cells)

  one_here : (bank : List (List Float)) (cells : List (List ℕ)) (j own : ℕ) → j < length bank → j < length cells → own ≡ resolved_number (record_of (get_or bank j [])) t alpha (get_or cells j []) rows values
      → left bank cells j ≡ lower own (left bank cells (j + 1))
  unfolding number_from
  one_here bank cells j own h g eo = rw (eo, drop-cons bank j [] h, drop-cons cells j [] g, add-one j) refl

  -- one device more
  pub one_more : (bank : List (List Float)) (cells : List (List ℕ)) (j own number new whole : ℕ) → j < length bank → j < length cells → own ≡ resolved_number (record_of (get_or bank j [])) t alpha (get_or cells j []) rows values
      → new ≡ lower number own → lower number (left bank cells j) ≡ whole → lower new (left bank cells (j + 1)) ≡ whole
  one_more bank cells j own number new whole h g eo e so_far =
      rw e (sym (lower_assoc number own (left bank cells (j + 1)))) ∙ ap (lower number) (sym (one_here bank cells j own h g eo)) ∙ so_far
