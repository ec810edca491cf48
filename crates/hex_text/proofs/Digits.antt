-- Reading digits one after another, as the loop does it.
use Rattle.std.proofs.Common.{ℕ, ◌+◌, ◌-◌, ◌*◌, ◌^◌, ◌<◌, ◌≤◌, ◌≡◌, ◌∙◌, ap, List, length, take, drop, get_or, Some, None, arith, length-drop}
use Rattle.std.specs.Prelude.{Option}
use Rattle.std.specs.List.{slice_range}
use Rattle.std.proofs.lemmas.List.{drop_more, take_all}
use Rattle.std.proofs.lemmas.Bool.Decides.{nat_tests}
use borrow.Author.Tests.{lt-ltb, le-ltb}
use lib.Pow.{pow-add, pow_mono}
use native.Mathlib.Nat.{le_trans}
use Rattle.hex_text.specs.Hex.{digit_of, with_digit, digits_after, bits_at}

-- a digit counts less than 16
pub digit_small : (b d : ℕ) → digit_of b ≡ Some d → d < 16
unfolding digit_of
digit_small b d e = grind (arith, nat_tests)

-- the digits of a list from i on, after those that make n
module _ (s : List ℕ) (i n : ℕ) (I : i < length s) where
  front : digits_after n (drop i s) ≡ with_digit (digit_of (get_or s i 0)) (λ (d : ℕ). digits_after (n * 16 + d) (drop (i + 1) s))
  unfolding digits_after
  front = ap (digits_after n) (drop_more s i 0 I)

  pub goes_on : (d : ℕ) → digit_of (get_or s i 0) ≡ Some d → digits_after n (drop i s) ≡ digits_after (n * 16 + d) (drop (i + 1) s)
  unfolding with_digit
  goes_on d e = front ∙ ap (λ (x : Option ℕ). with_digit x (λ (d : ℕ). digits_after (n * 16 + d) (drop (i + 1) s))) e

  pub stops : digit_of (get_or s i 0) ≡ None → digits_after n (drop i s) ≡ None
  unfolding with_digit
  stops e = front ∙ ap (λ (x : Option ℕ). with_digit x (λ (d : ℕ). digits_after (n * 16 + d) (drop (i + 1) s))) e

-- the sixteen bytes from `at` on, and too few of them
module _ (s : List ℕ) (at : ℕ) where
  pub too_few : length s < at + 16 → bits_at s at ≡ None
  unfolding bits_at
  too_few h = simp (lt-ltb (length s) (at + 16) h)

  pub enough : at + 16 ≤ length s → bits_at s at ≡ digits_after 0 (take 16 (drop at s))
  unfolding bits_at
  enough h = simp (le-ltb (length s) (at + 16) h)

  pub rest : (r : List ℕ) → at ≤ length s → r ≡ slice_range s at (length s) → r ≡ drop at s
  rest r h e = e ∙ take_all (length s - at) (drop at s) (omega (arith, length-drop at s))

-- i digits make a number below 16 ^ i
pub more : (n d i : ℕ) → n < 2 ^ (4 * i) → d < 16 → n * 16 + d < 2 ^ (4 * (i + 1))
more n d i h g = rw (times i, pow-add 2 (4 * i) 4) (plain (2 ^ (4 * i)) h)
  where
    times : (i : ℕ) → 4 * (i + 1) ≡ 4 * i + 4
    times i = omega arith

    plain : (p : ℕ) → n < p → n * 16 + d < p * 16
    plain p l = omega arith

pub fits : (m i : ℕ) → i < 16 → m < 2 ^ (4 * (i + 1)) → m < 2 ^ 64
fits m i h g = le_trans g (pow_mono (four i h))
  where
    four : (i : ℕ) → i < 16 → 4 * (i + 1) ≤ 64
    four i h = omega arith
