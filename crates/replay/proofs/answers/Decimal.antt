-- Decimal digits, from the lowest up.
use Prim.Native.Nat.{ℕ, zero, suc, ◌+◌, ◌-◌, ◌/◌, ◌%◌, ◌<◌}
use mathlib.Core.Path.{◌≡◌, refl, sym, ◌∙◌, ap, ap₂}
use mathlib.Core.Bool.{Bool, cond}
use mathlib.Core.List.{List, ◌∷◌}
use native.Mathlib.Numerals.{add-one}
use native.Mathlib.Omega.{arith}
use lib.ListN.{length, set, drop}
use lib.Seq.{drop-cons, get_or-set_same, drop-set-lt, lt-length-set}
use borrow.Author.Tests.{eq-eqb, ne_eqb}
use Rattle.replay.specs.Text.{decimal}

-- a byte stored in front of those that are kept
pub stored_before : (l : List ℕ) (n a : ℕ) → n < length l → drop n (set l n a) ≡ a ∷ drop (n + 1) l
stored_before l n a h =
    drop-cons (set l n a) n 0 (lt-length-set l n a h)
    ∙ ap₂ (λ (b : ℕ) (s : List ℕ). b ∷ s) (get_or-set_same l n a 0 h) (drop-set-lt (suc n) l n a (after n) ∙ ap (λ (j : ℕ). drop j l) (sym (add-one n)))
  where
    after : (n : ℕ) → n < suc n
    after n = omega arith

pub no_room : (k x : ℕ) (s : List ℕ) → k ≡ 0 → decimal k x s ≡ s
unfolding decimal
no_room zero x s h = refl
no_room (suc k) x s h = absurd (none h)
  where
    none : suc k ≡ 0 → ⊥
    none h = omega arith

pub nothing_left : (k x : ℕ) (s : List ℕ) → x ≡ 0 → decimal k x s ≡ s
unfolding decimal
nothing_left zero x s h = refl
nothing_left (suc k) x s h = ap (λ (t : Bool). cond t s (decimal k (x / 10) ((48 + x % 10) ∷ s))) (eq-eqb x 0 h)

pub one_digit : (k x : ℕ) (s : List ℕ) → 0 < k → (x ≡ 0 → ⊥) → decimal k x s ≡ decimal (k - 1) (x / 10) ((48 + x % 10) ∷ s)
unfolding decimal
one_digit zero x s h n = absurd (none h)
  where
    none : 0 < 0 → ⊥
    none h = omega arith
one_digit (suc k) x s h n = ap (λ (t : Bool). cond t s (decimal k (x / 10) ((48 + x % 10) ∷ s))) (ne_eqb x 0 n) ∙ ap (λ (j : ℕ). decimal j (x / 10) ((48 + x % 10) ∷ s)) (less k)
  where
    less : (k : ℕ) → k ≡ suc k - 1
    less k = omega arith
