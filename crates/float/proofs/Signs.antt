-- A float's sign, read off by comparisons with zero: why `abs`, `signum` and `max` are what their definitions say.
use Prim.Native.Nat.{ℕ, zero, suc, ◌+◌, ◌*◌, ◌<◌, ◌≤◌}
use mathlib.Core.Path.{◌≡◌, refl, sym}
use mathlib.Core.Logic.{◌⊎◌, inl, inr}
use mathlib.Core.Bool.{Bool, true, false, ◌&&◌, ◌||◌, true≢false, false≢true}
use native.Mathlib.Nat.{le_of_lt, le_of_eq}
use native.Mathlib.Omega.{arith}
use lib.Arith.{lt_of_le-ne}
use lib.Dec.{ltb, eqb}
use lib.IntN.{ℤ}
use borrow.Author.Tests.{ltb-true, ltb-false, eqb-true, eqb-false, lt-ltb, le-ltb}
use lib.Ieee.{Float, nan, inf, fin, up, down, neg, lt, le, eq, is_nan, div, of_bits, below, level}
use lib.Ieee.Fits.{up_pos}
use Rattle.std.specs.Float.{float_with_sign}
use Rattle.exact.specs.Float64.{+0, +1, ◌⊘◌, ◌<f◌, ◌>f◌, ◌≥f◌, absolute, signum, maximum}

both : (p q : Bool) → p && q ≡ true → p ≡ true
both true q h = refl
both false q h = absurd (false≢true h)

-- the size of a number that is not zero is not zero
not_zero : (m : ℕ) (e : ℤ) (b : ℕ) → suc m * up e * 1 + b ≤ 0 → ⊥
not_zero m e b h = omega (arith, up_pos e)

none_less : (a b : ℕ) → ltb a (0 * b) ≡ true → ⊥
none_less a b h = let l : a < 0 * b = ltb-true a (0 * b) h in omega arith

not_above : (m : ℕ) (e : ℤ) (b : ℕ) → ltb (0 * b) (suc m * up e * 1) ≡ false → ⊥
not_above m e b g = let a : suc m * up e * 1 ≤ 0 * b = ltb-false _ _ g in omega (arith, up_pos e)

-- below zero the sign is set
pub below_sign : (x : Float) → (x <f +0) ≡ true → neg +1 ≡ signum x
unfolding neg lt signum of_bits
below_sign nan h = absurd (false≢true h)
below_sign (inf true) h = refl
below_sign (inf false) h = absurd (false≢true h)
below_sign (fin true m e) h = refl
below_sign (fin false m e) h = absurd (none_less (m * up e * 1) (down e) h)

-- above zero it is clear
pub above_sign : (x : Float) → (x >f +0) ≡ true → +1 ≡ signum x
unfolding lt signum of_bits
above_sign nan h = absurd (false≢true h)
above_sign (inf true) h = absurd (false≢true h)
above_sign (inf false) h = refl
above_sign (fin true m e) h = absurd (false≢true h)
above_sign (fin false m e) h = refl

pub nan_sign : (x : Float) → is_nan x ≡ true → x ≡ signum x
unfolding signum is_nan
nan_sign nan h = refl
nan_sign (inf s) h = absurd (false≢true h)
nan_sign (fin s m e) h = absurd (false≢true h)

-- a zero's sign is that of its reciprocal, an infinity
pub zero_below_sign : (x : Float) → (x >f +0) ≡ false → (+1 ⊘ x <f +0) ≡ true → neg +1 ≡ signum x
unfolding neg lt div signum of_bits
zero_below_sign nan g h = absurd (false≢true h)
zero_below_sign (inf true) g h = refl
zero_below_sign (inf false) g h = absurd (false≢true h)
zero_below_sign (fin true m e) g h = refl
zero_below_sign (fin false zero e) g h = absurd (false≢true h)
zero_below_sign (fin false (suc m) e) g h = absurd (not_above m e _ g)

pub zero_above_sign : (x : Float) → (x <f +0) ≡ false → is_nan x ≡ false → (+1 ⊘ x <f +0) ≡ false → +1 ≡ signum x
unfolding lt is_nan div signum of_bits
zero_above_sign nan l d h = absurd (true≢false d)
zero_above_sign (inf true) l d h = absurd (true≢false l)
zero_above_sign (inf false) l d h = refl
zero_above_sign (fin false m e) l d h = refl
zero_above_sign (fin true zero e) l d h = absurd (true≢false h)
zero_above_sign (fin true (suc m) e) l d h = absurd (not_zero m e _ (ltb-false _ _ l))

-- the method of std is what the definition says
pub absolute_is : (x : Float) → float_with_sign false x ≡ absolute x
unfolding float_with_sign absolute
absolute_is nan = refl
absolute_is (inf s) = refl
absolute_is (fin s m e) = refl

-- ---- of two, ±a and ±b: the first is not below the second where the second is below it or equal, and only there
one_of : (p q : Bool) → p || q ≡ true → (p ≡ true) ⊎ (q ≡ true)
one_of true q h = inl refl
one_of false q h = inr h

not_first : (p q : Bool) → p || q ≡ false → p ≡ false
not_first true q h = h
not_first false q h = refl

not_second : (p q : Bool) → p || q ≡ false → q ≡ false
not_second true q h = absurd (true≢false h)
not_second false q h = h

second : (p q : Bool) → p && q ≡ true → q ≡ true
second true q h = h
second false q h = absurd (false≢true h)

only : (p : Bool) → p && true ≡ false → p ≡ false
only true h = h
only false h = refl

not_below : (s t : Bool) (a b : ℕ) → below t b s a || level t b s a ≡ true → below s a t b ≡ false
not_below false false a b h = le-ltb a b (elim (one_of (ltb b a) _ h) [
  | inl l ↦ le_of_lt (ltb-true b a l)
  | inr e ↦ le_of_eq (eqb-true b a (both _ _ e))
])
not_below true false a b h = let e : b ≡ a = eqb-true b a (both (eqb b a) _ h) in let z : b ≡ 0 = eqb-true b 0 (second (eqb b a) _ h) in le-ltb 0 (a + b) (omega arith)
not_below false true a b h = refl
not_below true true a b h = le-ltb b a (elim (one_of (ltb a b) _ h) [
  | inl l ↦ le_of_lt (ltb-true a b l)
  | inr e ↦ le_of_eq (sym (eqb-true b a (both _ _ e)))
])

is_below : (s t : Bool) (a b : ℕ) → below t b s a || level t b s a ≡ false → below s a t b ≡ true
is_below false false a b h = lt-ltb a b (lt_of_le-ne (ltb-false b a (not_first _ _ h)) (λ e. eqb-false b a (only _ (not_second (ltb b a) _ h)) (sym e)))
is_below true false zero zero h = absurd (true≢false h)
is_below true false (suc a) b h = lt-ltb 0 (suc a + b) (omega arith)
is_below true false zero (suc b) h = lt-ltb 0 (0 + suc b) (omega arith)
is_below false true zero zero h = absurd (true≢false h)
is_below false true (suc a) b h = let l : b + suc a ≤ 0 = ltb-false 0 (b + suc a) (not_first _ _ h) in absurd (omega (arith, l))
is_below false true zero (suc b) h = let l : suc b + 0 ≤ 0 = ltb-false 0 (suc b + 0) (not_first _ _ h) in absurd (omega (arith, l))
is_below true true a b h = lt-ltb b a (lt_of_le-ne (ltb-false a b (not_first _ _ h)) (eqb-false b a (only _ (not_second (ltb a b) _ h))))

-- the larger of two
pub max_first : (x y : Float) → (x ≥f y) ≡ true → x ≡ maximum x y
unfolding le lt eq maximum
max_first nan nan h = refl
max_first nan (inf t) h = absurd (false≢true h)
max_first nan (fin t n d) h = absurd (false≢true h)
max_first (inf s) nan h = refl
max_first (inf false) (inf t) h = refl
max_first (inf true) (inf true) h = refl
max_first (inf true) (inf false) h = absurd (false≢true h)
max_first (inf false) (fin t n d) h = refl
max_first (inf true) (fin t n d) h = absurd (false≢true h)
max_first (fin s m e) nan h = refl
max_first (fin s m e) (inf true) h = refl
max_first (fin s m e) (inf false) h = absurd (false≢true h)
max_first (fin s m e) (fin t n d) h = rw (not_below s t (m * up e * down d) (n * up d * down e) h)

before_nan : (x : Float) → x ≡ maximum x nan
unfolding lt maximum
before_nan nan = refl
before_nan (inf s) = refl
before_nan (fin s m e) = refl

pub max_of_nan : (x y : Float) → is_nan y ≡ true → x ≡ maximum x y
unfolding is_nan
max_of_nan x nan h = before_nan x
max_of_nan x (inf s) h = absurd (false≢true h)
max_of_nan x (fin s m e) h = absurd (false≢true h)

pub max_second : (x y : Float) → (x ≥f y) ≡ false → is_nan y ≡ false → y ≡ maximum x y
unfolding le lt eq is_nan maximum
max_second x nan h d = absurd (true≢false d)
max_second nan (inf t) h d = refl
max_second nan (fin t n d) h g = refl
max_second (inf false) (inf true) h d = absurd (true≢false h)
max_second (inf false) (inf false) h d = absurd (true≢false h)
max_second (inf true) (inf true) h d = absurd (true≢false h)
max_second (inf true) (inf false) h d = refl
max_second (inf false) (fin t n d) h g = absurd (true≢false h)
max_second (inf true) (fin t n d) h g = refl
max_second (fin s m e) (inf true) h d = absurd (true≢false h)
max_second (fin s m e) (inf false) h d = refl
max_second (fin s m e) (fin t n d) h g = rw (is_below s t (m * up e * down d) (n * up d * down e) h)
