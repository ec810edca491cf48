-- How the test of pairs goes on, and what row 1 leaves.
use mathlib.Core.Path.{◌≡◌, refl, ap₂}
use mathlib.Core.Bool.{Bool, true, false, not, ◌||◌}
use mathlib.Core.List.{List, [], ◌∷◌}
use Prim.Native.Nat.{ℕ, zero, suc, ◌+◌, ◌-◌, ◌<◌, ◌≤◌}
use native.Mathlib.Numerals.{add-one}
use native.Mathlib.Omega.{arith}
use borrow.Author.Tests.{ltb-false, eqb-true, not-false, lt-ltb, le-ltb}
use lib.Dec.{ltb, eqb}
use lib.Ieee.{Float}
use lib.ListN.{length, drop, get_or}
use lib.Seq.{drop-cons}
use Rattle.key_pairs.specs.Pairs.{Inside, pairs_astray, bad_pairs}

neither : (a b : Bool) → (a || b) ≡ false → (a ≡ false) × (b ≡ false)
neither true true t = (t, t)
neither true false t = (t, refl)
neither false b t = (refl, t)

pub pairs_step : (size last : ℕ) (os ls : List ℕ) (i : ℕ) → i < length os → i < length ls → pairs_astray size last (drop i os) (drop i ls) ≡ (ltb (get_or os i 0) last || (ltb size (get_or os i 0 + get_or ls i 0) || pairs_astray size (get_or os i 0 + get_or ls i 0) (drop (i + 1) os) (drop (i + 1) ls)))
unfolding pairs_astray
pairs_step size last os ls i h k = rw (add-one i) (ap₂ (pairs_astray size last) (drop-cons os i 0 h) (drop-cons ls i 0 k))

-- o + n is tested against the size without a sum
pub past_start : (size o n : ℕ) → size < o → ltb size (o + n) ≡ true
past_start size o n h = lt-ltb size (o + n) (omega arith)

pub past_end : (size o n : ℕ) → o ≤ size → size - o < n → ltb size (o + n) ≡ true
past_end size o n h k = lt-ltb size (o + n) (omega arith)

pub not_past : (size o n : ℕ) → o ≤ size → n ≤ size - o → ltb size (o + n) ≡ false
not_past size o n h k = le-ltb size (o + n) (omega arith)

inside : (size last : ℕ) (os ls : List ℕ) → pairs_astray size last os ls ≡ false → (i : ℕ) → i < length os → i < length ls → get_or os i 0 + get_or ls i 0 ≤ size
unfolding pairs_astray
inside size last [] ls e i h k = absurd (omega arith)
inside size last (o ∷ os) [] e i h k = absurd (omega arith)
inside size last (o ∷ os) (n ∷ ls) e zero h k =
    let u = neither (ltb o last) _ e in
    let w = neither (ltb size (o + n)) _ u.1 in
    ltb-false size (o + n) w.0
inside size last (o ∷ os) (n ∷ ls) e (suc i) h k =
    let u = neither (ltb o last) _ e in
    let w = neither (ltb size (o + n)) _ u.1 in
    inside size (o + n) os ls w.1 i (omega arith) (omega arith)

-- what row 1 leaves
pub record Paired (bytes offsets lengths : List ℕ) (values : List Float) : Type 0 where
  pub as_many : length offsets ≡ length lengths
  pub as_many_values : length offsets ≡ length values
  pub within : (i : ℕ) → i < length offsets → Inside bytes offsets lengths i

pub paired : (bytes offsets lengths : List ℕ) (values : List Float) → bad_pairs bytes offsets lengths values ≡ false → Paired bytes offsets lengths values
unfolding bad_pairs
paired bytes offsets lengths values e =
    let u = neither (not (eqb (length offsets) (length lengths))) _ e in
    let w = neither (not (eqb (length offsets) (length values))) _ u.1 in
    let same = eqb-true (length offsets) (length lengths) (not-false _ u.0) in
    record {
      as_many = same;
      as_many_values = eqb-true (length offsets) (length values) (not-false _ w.0);
      within = λ i h. let k : i < length lengths = omega (arith, same) in record { offset = h; size = k; end = inside (length bytes) 0 offsets lengths w.1 i h k };
    }
