-- From a value that row 4 or row 6 lets pass to its size and sign: one law over the key, by tests of the table's ends that compute.
use mathlib.Core.Path.{◌≡◌, subst}
use mathlib.Core.Logic.{◌⊎◌, inl, inr}
use mathlib.Core.Bool.{Bool, true, false, not, ◌||◌}
use mathlib.Core.List.{List, [], ◌∷◌}
use lib.Dec.{T}
use lib.IntN.{ℤ}
use lib.Ieee.{Float, nan, inf, fin, eq}
use lib.Ieee.Fits.{and_l, and_r}
use lib.Ieee.Scale.{finite}
use Rattle.exact.specs.Fraction.{ℚ, nat, ◌≈q◌, leqb}
use Rattle.exact.specs.FloatValue.{value}
use Rattle.exact.specs.Float64.{◌≤f◌, ◌=f◌, +0}
use Rattle.exact.specs.Size.{exp2, Range}
use Rattle.exact.proofs.FractionLaws.{≈_trans, lit_≤}
use Rattle.exact.proofs.Comparisons.{eq→≈}
use Rattle.exact.proofs.Constants.{value_+0}
use Rattle.exact.proofs.Computing.{computing}
use Rattle.exact.proofs.Ranges as Ranges
use Rattle.device.specs.Limits.{within}
use Rattle.keys.specs.Ranges.{range_of, outside_range}
use Rattle.keys.specs.declared.Key.{Key}
use Rattle.keys.specs.declared.Range as Keys
use Rattle.keys.specs.declared.Range.TheVariants.{Within, ZeroOr}
use Rattle.temperature_sizes.proofs.Intervals.{every, part}
use Rattle.accepted.specs.Bounds.{InRange}
use Rattle.parameter_sizes.specs.ParameterSizes.{FromZero, Between, ZeroOrBetween}
use Rattle.parameter_sizes.proofs.SizeLaws.{range_from_zero, range_between, zero_zero_or, between_zero_or}

-- ---- what passes a test
passed : (b : Bool) → not b ≡ false → T b
passed true e = tt
passed false e = subst T e tt

zero_or_not : (b c : Bool) → T (b || c) → T b ⊎ T c
zero_or_not true c t = inl tt
zero_or_not false c t = inr t

-- a float that equals 0 is finite, and its value is 0
equals_zero : (x : Float) → T (x =f +0) → T (finite x) × (value x ≈q nat 0)
unfolding computing eq
equals_zero nan t = absurd t
equals_zero (inf s) t = absurd t
equals_zero (fin s m e) t = (tt, ≈_trans (eq→≈ (fin s m e) +0 tt tt t) value_+0)

-- ---- a float between two others, whose values lie between lo and hi
abbrev pub end_tests : Float → Float → ℚ → ℚ → List Bool
end_tests l g lo hi = finite l ∷ finite g ∷ leqb lo (value l) ∷ leqb (value g) hi ∷ []

pub within_range : (x l g : Float) (lo hi : ℚ) → T (every (end_tests l g lo hi)) → T (within x l g) → Range x lo hi
within_range x l g lo hi t w =
    let ok = part (end_tests l g lo hi) t in
    Ranges.range_weaken (Ranges.range_between l x g (ok 0) (ok 1) (and_l (l ≤f x) (x ≤f g) w) (and_r (l ≤f x) (x ≤f g) w)) (lit_≤ (ok 2)) (lit_≤ (ok 3))

-- what a range of the table lets pass
passes_within : (x l g : Float) → outside_range (Within l g) x ≡ false → T (within x l g)
passes_within x l g e = passed (within x l g) e

passes_zero_or : (x l g : Float) → outside_range (ZeroOr l g) x ≡ false → T (x =f +0) ⊎ T (within x l g)
passes_zero_or x l g e = zero_or_not (x =f +0) (within x l g) (passed ((x =f +0) || within x l g) e)

-- ---- between two fractions
abbrev pub range_tests : Keys.Range → ℚ → ℚ → List Bool
range_tests (Within l g) lo hi = end_tests l g lo hi
range_tests (ZeroOr l g) lo hi = leqb lo (nat 0) ∷ leqb (nat 0) hi ∷ every (end_tests l g lo hi) ∷ []

pub passes_range : (r : Keys.Range) {x : Float} (lo hi : ℚ) → T (every (range_tests r lo hi)) → outside_range r x ≡ false → Range x lo hi
passes_range (Within l g) {x} lo hi t e = within_range x l g lo hi t (passes_within x l g e)
passes_range (ZeroOr l g) {x} lo hi t e =
    let ok = part (range_tests (ZeroOr l g) lo hi) t in
    elim (passes_zero_or x l g e) [
      | inl z ↦ let v = equals_zero x z in Ranges.range_weaken (Ranges.range_is v.0 v.1) (lit_≤ (ok 0)) (lit_≤ (ok 1))
      | inr w ↦ within_range x l g lo hi (ok 2) w
    ]

module _ (k : Key) {x : Float} where
  pub in_range : (lo hi : ℚ) → T (every (range_tests (range_of k) lo hi)) → InRange k x → Range x lo hi
  in_range lo hi t h = passes_range (range_of k) lo hi t h.passes

  -- ---- by powers of two
  pub from_zero : (a : ℤ) → T (every (range_tests (range_of k) (nat 0) (exp2 a))) → InRange k x → FromZero x a
  from_zero a t h = range_from_zero a (in_range (nat 0) (exp2 a) t h)

  pub between : (b a : ℤ) → T (every (range_tests (range_of k) (exp2 b) (exp2 a))) → InRange k x → Between x b a
  between b a t h = range_between b a (in_range (exp2 b) (exp2 a) t h)

-- the ends of a range, 0 apart
abbrev pub zero_or_tests : Keys.Range → ℤ → ℤ → List Bool
zero_or_tests (Within l g) b a = end_tests l g (exp2 b) (exp2 a)
zero_or_tests (ZeroOr l g) b a = end_tests l g (exp2 b) (exp2 a)

passes_zero_or_between : (r : Keys.Range) {x : Float} (b a : ℤ) → T (every (zero_or_tests r b a)) → outside_range r x ≡ false → ZeroOrBetween x b a
passes_zero_or_between (Within l g) {x} b a t e = between_zero_or (range_between b a (within_range x l g (exp2 b) (exp2 a) t (passes_within x l g e)))
passes_zero_or_between (ZeroOr l g) {x} b a t e =
    elim (passes_zero_or x l g e) [
      | inl z ↦ let v = equals_zero x z in zero_zero_or b a v.0 v.1
      | inr w ↦ between_zero_or (range_between b a (within_range x l g (exp2 b) (exp2 a) t w))
    ]

pub zero_or_between : (k : Key) {x : Float} (b a : ℤ) → T (every (zero_or_tests (range_of k) b a)) → InRange k x → ZeroOrBetween x b a
zero_or_between k b a t h = passes_zero_or_between (range_of k) b a t h.passes
