-- The tests of `exp`, each on the sign and the size at once, and what the exponential is by them. Assumes nothing.
use Rattle.std.proofs.Common.{◌≡◌, ℕ, zero, suc, ◌*◌, ◌^◌, ◌<◌, Bool, true, false, ◌&&◌, ◌||◌, T, eqb, ltb, ℤ, sym, refl, ap, ◌∙◌, zero-lt-suc, arith, eqb→eq, lt→ltb, eq-eqb, ne_eqb, eqb-true}
use borrow.Author.Tests.{eqb-false}
use lib.Ieee.{Float, nan, inf, fin, binary64, fits, up, down, le, lt, eq, is_nan, neg, div, of_bits}
use lib.Ieee.Fits.{and_l, and_r, down_pos}
use lib.Ieee.Positive.{positive, above_of_le, le→cross}
use Rattle.exact.specs.Float64.{◌⊘◌, +1}
use Rattle.exact.proofs.Tests.{holds, clash}
use Rattle.exponential.specs.Exponential.{least, greatest, fixed_of, exp_fixed, exp_above, exp_of}
use Rattle.exponential.proofs.Ranges.{not_above}
use Rattle.exponential.proofs.WholeDigits.{under_greatest, none}
use Rattle.exponential.proofs.Accuracy.{exp_special_cases, exp_is_above, exp_is_below, exp_at_zero}

-- ---- a test of x against a negative bound is one of -x against the bound
turned : (a b : ℕ) → eqb a b ≡ eqb b a
turned a b = by_test (eqb a b) refl
  where
    by_test : (t : Bool) → eqb a b ≡ t → t ≡ eqb b a
    by_test true e = sym (eq-eqb b a (sym (eqb-true a b e)))
    by_test false e = sym (ne_eqb b a (λ q. eqb-false a b e (sym q)))

no_level : (a d : ℕ) → 0 < d → T (eqb a (1 * 1 * d) && (false || eqb a 0)) → ⊥
no_level a d h t = never (eqb→eq a (1 * 1 * d) (and_l (eqb a (1 * 1 * d)) _ t)) (eqb→eq a 0 (and_r (eqb a (1 * 1 * d)) _ t))
  where
    never : a ≡ 1 * 1 * d → a ≡ 0 → ⊥
    never e z = omega arith

pub at_most : (x : Float) → le x (neg least) ≡ true → T (le least (neg x))
unfolding le lt eq neg of_bits
at_most nan h = clash (sym h)
at_most (inf true) h = tt
at_most (inf false) h = clash (sym h)
at_most (fin false m e) h = absurd (no_level (m * up e * 2 ^ 53) (down e) (down_pos e) (holds h))
at_most (fin true m e) h = holds (ap (λ (t : Bool). ltb (1 * 1 * down e) (m * up e * 2 ^ 53) || (t && true)) (turned (1 * 1 * down e) (m * up e * 2 ^ 53)) ∙ h)

not_at_most : (m : ℕ) (e : ℤ) → le (fin true m e) (neg least) ≡ false → le least (fin false m e) ≡ false
unfolding le lt eq neg of_bits
not_at_most m e h = ap (λ (t : Bool). ltb (1 * 1 * down e) (m * up e * 2 ^ 53) || (t && true)) (turned (1 * 1 * down e) (m * up e * 2 ^ 53)) ∙ h

mirrored : (x : Float) → lt greatest (neg x) ≡ lt x (neg greatest)
unfolding lt neg of_bits
mirrored nan = refl
mirrored (inf true) = refl
mirrored (inf false) = refl
mirrored (fin true m e) = refl
mirrored (fin false m e) = refl

-- ---- from 2^-53 to 700, above zero and below
pub plus_range : (x : Float) → le least x ≡ true → lt greatest x ≡ false → T (positive x) × T (le x greatest)
unfolding of_bits
plus_range x h g = not_above _ _ tt x (above_of_le least x tt (holds h)) g

pub minus_range : (x : Float) → le x (neg least) ≡ true → lt x (neg greatest) ≡ false → T (positive (neg x)) × T (le (neg x) greatest)
unfolding of_bits
minus_range x h g = not_above _ _ tt (neg x) (above_of_le least (neg x) tt (at_most x h)) (mirrored x ∙ g)

pub exp_of_plus : (x : Float) → T (positive x) → T (le x greatest) → exp_fixed (fixed_of x) ≡ exp_of x
unfolding exp_above of_bits
exp_of_plus nan p q = absurd p
exp_of_plus (inf s) p q = absurd p
exp_of_plus (fin true m e) p q = absurd p
exp_of_plus (fin false zero e) p q = absurd p
exp_of_plus (fin false (suc m) e) p q = sym (exp_is_above m e (le→cross (fin false (suc m) e) greatest p tt q))

pub exp_of_minus : (x : Float) → T (positive (neg x)) → T (le (neg x) greatest) → +1 ⊘ exp_fixed (fixed_of (neg x)) ≡ exp_of x
unfolding exp_above neg of_bits
exp_of_minus nan p q = absurd p
exp_of_minus (inf s) p q = absurd p
exp_of_minus (fin false m e) p q = absurd p
exp_of_minus (fin true zero e) p q = absurd p
exp_of_minus (fin true (suc m) e) p q = sym (exp_is_below m e (le→cross (fin false (suc m) e) greatest p tt q))

-- ---- nearer to zero than 2^-53 there is no whole part, and the exponential is 1
at_none : +1 ≡ exp_fixed 0
unfolding exp_fixed of_bits
at_none = refl

inverse_at_none : +1 ≡ +1 ⊘ exp_fixed 0
unfolding exp_fixed div of_bits
inverse_at_none = refl

pub exp_near_zero : (x : Float) → T (fits binary64 x) → le x (neg least) ≡ false → le least x ≡ false → is_nan x ≡ false → +1 ≡ exp_of x
unfolding le lt is_nan neg of_bits fits
exp_near_zero nan f h g s = clash s
exp_near_zero (inf true) f h g s = clash h
exp_near_zero (inf false) f h g s = clash g
exp_near_zero (fin t zero e) f h g s = sym (exp_at_zero e t)
exp_near_zero (fin false (suc m) e) f h g s =
    let p = lt→ltb 0 (suc m) (zero-lt-suc m) in
    let q = under_greatest (fin false (suc m) e) p g in
    at_none ∙ ap exp_fixed (none (fin false (suc m) e) f p q g) ∙ exp_of_plus (fin false (suc m) e) p q
exp_near_zero (fin true (suc m) e) f h g s =
    let p = lt→ltb 0 (suc m) (zero-lt-suc m) in
    let l = not_at_most (suc m) e h in
    let q = under_greatest (fin false (suc m) e) p l in
    inverse_at_none ∙ ap (λ (n : ℕ). +1 ⊘ exp_fixed n) (none (fin false (suc m) e) f p q l) ∙ exp_of_minus (fin true (suc m) e) p q

pub exp_of_nan : (x : Float) → is_nan x ≡ true → nan ≡ exp_of x
unfolding is_nan
exp_of_nan nan h = sym exp_special_cases.not_a_number
exp_of_nan (inf s) h = clash (sym h)
exp_of_nan (fin s m e) h = clash (sym h)
