-- The size of an exponent decides what `raised` answers: NaN beyond 4, 1 below 2^-53, else the power. Assumes nothing.
use mathlib.Core.Path.{◌≡◌, refl, sym, ap, ◌∙◌, subst}
use mathlib.Core.Bool.{Bool, true, false, cond, not}
use Prim.Native.Nat.{ℕ, zero, suc, ◌*◌, ◌/◌, ◌^◌, ◌≤◌, ◌<◌}
use native.Mathlib.Nat.{zero-lt-suc, mul-pos}
use native.Mathlib.Omega.{arith}
use lib.Dec.{T, eqb, eqb→eq, lt→ltb}
use borrow.Author.Tests.{le-ltb}
use lib.IntN.{ℤ}
use lib.Ieee.{Float, nan, inf, fin, binary64, fits, up, down, le, lt, eq, is_nan, neg, of_bits, div}
use lib.Ieee.Fits.{and_l, up_pos}
use lib.Ieee.Positive.{above, above_of_le}
use Rattle.exact.specs.Float64.{◌<f◌, ◌=f◌, +0, +1}
use Rattle.exact.proofs.Tests.{clash}
use Rattle.exponential.specs.Exponential.{least, fixed_of}
use Rattle.exponential.proofs.Ranges.{cond_yes, cond_else}
use Rattle.exponential.proofs.WholeDigits.{under_least, under_greatest, none}
use Rattle.power.specs.Power.{four, minus_four, size_of, down_of, power_of, product_of, raised_of}
use Rattle.power.proofs.Signs.{plus_above, minus_below, zero_equal, opposite}

is_false : (b : Bool) → (b ≡ true → ⊥) → b ≡ false
is_false true f = absurd (f refl)
is_false false f = refl

not_zero : (s : Bool) (m : ℕ) (e : ℤ) → eq (fin s (suc m) e) +0 ≡ false
unfolding eq of_bits
not_zero s m e = is_false _ (λ h. some (suc m) (up e) (down e) (zero-lt-suc m) (up_pos e) (eqb→eq (suc m * up e * 1) (0 * 1 * down e) (and_l (eqb (suc m * up e * 1) (0 * 1 * down e)) _ (subst T (sym h) tt))))
  where
    some : (m u d : ℕ) → 0 < m → 0 < u → m * u * 1 ≡ 0 * 1 * d → ⊥
    some m u d h k e = omega (arith, mul-pos h k)

-- ---- a number above zero, and one below
abbrev pub P : ℕ → ℤ → Float
P m e = fin false (suc m) e

abbrev pub N : ℕ → ℤ → Float
N m e = fin true (suc m) e

plus_not_low : (m : ℕ) (e : ℤ) → lt (P m e) minus_four ≡ false
unfolding lt of_bits neg
plus_not_low m e = refl

minus_not_high : (m : ℕ) (e : ℤ) → lt four (N m e) ≡ false
unfolding lt of_bits
minus_not_high m e = refl

minus_not_above : (m : ℕ) (e : ℤ) → lt +0 (N m e) ≡ false
unfolding lt of_bits
minus_not_above m e = refl

minus_low : (m : ℕ) (e : ℤ) → lt (N m e) minus_four ≡ lt four (P m e)
unfolding lt of_bits neg
minus_low m e = refl

neg_minus : (m : ℕ) (e : ℤ) → neg (N m e) ≡ P m e
unfolding neg
neg_minus m e = refl

size_plus : (m : ℕ) (e : ℤ) → size_of (P m e) ≡ P m e
size_plus m e = ap (λ (t : Bool). cond t (neg (P m e)) (P m e)) (opposite (P m e) tt (plus_above m e))

size_minus : (m : ℕ) (e : ℤ) → size_of (N m e) ≡ P m e
size_minus m e = ap (λ (t : Bool). cond t (neg (N m e)) (N m e)) (minus_below m e) ∙ neg_minus m e

-- a zero is not above zero
zero_size : (s : Bool) (e : ℤ) → le least (size_of (fin s zero e)) ≡ true → ⊥
unfolding of_bits neg
zero_size s e h = go (lt (fin s zero e) +0) s (above_of_le least (size_of (fin s zero e)) tt (subst T (sym h) tt))
  where
    go : (b s : Bool) → T (above (cond b (neg (fin s zero e)) (fin s zero e))) → ⊥
    go true true t = t
    go true false t = t
    go false true t = t
    go false false t = t

-- below 2^-53 the power is 1
nothing : (d : Bool) → power_of 0 d ≡ +1
unfolding power_of div of_bits
nothing true = refl
nothing false = refl

no_product : (p : Float) (v : ℕ) → 0 ≡ fixed_of p → product_of p v ≡ 0
unfolding product_of
no_product p v h = ap (λ (n : ℕ). n * 256 * v / 2 ^ 64) (sym h) ∙ none' v
  where
    none' : (v : ℕ) → 0 * 256 * v / 2 ^ 64 ≡ 0
    none' v = omega arith

small_power : (m : ℕ) (e : ℤ) (v : ℕ) (d : Bool) → T (fits binary64 (P m e)) → le least (P m e) ≡ false → +1 ≡ cond (four <f P m e) nan (power_of (product_of (P m e) v) d)
unfolding lt of_bits
small_power m e v d f g =
    let p = lt→ltb 0 (suc m) (zero-lt-suc m) in
    cond_else _ _ _ _ (not_high (under_least (P m e) p g)) (sym (ap (λ (t : ℕ). power_of t d) (no_product (P m e) v (none (P m e) f p (under_greatest (P m e) p g) g)) ∙ nothing d))
  where
    few : (n d : ℕ) → n * 2 ^ 53 < d → n * 1 ≤ 4 * d
    few n d h = omega arith

    not_high : suc m * up e * 2 ^ 53 < down e → lt four (P m e) ≡ false
    not_high h = le-ltb (4 * down e) (suc m * up e * 1) (few (suc m * up e) (down e) h)

module _ (v : ℕ) (below : Bool) where
  abbrev pub Answer : Float → Float
  Answer p = cond (p =f +0) +1 (raised_of v below p)

  -- what the sign picks
  pub plus : (m : ℕ) (e : ℤ) → Answer (P m e) ≡ cond (four <f P m e) nan (power_of (product_of (P m e) v) below)
  unfolding raised_of
  plus m e = λ i. cond (not_zero false m e i) +1 (cond (four <f P m e) nan (cond (plus_not_low m e i) nan (cond (plus_above m e i) (power_of (product_of (P m e) v) below) (cond (P m e <f +0) (power_of (product_of (neg (P m e)) v) (not below)) nan))))

  pub minus : (m : ℕ) (e : ℤ) → Answer (N m e) ≡ cond (four <f P m e) nan (power_of (product_of (P m e) v) (not below))
  unfolding raised_of
  minus m e = λ i. cond (not_zero true m e i) +1 (cond (minus_not_high m e i) nan (cond (minus_low m e i) nan (cond (minus_not_above m e i) (power_of (product_of (N m e) v) below) (cond (minus_below m e i) (power_of (product_of (neg_minus m e i) v) (not below)) nan))))

  pub too_large : (p : Float) → le least (size_of p) ≡ true → lt four (size_of p) ≡ true → nan ≡ Answer p
  unfolding raised_of eq lt of_bits neg
  too_large nan g h = refl
  too_large (inf true) g h = refl
  too_large (inf false) g h = refl
  too_large (fin s zero e) g h = absurd (zero_size s e g)
  too_large (fin false (suc m) e) g h = cond_yes _ _ _ (sym (ap (lt four) (size_plus m e)) ∙ h) ∙ sym (plus m e)
  too_large (fin true (suc m) e) g h = cond_yes _ _ _ (sym (ap (lt four) (size_minus m e)) ∙ h) ∙ sym (minus m e)

  pub within : (p : Float) → le least (size_of p) ≡ true → lt four (size_of p) ≡ false → power_of (product_of (size_of p) v) (down_of below p) ≡ Answer p
  unfolding le lt eq of_bits neg
  within nan g h = clash (sym g)
  within (inf true) g h = clash h
  within (inf false) g h = clash h
  within (fin s zero e) g h = absurd (zero_size s e g)
  within (fin false (suc m) e) g h =
      (λ i. power_of (product_of (size_plus m e i) v) (cond (opposite (P m e) tt (plus_above m e) i) (not below) below))
      ∙ cond_else _ _ _ _ (sym (ap (lt four) (size_plus m e)) ∙ h) refl
      ∙ sym (plus m e)
  within (fin true (suc m) e) g h =
      (λ i. power_of (product_of (size_minus m e i) v) (cond (minus_below m e i) (not below) below))
      ∙ cond_else _ _ _ _ (sym (ap (lt four) (size_minus m e)) ∙ h) refl
      ∙ sym (minus m e)

  pub tiny : (p : Float) → T (fits binary64 p) → le least (size_of p) ≡ false → is_nan p ≡ false → +1 ≡ Answer p
  unfolding le lt eq is_nan of_bits neg fits
  tiny nan f g h = clash h
  tiny (inf true) f g h = clash g
  tiny (inf false) f g h = clash g
  tiny (fin s zero e) f g h = cond_yes _ _ _ (zero_equal s e)
  tiny (fin false (suc m) e) f g h = small_power m e v below f (sym (ap (le least) (size_plus m e)) ∙ g) ∙ sym (plus m e)
  tiny (fin true (suc m) e) f g h = small_power m e v (not below) f (sym (ap (le least) (size_minus m e)) ∙ g) ∙ sym (minus m e)

  pub no_number : (p : Float) → is_nan p ≡ true → nan ≡ Answer p
  unfolding raised_of eq lt is_nan of_bits neg
  no_number nan h = refl
  no_number (inf s) h = clash (sym h)
  no_number (fin s m e) h = clash (sym h)
