-- What the tests of `exp` say of an argument. Assumes nothing.
use Rattle.std.proofs.Common.{◌≡◌, ℕ, zero, suc, ◌+◌, ◌*◌, ◌<◌, Bool, true, false, cond, T, ℤ, sym, ap, ◌∙◌, zero-lt-suc, zero-mul, arith, ltb→lt, lt→ltb, nltb→le}
use lib.Ieee.{Float, nan, inf, fin, lt, le, neg, up, down, of_bits}
use lib.Ieee.Positive.{positive, cross→le}
use lib.Ieee.Positive as ieee-positive
use Rattle.exact.specs.Float64.{+0}
use Rattle.exact.proofs.Tests.{holds, fails}

pub cond_yes : {X : Type 0} (b : Bool) (x y : X) → b ≡ true → x ≡ cond b x y
cond_yes b x y e = ap (λ (t : Bool). cond t x y) (sym e)

pub cond_then : {X : Type 0} (b : Bool) (x y z : X) → b ≡ true → z ≡ x → z ≡ cond b x y
cond_then b x y z e h = h ∙ ap (λ (t : Bool). cond t x y) (sym e)

pub cond_else : {X : Type 0} (b : Bool) (x y z : X) → b ≡ false → z ≡ y → z ≡ cond b x y
cond_else b x y z e h = h ∙ ap (λ (t : Bool). cond t x y) (sym e)

none : (x y : ℕ) → x < y → y ≡ 0 → ⊥
none x y h e = omega arith

-- a bound above 0
module _ (n : ℕ) (k : ℤ) (g : T (positive (fin false n k))) where
  pub not_above : (x : Float) → T (ieee-positive.above x) → lt (fin false n k) x ≡ false → T (positive x) × T (le x (fin false n k))
  unfolding lt
  not_above nan a f = absurd a
  not_above (inf true) a f = absurd a
  not_above (inf false) a f = absurd (fails f)
  not_above (fin true m d) a f = absurd a
  not_above (fin false m d) a f = (a, cross→le (fin false m d) (fin false n k) a g (nltb→le (n * up k * down d) (m * up d * down k) (fails f)))

  -- above 0 and not above the bound
  pub from_zero : (x : Float) → lt +0 x ≡ true → lt (fin false n k) x ≡ false → T (positive x) × T (le x (fin false n k))
  unfolding lt of_bits
  from_zero nan e f = absurd (holds e)
  from_zero (inf true) e f = absurd (holds e)
  from_zero (inf false) e f = not_above (inf false) tt f
  from_zero (fin true m d) e f = absurd (holds e)
  from_zero (fin false zero d) e f = absurd (none (0 * 1 * down d) (0 * up d * 1) (ltb→lt (0 * 1 * down d) (0 * up d * 1) (holds e)) (ap (λ (z : ℕ). z * 1) (zero-mul (up d))))
  from_zero (fin false (suc m) d) e f = not_above (fin false (suc m) d) (lt→ltb 0 (suc m) (zero-lt-suc m)) f

  -- below 0 and not below the bound's negative
  pub to_zero : (x : Float) → lt x +0 ≡ true → lt x (neg (fin false n k)) ≡ false → T (positive (neg x)) × T (le (neg x) (fin false n k))
  unfolding lt of_bits neg
  to_zero nan e f = absurd (holds e)
  to_zero (inf true) e f = not_above (inf false) tt f
  to_zero (inf false) e f = absurd (holds e)
  to_zero (fin false m d) e f = absurd (none (m * up d * 1) (0 * 1 * down d) (ltb→lt (m * up d * 1) (0 * 1 * down d) (holds e)) (zero-mul (down d)))
  to_zero (fin true zero d) e f = absurd (none 0 (0 * up d * 1 + 0 * 1 * down d) (ltb→lt 0 (0 * up d * 1 + 0 * 1 * down d) (holds e)) (none' (up d) (down d)))
    where
      none' : (u d : ℕ) → 0 * u * 1 + 0 * 1 * d ≡ 0
      none' u d = omega arith
  to_zero (fin true (suc m) d) e f = not_above (fin false (suc m) d) (lt→ltb 0 (suc m) (zero-lt-suc m)) f
