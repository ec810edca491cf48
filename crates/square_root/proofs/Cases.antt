-- What each test of `sqrt` says of a float.
use Rattle.std.proofs.Common.{◌≡◌, ℕ, zero, suc, ◌*◌, ◌<◌, Bool, true, false, ◌||◌, T, eqb, ℤ, sym, refl, ap, ◌∙◌, subst, zero-lt-suc, mul-pos, zero-mul, arith, eqb→eq, lt-ltb}
use mathlib.Core.Bool.{beq}
use lib.Ieee.{Float, nan, inf, fin, up, down, lt, eq, level}
use lib.Ieee.Fits.{and_l, up_pos}
use Rattle.exact.proofs.Tests.{clash}
use Rattle.exact.proofs.PositivePatterns.{zero_float}
use Rattle.square_root.specs.SquareRoot.{sqrt_of}

-- above zero and not below the infinity: the infinity
pub infinite : (x : Float) → lt zero_float x ≡ true → lt x (inf false) ≡ false → x ≡ sqrt_of x
unfolding lt sqrt_of
infinite nan e f = clash (sym e)
infinite (inf false) e f = refl
infinite (inf true) e f = clash (sym e)
infinite (fin s m d) e f = clash f

positive : (m : ℕ) (d : ℤ) → 0 < suc m * up d * 1
positive m d = mul-pos (mul-pos (zero-lt-suc m) (up_pos d)) (zero-lt-suc 0)

pub above_zero : (m : ℕ) (d : ℤ) → lt zero_float (fin false (suc m) d) ≡ true
unfolding lt
above_zero m d = lt-ltb (0 * 1 * down d) (suc m * up d * 1) (subst (λ (z : ℕ). z < suc m * up d * 1) (sym (zero-mul (down d))) (positive m d))

-- equal to zero: a zero
pub is_zero : (x : Float) → eq x zero_float ≡ true → x ≡ sqrt_of x
unfolding eq sqrt_of
is_zero nan e = clash (sym e)
is_zero (inf s) e = clash (sym e)
is_zero (fin s zero d) e = refl
is_zero (fin s (suc m) d) e =
    absurd (never (suc m * up d * 1) (0 * 1 * down d) (positive m d)
    (and_l (eqb (suc m * up d * 1) (0 * 1 * down d)) (beq s false || eqb (suc m * up d * 1) 0) (subst T (sym e) tt)) (zero-mul (down d)))
  where
    out : (x y : ℕ) → 0 < x → x ≡ y → y ≡ 0 → ⊥
    out x y h e z = omega arith

    never : (x y : ℕ) → 0 < x → T (eqb x y) → y ≡ 0 → ⊥
    never x y h t z = out x y h (eqb→eq x y t) z

zero_level : (s : Bool) (a b : ℕ) → a ≡ 0 → b ≡ 0 → level s a false b ≡ true
zero_level s a b p q = (λ i. level s (p i) false (q i)) ∙ at s
  where
    at : (s : Bool) → level s 0 false 0 ≡ true
    at true = refl
    at false = refl

-- neither above zero nor equal to it
pub otherwise : (x : Float) → lt zero_float x ≡ false → eq x zero_float ≡ false → nan ≡ sqrt_of x
unfolding lt eq sqrt_of
otherwise nan e f = refl
otherwise (inf false) e f = clash e
otherwise (inf true) e f = refl
otherwise (fin s zero d) e f = clash (sym (zero_level s (0 * up d * 1) (0 * 1 * down d) (ap (λ (z : ℕ). z * 1) (zero-mul (up d))) (zero-mul (down d))) ∙ f)
otherwise (fin true (suc m) d) e f = refl
otherwise (fin false (suc m) d) e f = clash (sym (above_zero m d) ∙ e)
