-- A base that compares equal to 1 is positive and finite, so that every power of it is 1. Assumes nothing.
use mathlib.Core.Path.{◌≡◌, refl, sym, ap, ◌∙◌, subst}
use mathlib.Core.Bool.{Bool, true, false, ◌||◌, true≢false}
use Prim.Native.Nat.{ℕ, zero, suc, ◌*◌, ◌<◌}
use native.Mathlib.Nat.{lt_irrefl, zero-mul, mul-pos, zero-lt-suc}
use lib.Dec.{T, eqb, eqb→eq}
use lib.IntN.{ℤ, pos}
use lib.Ieee.{Float, nan, inf, fin, lt, eq, of_bits, up, down}
use lib.Ieee.Fits.{up_pos, down_pos, and_l, and_r}
use borrow.Author.Tests.{lt-ltb}
use Rattle.exact.specs.Float64.{◌=f◌, +1}
use Rattle.logarithm.specs.Logarithm.{log_of}
use Rattle.logarithm.specs.declared.Log.{Log}
use Rattle.logarithm.specs.declared.Log.TheVariants.{BaseOne}
use Rattle.power.specs.Power.{pow_from, pow_of}
use Rattle.power.proofs.SpecialCases.{log_one, one_anyway}

none_is_none : {b : ℕ} → 0 ≡ b → 0 < b → ⊥
none_is_none e h = lt_irrefl 0 (subst (λ (k : ℕ). 0 < k) (sym e) h)

-- what equals a number above zero is above zero
above_zero : (s : Bool) (m : ℕ) (e : ℤ) (n : ℕ) (d z : ℤ) → 0 < n → T (eq (fin s m e) (fin false n d)) → lt (fin false 0 z) (fin s m e) ≡ true
unfolding eq lt
above_zero true m e n d z h t =
    let a = m * up e * down d in
    let b = n * up d * down e in
    let none = eqb→eq a 0 (and_r (eqb a b) (false || eqb a 0) t) in
    let same = eqb→eq a b (and_l (eqb a b) (false || eqb a 0) t) in
    absurd (none_is_none (sym none ∙ same) (mul-pos (mul-pos h (up_pos d)) (down_pos e)))
above_zero false zero e n d z h t =
    let a = 0 * up e * down d in
    let b = n * up d * down e in
    let none : a ≡ 0 = ap (λ (k : ℕ). k * down d) (zero-mul (up e)) ∙ zero-mul (down d) in
    absurd (none_is_none (sym none ∙ eqb→eq a b (and_l (eqb a b) true t)) (mul-pos (mul-pos h (up_pos d)) (down_pos e)))
above_zero false (suc k) e n d z h t =
    let none : 0 * up z * down e ≡ 0 = ap (λ (j : ℕ). j * down e) (zero-mul (up z)) ∙ zero-mul (down e) in
    rw (none) (lt-ltb 0 (suc k * up e * down z) (mul-pos (mul-pos (zero-lt-suc k) (up_pos e)) (down_pos z)))

base_one : (b : Float) → (b =f +1) ≡ true → log_of b ≡ BaseOne
unfolding eq lt of_bits
base_one nan e = absurd (true≢false (sym e))
base_one (inf s) e = absurd (true≢false (sym e))
base_one (fin s m x) e = log_one (fin s m x) (above_zero s m x 1 (pos 0) (pos 0) (zero-lt-suc 0) (subst T (sym e) tt)) refl e

pub one_to : (b p : Float) → (b =f +1) ≡ true → pow_of b p ≡ +1
unfolding pow_of
one_to b p e = ap (λ (l : Log). pow_from l p) (base_one b e) ∙ one_anyway p
