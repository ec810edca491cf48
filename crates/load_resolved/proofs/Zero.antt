-- Adding a zero to a float of the format: -0 changes nothing, and a second +0 nothing more.
use mathlib.Core.Path.{◌≡◌, refl, sym, ap, ◌∙◌, subst}
use mathlib.Core.Bool.{Bool, true, false, ◌&&◌}
use Prim.Native.Nat.{ℕ, zero, suc, ◌+◌, ◌-◌, ◌*◌, ◌%◌, ◌^◌, ◌≤◌, ◌<◌}
use native.Mathlib.Nat.{le_of_eq, lt_of_le_of_lt, lt_of_lt_of_le, lt_of_mul-lt-mul_right, mul-lt-mul_of_pos_right, mul-one, one-mul, mul_assoc, mul_left_comm, mul-pos, zero-mul, add-zero, zero-lt-suc, lt_irrefl, pow-suc, pow-succ', eq_of_mul-eq-mul_right}
use native.Mathlib.Omega.{arith}
use lib.Dec.{T, leb, ltb, eqb, leb→le, ltb→lt, eqb→eq}
use lib.Pow.{pow-add, pow_pos}
use lib.IntN.{ℤ, pos, negsuc}
use lib.Ieee.{Float, nan, inf, fin, Format, binary64, prec, emax, low, up, down, round, sum, add, neg, fits, of_bits}
use lib.Ieee.Exact.{HasValue, round_exact}
use lib.Ieee.Fits.{down_pos, up_pos, round-fits, and_l, and_r}
use borrow.Author.Tests.{lt-ltb, le-ltb}
use Rattle.exact.specs.Float64.{◌⊕◌, +0}
use Rattle.exact.proofs.Rounding.{pow_le_inv}

-- ---- a number is written in one way
even_odd : (m t : ℕ) → m % 2 ≡ 1 → m ≡ 2 * t → ⊥
even_odd m t o h = omega arith

odd_pow : (m n a b : ℕ) → m % 2 ≡ 1 → n % 2 ≡ 1 → m * 2 ^ a ≡ n * 2 ^ b → (m ≡ n) × (a ≡ b)
odd_pow m n zero zero o p h = (sym (mul-one m) ∙ h ∙ mul-one n, refl)
odd_pow m n zero (suc b) o p h = absurd (even_odd m (n * 2 ^ b) o (sym (mul-one m) ∙ h ∙ ap (λ (x : ℕ). n * x) (pow-succ' 2 b) ∙ mul_left_comm n 2 (2 ^ b)))
odd_pow m n (suc a) zero o p h = absurd (even_odd n (m * 2 ^ a) p (sym (mul-one n) ∙ sym h ∙ ap (λ (x : ℕ). m * x) (pow-succ' 2 a) ∙ mul_left_comm m 2 (2 ^ a)))
odd_pow m n (suc a) (suc b) o p h =
    let r = odd_pow m n a b o p (eq_of_mul-eq-mul_right 2 (zero-lt-suc 1) (m * 2 ^ a) (n * 2 ^ b)
    (mul_assoc m (2 ^ a) 2 ∙ ap (λ (x : ℕ). m * x) (sym (pow-suc 2 a)) ∙ h ∙ ap (λ (x : ℕ). n * x) (pow-suc 2 b) ∙ sym (mul_assoc n (2 ^ b) 2))) in
    (r.0, ap suc r.1)

-- 2 ^ e is 2 ^ above e / 2 ^ under e
abbrev above : ℤ → ℕ
above (pos k) = k
above (negsuc k) = 0

abbrev under : ℤ → ℕ
under (pos k) = 0
under (negsuc k) = suc k

up_is : (e : ℤ) → up e ≡ 2 ^ above e
up_is (pos k) = refl
up_is (negsuc k) = refl

down_is : (e : ℤ) → down e ≡ 2 ^ under e
down_is (pos k) = refl
down_is (negsuc k) = refl

same_exponent : (e g : ℤ) → above e + under g ≡ above g + under e → e ≡ g
same_exponent (pos a) (pos b) h = let h' : a ≡ b = omega arith in ap pos h'
same_exponent (pos a) (negsuc b) h = absurd (omega arith)
same_exponent (negsuc a) (pos b) h = absurd (omega arith)
same_exponent (negsuc a) (negsuc b) h = let h' : a ≡ b = omega arith in ap negsuc h'

as_power : (m : ℕ) (e g : ℤ) → m * up e * down g ≡ m * 2 ^ (above e + under g)
as_power m e g =
    ap (λ (x : ℕ). m * x * down g) (up_is e) ∙ ap (λ (x : ℕ). m * 2 ^ above e * x) (down_is g) ∙ mul_assoc m (2 ^ above e) (2 ^ under g) ∙ ap (λ (x : ℕ). m * x) (sym (pow-add 2 (above e) (under g)))

unique : (s : Bool) (m n : ℕ) (e g : ℤ) → m % 2 ≡ 1 → n % 2 ≡ 1 → m * up e * down g ≡ n * up g * down e → fin s m e ≡ fin s n g
unique s m n e g o p h =
    let r = odd_pow m n (above e + under g) (above g + under e) o p (sym (as_power m e g) ∙ h ∙ as_power n g e) in
    λ i. fin s (r.0 i) (same_exponent e g r.1 i)

-- ---- rounding changes no number of the format
place_of : (e : ℤ) (l : ℕ) → down e ≤ 2 ^ l → (j : ℕ) × (up e * 2 ^ l ≡ 2 ^ j * down e)
place_of (pos k) l h = (k + l, sym (pow-add 2 k l) ∙ sym (mul-one (2 ^ (k + l))))
place_of (negsuc k) l h = (l - suc k, one-mul (2 ^ l) ∙ sym (sym (pow-add 2 (l - suc k) (suc k)) ∙ ap (λ (t : ℕ). 2 ^ t) (back l (suc k) (pow_le_inv (suc k) l h))))
  where
    back : (a b : ℕ) → b ≤ a → a - b + b ≡ a
    back a b h = omega arith

same : (m u d j l : ℕ) → u * l ≡ j * d → m * j * d ≡ m * u * l
same m u d j l g = omega (arith, ap (λ (t : ℕ). m * t) g)

in_range : (m u d j l t o : ℕ) → 0 < d → 0 < l → u * l ≡ j * d → o ≡ l * t → m * u < t * d → m * j < o
in_range m u d j l t o D L g e c = lt_of_mul-lt-mul_right d (lt_of_le_of_lt (le_of_eq (same m u d j l g)) (lt_of_lt_of_le (mul-lt-mul_of_pos_right c L) (le_of_eq (omega (arith, ap (λ (k : ℕ). k * d) e)))))

module _ (f : Format) (s : Bool) (m : ℕ) (e : ℤ) (h : T (fits f (fin s (suc m) e))) where
  abbrev A : Bool
  A = eqb (suc m % 2) 1

  abbrev B : Bool
  B = ltb (suc m) (2 ^ prec f)

  abbrev C : Bool
  C = leb (down e) (2 ^ low f)

  abbrev D : Bool
  D = ltb (suc m * up e) (2 ^ suc (emax f) * down e)

  all : T (A && B && C && D)
  unfolding fits
  all = h

  is_odd : suc m % 2 ≡ 1
  is_odd = eqb→eq (suc m % 2) 1 (and_l A B (and_l (A && B) C (and_l (A && B && C) D all)))

  is_few : suc m < 2 ^ prec f
  is_few = ltb→lt (suc m) (2 ^ prec f) (and_r A B (and_l (A && B) C (and_l (A && B && C) D all)))

  is_fine : down e ≤ 2 ^ low f
  is_fine = leb→le (down e) (2 ^ low f) (and_r (A && B) C (and_l (A && B && C) D all))

  is_small : suc m * up e < 2 ^ suc (emax f) * down e
  is_small = ltb→lt (suc m * up e) (2 ^ suc (emax f) * down e) (and_r (A && B && C) D all)

  rounded_value : HasValue (round f s (suc m * up e) (down e)) s (suc m * up e) (down e)
  rounded_value =
      let (j, g) = place_of e (low f) is_fine in
      round_exact f s (suc m * up e) (down e) (suc m) j (down_pos e) is_few
      (in_range (suc m) (up e) (down e) (2 ^ j) (2 ^ low f) (2 ^ suc (emax f)) (2 ^ (low f + suc (emax f))) (down_pos e) (pow_pos (low f)) g (pow-add 2 (low f) (suc (emax f))) is_small)
      (sym (same (suc m) (up e) (down e) (2 ^ j) (2 ^ low f) g))

odd_of : (f : Format) (s : Bool) (m : ℕ) (e : ℤ) → T (fits f (fin s (suc m) e)) → suc m % 2 ≡ 1
odd_of f s m e h = is_odd f s m e h

with_value : (f : Format) (x : Float) (s : Bool) (m : ℕ) (e : ℤ) → T (fits f x) → T (fits f (fin s (suc m) e)) → HasValue x s (suc m * up e) (down e) → x ≡ fin s (suc m) e
with_value f nan s m e p q v = absurd v
with_value f (inf t) s m e p q v = absurd v
with_value f (fin t zero g) s m e p q v =
    absurd (lt_irrefl 0 (subst (λ (x : ℕ). 0 < x) (sym v.1 ∙ ap (λ (y : ℕ). y * down e) (zero-mul (up g)) ∙ zero-mul (down e)) (mul-pos (mul-pos (zero-lt-suc m) (up_pos e)) (down_pos g))))
with_value f (fin t (suc n) g) s m e p q v = ap (λ (b : Bool). fin b (suc n) g) v.0 ∙ unique s (suc n) (suc m) g e (odd_of f t n g p) (odd_of f s m e q) v.1

round_same : (f : Format) (s : Bool) (m : ℕ) (e : ℤ) → T (fits f (fin s (suc m) e)) → round f s (suc m * up e) (down e) ≡ fin s (suc m) e
round_same f s m e h = with_value f (round f s (suc m * up e) (down e)) s m e (round-fits f s (suc m * up e) (down e)) h (rounded_value f s m e h)

-- ---- a zero added
sub_zero : (a : ℕ) → a - 0 ≡ a
sub_zero a = omega arith

sum_nothing : (f : Format) (s t : Bool) (a c : ℕ) → 0 < a → sum f s a t 0 c ≡ round f s a c
unfolding sum
sum_nothing f true true a c h = ap (λ (x : ℕ). round f true x c) (add-zero a)
sum_nothing f false false a c h = ap (λ (x : ℕ). round f false x c) (add-zero a)
sum_nothing f true false a c h = rw (le-ltb a 0 (omega arith), lt-ltb 0 a h) (ap (λ (x : ℕ). round f true x c) (sub_zero a))
sum_nothing f false true a c h = rw (le-ltb a 0 (omega arith)) (ap (λ (x : ℕ). round f false x c) (sub_zero a))

-- a number other than zero stays as it is
nonzero : (s t : Bool) (m : ℕ) (e : ℤ) → T (fits binary64 (fin s (suc m) e)) → fin s (suc m) e ⊕ fin t zero (pos zero) ≡ fin s (suc m) e
unfolding add
nonzero s t m e h =
    ap (λ (x : ℕ). sum binary64 s x t (0 * 1 * down e) (down e * 1)) (mul-one (suc m * up e))
    ∙ ap (λ (x : ℕ). sum binary64 s (suc m * up e) t x (down e * 1)) (zero-mul (down e))
    ∙ ap (λ (x : ℕ). sum binary64 s (suc m * up e) t 0 x) (mul-one (down e))
    ∙ sum_nothing binary64 s t (suc m * up e) (down e) (mul-pos (zero-lt-suc m) (up_pos e))
    ∙ round_same binary64 s m e h

flat : (e : ℤ) → up e * down e ≡ 1 → e ≡ pos 0
flat (pos zero) h = refl
flat (pos (suc k)) h = absurd (even_odd (2 ^ suc k * 1) (2 ^ k) (ap (λ (x : ℕ). x % 2) h) (mul-one (2 ^ suc k) ∙ pow-succ' 2 k))
flat (negsuc k) h = absurd (even_odd (1 * 2 ^ suc k) (2 ^ k) (ap (λ (x : ℕ). x % 2) h) (one-mul (2 ^ suc k) ∙ pow-succ' 2 k))

zero_exponent : (s : Bool) (e : ℤ) → T (fits binary64 (fin s zero e)) → e ≡ pos 0
unfolding fits
zero_exponent s e h = flat e (eqb→eq (up e * down e) 1 h)

minus_zero_to_zero : (s : Bool) → fin s zero (pos zero) ⊕ neg +0 ≡ fin s zero (pos zero)
unfolding of_bits neg add
minus_zero_to_zero true = refl
minus_zero_to_zero false = refl

pub minus_zero : (x : Float) → T (fits binary64 x) → x ⊕ neg +0 ≡ x
unfolding of_bits neg add
minus_zero nan h = refl
minus_zero (inf s) h = refl
minus_zero (fin s zero e) h = subst (λ (g : ℤ). fin s zero g ⊕ neg +0 ≡ fin s zero g) (sym (zero_exponent s e h)) (minus_zero_to_zero s)
minus_zero (fin s (suc m) e) h = nonzero s true m e h

zero_to_zero : (s : Bool) → (fin s zero (pos zero) ⊕ +0) ⊕ +0 ≡ fin s zero (pos zero) ⊕ +0
unfolding of_bits neg add
zero_to_zero true = refl
zero_to_zero false = refl

pub zero_again : (x : Float) → T (fits binary64 x) → (x ⊕ +0) ⊕ +0 ≡ x ⊕ +0
unfolding of_bits neg add
zero_again nan h = refl
zero_again (inf s) h = refl
zero_again (fin s zero e) h = subst (λ (g : ℤ). (fin s zero g ⊕ +0) ⊕ +0 ≡ fin s zero g ⊕ +0) (sym (zero_exponent s e h)) (zero_to_zero s)
zero_again (fin s (suc m) e) h = ap (λ (y : Float). y ⊕ +0) (nonzero s false m e h)
