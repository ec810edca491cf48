-- Bit patterns above zero's and below the infinity's: what they stand for, and that the numbers above zero and below the infinity have such. Assumes nothing.
use mathlib.Core.Path.{◌≡◌, refl, sym, ap, ◌∙◌, subst}
use mathlib.Core.Bool.{Bool, true, false, cond, not}
use Prim.Native.Nat.{ℕ, zero, suc, ◌+◌, ◌-◌, ◌*◌, ◌/◌, ◌%◌, ◌^◌, ◌≤◌, ◌<◌}
use native.Mathlib.Nat.{lt_of_not-le, not-le_of_lt, mod-eq_of_lt, add_comm, mul-one}
use native.Mathlib.Decide.{dec_le}
use native.Mathlib.Omega.{arith}
use lib.IntN.{pos}
use lib.Dec.{T, leb, ltb, eqb, leb→le, le→leb, eqb→eq, not_T}
use lib.Ieee.{Float, nan, inf, fin, binary64, odd, of_fields, of_bits, to_bits, fits, is_nan, nan_bits, lt}
use lib.Ieee.Bits.{is_false, is_true, cond_no, nan_bits_above, of_bits-to_bits}
use lib.Ieee.Exact.{HasValue, odd_sign}
use borrow.Author.Tests.{lt-ltb, le-ltb}
use Rattle.exact.proofs.Tests.{clash}

abbrev pub zero_float : Float
zero_float = fin false 0 (pos 0)

of_bits_is : (b : ℕ) → of_bits binary64 b ≡ of_fields binary64 (leb (2 ^ 63) b) (b % 2 ^ 63 / 2 ^ 52) (b % 2 ^ 52)
unfolding of_bits
of_bits_is b = refl

unsigned : (b : ℕ) → b < 2 ^ 63 → of_bits binary64 b ≡ of_fields binary64 false (b / 2 ^ 52) (b % 2 ^ 52)
unsigned b h =
    of_bits_is b
    ∙ ap (λ (s : Bool). of_fields binary64 s (b % 2 ^ 63 / 2 ^ 52) (b % 2 ^ 52)) (is_false (leb (2 ^ 63) b) (not_T (leb (2 ^ 63) b) (λ (u : T (leb (2 ^ 63) b)). not-le_of_lt h (leb→le (2 ^ 63) b u))))
    ∙ ap (λ (n : ℕ). of_fields binary64 false (n / 2 ^ 52) (b % 2 ^ 52)) (mod-eq_of_lt h)

-- a pattern below that of the infinity is no NaN's
pub no_nan : (n : ℕ) → n < 2047 * 2 ^ 52 → T (not (nan_bits binary64 n))
no_nan n h = subst (λ (b : Bool). T (not b)) (sym (nan_bits_above binary64 n)) (subst (λ (b : Bool). T (not b)) (sym (le-ltb (2047 * 2 ^ 52) (n % 2 ^ 63) (omega arith))) tt)

-- ---- the number that such a pattern stands for, in units of the smallest value, 2^-1074
unfoldable pub units_of : ℕ → ℕ
units_of b = cond (ltb b (2 ^ 52)) b ((b % 2 ^ 52 + 2 ^ 52) * 2 ^ (b / 2 ^ 52 - 1))

pub units_small : (b : ℕ) → b < 2 ^ 52 → units_of b ≡ b
unfolding units_of
units_small b h = ap (λ (t : Bool). cond t b ((b % 2 ^ 52 + 2 ^ 52) * 2 ^ (b / 2 ^ 52 - 1))) (lt-ltb b (2 ^ 52) h)

pub units_large : (b : ℕ) → 2 ^ 52 ≤ b → units_of b ≡ (b % 2 ^ 52 + 2 ^ 52) * 2 ^ (b / 2 ^ 52 - 1)
unfolding units_of
units_large b h = ap (λ (t : Bool). cond t b ((b % 2 ^ 52 + 2 ^ 52) * 2 ^ (b / 2 ^ 52 - 1))) (le-ltb b (2 ^ 52) h)

small_fields : (t : ℕ) → HasValue (of_fields binary64 false 0 t) false t (2 ^ 1074)
unfolding of_fields
small_fields t = subst (λ (n : ℕ). HasValue (odd 53 false t 0 1074) false n (2 ^ 1074)) (mul-one t) (odd_sign 53 false t 0 1074)

normal_fields : (x t : ℕ) → suc x < 2047 → HasValue (of_fields binary64 false (suc x) t) false ((2 ^ 52 + t) * 2 ^ x) (2 ^ 1074)
unfolding of_fields
normal_fields x t h =
    subst (λ (y : Float). HasValue y false ((2 ^ 52 + t) * 2 ^ x) (2 ^ 1074))
    (sym (cond_no (eqb (suc x) 2047) (cond (eqb t 0) (inf false) nan) (odd 53 false (2 ^ 52 + t) x 1074) (not_T (eqb (suc x) 2047) (λ (u : T (eqb (suc x) 2047)). differ x h (eqb→eq (suc x) 2047 u)))))
    (odd_sign 53 false (2 ^ 52 + t) x 1074)
  where
    differ : (x : ℕ) → suc x < 2047 → suc x ≡ 2047 → ⊥
    differ x h e = omega arith

-- b's digits with an exponent's field x stand for n units
abbrev Stands : ℕ → ℕ → ℕ → Type 0
Stands b x n = HasValue (of_fields binary64 false x (b % 2 ^ 52)) false n (2 ^ 1074)

pub units_of_pattern : (b : ℕ) → b < 2047 * 2 ^ 52 → HasValue (of_bits binary64 b) false (units_of b) (2 ^ 1074)
units_of_pattern b h = subst (λ (y : Float). HasValue y false (units_of b) (2 ^ 1074)) (sym (unsigned b (omega arith))) (either (dec_le (2 ^ 52) b))
  where
    either : Dec (2 ^ 52 ≤ b) → Stands b (b / 2 ^ 52) (units_of b)
    either (yes g) =
        let next : suc (b / 2 ^ 52 - 1) ≡ b / 2 ^ 52 = omega arith in
        subst (λ (n : ℕ). Stands b (b / 2 ^ 52) n) (ap (λ (z : ℕ). z * 2 ^ (b / 2 ^ 52 - 1)) (add_comm (2 ^ 52) (b % 2 ^ 52)) ∙ sym (units_large b g))
        (subst (λ (x : ℕ). Stands b x ((2 ^ 52 + b % 2 ^ 52) * 2 ^ (b / 2 ^ 52 - 1))) next (normal_fields (b / 2 ^ 52 - 1) (b % 2 ^ 52) (omega arith)))
    either (no f) =
        let g : b < 2 ^ 52 = lt_of_not-le f in
        let none : 0 ≡ b / 2 ^ 52 = omega arith in
        let all : b % 2 ^ 52 ≡ b = omega arith in
        subst (λ (n : ℕ). Stands b (b / 2 ^ 52) n) (all ∙ sym (units_small b g)) (subst (λ (x : ℕ). Stands b x (b % 2 ^ 52)) none (small_fields (b % 2 ^ 52)))

-- ---- a number above zero and below the infinity
pub above_no_nan : (x : Float) → lt zero_float x ≡ true → T (not (is_nan x))
unfolding lt is_nan
above_no_nan nan e = clash (sym e)
above_no_nan (inf s) e = tt
above_no_nan (fin s m d) e = tt

odd_neg : (q k : ℕ) → lt zero_float (odd 53 true q k 1074) ≡ false
unfolding lt odd
odd_neg zero k = refl
odd_neg (suc q) k = refl

neg_fields : (x t : ℕ) → lt zero_float (of_fields binary64 true x t) ≡ false
unfolding of_fields lt
neg_fields zero t = odd_neg t 0
neg_fields (suc x) t = go (eqb (suc x) 2047) (eqb t 0)
  where
    go : (p q : Bool) → lt zero_float (cond p (cond q (inf true) nan) (odd 53 true (2 ^ 52 + t) x 1074)) ≡ false
    go true true = refl
    go true false = refl
    go false q = odd_neg (2 ^ 52 + t) x

top_fields : (t : ℕ) → lt (of_fields binary64 false 2047 t) (inf false) ≡ false
unfolding of_fields lt
top_fields t = go (eqb t 0)
  where
    go : (q : Bool) → lt (cond q (inf false) nan) (inf false) ≡ false
    go true = refl
    go false = refl

not_zero : lt zero_float (of_bits binary64 0) ≡ false
unfolding lt of_bits
not_zero = refl

module _ (b : ℕ) where
  signed : 2 ^ 63 ≤ b → lt zero_float (of_bits binary64 b) ≡ false
  signed k =
      ap (λ (y : Float). lt zero_float y) (of_bits_is b ∙ ap (λ (t : Bool). of_fields binary64 t (b % 2 ^ 63 / 2 ^ 52) (b % 2 ^ 52)) (is_true (leb (2 ^ 63) b) (le→leb (2 ^ 63) b k)))
      ∙ neg_fields (b % 2 ^ 63 / 2 ^ 52) (b % 2 ^ 52)

  pub pattern_above : lt zero_float (of_bits binary64 b) ≡ true → lt (of_bits binary64 b) (inf false) ≡ true → (0 < b) × (b < 2047 * 2 ^ 52)
  pattern_above e f = sign (dec_le (2 ^ 63) b)
    where
      low : Dec (b ≤ 0) → 0 < b
      low (yes h) = let z : b ≡ 0 = omega arith in clash (sym e ∙ ap (λ (z : ℕ). lt zero_float (of_bits binary64 z)) z ∙ not_zero)
      low (no g) = lt_of_not-le g

      high : b < 2 ^ 63 → Dec (2047 * 2 ^ 52 ≤ b) → b < 2047 * 2 ^ 52
      high k (yes h) =
          let ones : b / 2 ^ 52 ≡ 2047 = omega arith in
          clash (sym f ∙ ap (λ (y : Float). lt y (inf false)) (unsigned b k) ∙ ap (λ (x : ℕ). lt (of_fields binary64 false x (b % 2 ^ 52)) (inf false)) ones ∙ top_fields (b % 2 ^ 52))
      high k (no g) = lt_of_not-le g

      sign : Dec (2 ^ 63 ≤ b) → (0 < b) × (b < 2047 * 2 ^ 52)
      sign (yes h) = clash (sym e ∙ signed h)
      sign (no g) = (low (dec_le b 0), high (lt_of_not-le g) (dec_le (2047 * 2 ^ 52) b))

-- of a float that the format holds
pub bits_above : (x : Float) → T (fits binary64 x) → lt zero_float x ≡ true → lt x (inf false) ≡ true → (0 < to_bits binary64 x) × (to_bits binary64 x < 2047 * 2 ^ 52)
bits_above x t e f =
    let back = of_bits-to_bits binary64 x t in
    pattern_above (to_bits binary64 x) (ap (λ (y : Float). lt zero_float y) back ∙ e) (ap (λ (y : Float). lt y (inf false)) back ∙ f)
