-- The exact cases of pow, and where it is no number. Assumes nothing.
use mathlib.Core.Path.{◌≡◌, refl, sym, ap, ◌∙◌, subst}
use mathlib.Core.Bool.{Bool, true, false, cond, not}
use Prim.Native.Nat.{ℕ, ◌/◌, ◌^◌}
use lib.Dec.{ltb}
use lib.Ieee.{Float, nan, inf, binary64, lt, eq, neg, to_bits, of_bits}
use Rattle.exact.specs.Float64.{◌<f◌, ◌=f◌, +0, +1}
use Rattle.logarithm.specs.Logarithm.{log_above, log_below, log_bits, log_of}
use Rattle.logarithm.specs.declared.Log.{Log}
use Rattle.logarithm.specs.declared.Log.TheVariants.{Undefined, BaseZero, BaseOne, Above, Below}
use Rattle.power.specs.Power.{four, minus_four, power_of, product_of, raised_of, pow_from, nonzero_power, pow_of}
use Rattle.power.specs.SpecialCases.{SpecialCases}

not_zero : (l : Log) (p : Float) → (p =f +0) ≡ false → pow_from l p ≡ nonzero_power l p
unfolding pow_from
not_zero l p e = ap (λ (s : Bool). cond s +1 (nonzero_power l p)) e

of : (b p : Float) {l : Log} → log_of b ≡ l → (p =f +0) ≡ false → pow_of b p ≡ nonzero_power l p
unfolding pow_of
of b p {l} e f = ap (λ (k : Log). pow_from k p) e ∙ not_zero l p f

abbrev positive_case : Float → Bool → Bool → Log
positive_case b s t = cond s (cond t BaseOne (log_bits (to_bits binary64 b))) Undefined

log_positive : (b : Float) → (+0 <f b) ≡ true → log_of b ≡ positive_case b (b <f inf false) (b =f +1)
unfolding log_of
log_positive b e = ap (λ (s : Bool). cond s (cond (b <f inf false) (cond (b =f +1) BaseOne (log_bits (to_bits binary64 b))) Undefined) (cond (b =f +0) BaseZero Undefined)) e

log_not_positive : (b : Float) → (+0 <f b) ≡ false → log_of b ≡ cond (b =f +0) BaseZero Undefined
unfolding log_of
log_not_positive b e = ap (λ (s : Bool). cond s (cond (b <f inf false) (cond (b =f +1) BaseOne (log_bits (to_bits binary64 b))) Undefined) (cond (b =f +0) BaseZero Undefined)) e

pub log_one : (b : Float) → (+0 <f b) ≡ true → (b <f inf false) ≡ true → (b =f +1) ≡ true → log_of b ≡ BaseOne
log_one b e f g = log_positive b e ∙ (λ i. positive_case b (f i) (g i))

pub one_anyway : (p : Float) → pow_from BaseOne p ≡ +1
unfolding pow_from
one_anyway p = same (p =f +0)
  where
    same : (s : Bool) → cond s +1 +1 ≡ +1
    same true = refl
    same false = refl

zero_exponent : (b p : Float) → (p =f +0) ≡ true → pow_of b p ≡ +1
unfolding pow_of pow_from
zero_exponent b p e = ap (λ (s : Bool). cond s +1 (nonzero_power (log_of b) p)) e

one_base : (b p : Float) → (+0 <f b) ≡ true → (b <f inf false) ≡ true → (b =f +1) ≡ true → pow_of b p ≡ +1
unfolding pow_of
one_base b p e f g = ap (λ (k : Log). pow_from k p) (log_one b e f g) ∙ one_anyway p

-- ---- exponents out of range
data Ordinary : Log → Type 0 where
  undefined : Ordinary Undefined
  over : (v : ℕ) → Ordinary (Above v)
  under : (v : ℕ) → Ordinary (Below v)

choose : (s : Bool) (x y : Log) → Ordinary x → Ordinary y → Ordinary (cond s x y)
choose true x y p q = p
choose false x y p q = q

bits : (b : ℕ) → Ordinary (log_bits b)
unfolding log_bits log_above log_below
bits b = choose (ltb b (2 ^ 52)) _ _ (under _) (choose (ltb (b / 2 ^ 52) 1023) _ _ (under _) (over _))

ordinary : (b : Float) → (b =f +1) ≡ false → (b =f +0) ≡ false → Ordinary (log_of b)
unfolding log_of
ordinary b e f =
    choose (+0 <f b) _ _
    (choose (b <f inf false) _ _ (subst (λ (s : Bool). Ordinary (cond s BaseOne (log_bits (to_bits binary64 b)))) (sym e) (bits (to_bits binary64 b))) undefined)
    (subst (λ (s : Bool). Ordinary (cond s BaseZero Undefined)) (sym f) undefined)

raised_large : (v : ℕ) (less : Bool) (p : Float) → (four <f p) ≡ true → raised_of v less p ≡ nan
unfolding raised_of
raised_large v less p e = ap (λ (s : Bool). cond s nan (cond (p <f minus_four) nan (cond (+0 <f p) (power_of (product_of p v) less) (cond (p <f +0) (power_of (product_of (neg p) v) (not less)) nan)))) e

raised_small : (v : ℕ) (less : Bool) (p : Float) → (p <f minus_four) ≡ true → raised_of v less p ≡ nan
unfolding raised_of
raised_small v less p e = ap (λ (s : Bool). cond (four <f p) nan (cond s nan (cond (+0 <f p) (power_of (product_of p v) less) (cond (p <f +0) (power_of (product_of (neg p) v) (not less)) nan)))) e ∙ same (four <f p)
  where
    same : (s : Bool) → cond s nan nan ≡ nan
    same true = refl
    same false = refl

raised_nan : (v : ℕ) (less : Bool) → raised_of v less nan ≡ nan
unfolding raised_of lt of_bits neg
raised_nan v less = refl

by_log : (p : Float) → ((v : ℕ) (less : Bool) → raised_of v less p ≡ nan) → (l : Log) → Ordinary l → nonzero_power l p ≡ nan
by_log p r l undefined = refl
by_log p r l (over v) = r v false
by_log p r l (under v) = r v true

nan_not_zero : (nan =f +0) ≡ false
unfolding eq of_bits
nan_not_zero = refl

pub pow_special_cases : SpecialCases
pow_special_cases = record {
  exponent_zero = zero_exponent;
  base_one = one_base;
  base_zero = λ b p e f g h. of b p (log_not_positive b e ∙ ap (λ (s : Bool). cond s BaseZero Undefined) f) g ∙ ap (λ (s : Bool). cond s +0 nan) h;
  base_zero_nan = λ b p e f g h. of b p (log_not_positive b e ∙ ap (λ (s : Bool). cond s BaseZero Undefined) f) g ∙ ap (λ (s : Bool). cond s +0 nan) h;
  base_not_positive = λ b p e f g. of b p (log_not_positive b e ∙ ap (λ (s : Bool). cond s BaseZero Undefined) f) g;
  base_infinite = λ b p e f g. of b p (log_positive b e ∙ ap (λ (s : Bool). positive_case b s (b =f +1)) f) g;
  exponent_above_four = λ b p e f g h. of b p refl g ∙ by_log p (λ v less. raised_large v less p h) (log_of b) (ordinary b e f);
  exponent_below_minus_four = λ b p e f g h. of b p refl g ∙ by_log p (λ v less. raised_small v less p h) (log_of b) (ordinary b e f);
  exponent_nan = λ b e f. of b nan refl nan_not_zero ∙ by_log nan raised_nan (log_of b) (ordinary b e f);
}
