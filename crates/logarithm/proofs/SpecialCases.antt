-- ln 1 = 0, and where ln and ln_1p are no number. Assumes nothing.
use Rattle.std.proofs.Common.{◌≡◌, Bool, false, cond, refl, ap}
use lib.Ieee.{Float, nan, inf, add, le, lt, eq, of_bits}
use Rattle.exact.specs.Float64.{◌⊕◌, ◌≤f◌, +0, +1}
use Rattle.logarithm.specs.Logarithm.{least_normal, log_of, ln_from, ln_of, ln1p_of}
use Rattle.logarithm.specs.SpecialCases.{SpecialCases}

one : ln_of +1 ≡ +0
unfolding ln_of log_of of_bits le lt eq
one = refl

not_normal : (x : Float) → (least_normal ≤f x) ≡ false → ln_of x ≡ nan
unfolding ln_of
not_normal x e = ap (λ (b : Bool). cond b (ln_from (log_of x)) nan) e

infinity : ln_of (inf false) ≡ nan
unfolding ln_of log_of of_bits le lt eq
infinity = refl

negative : (a : Float) → (+0 ≤f a) ≡ false → ln1p_of a ≡ nan
unfolding ln1p_of
negative a e = ap (λ (b : Bool). cond b (ln_of (+1 ⊕ a)) nan) e

infinity_1p : ln1p_of (inf false) ≡ nan
unfolding ln1p_of ln_of log_of of_bits le lt eq add
infinity_1p = refl

pub special_cases : SpecialCases
special_cases = record { ln_of_one = one; ln_not_normal = not_normal; ln_of_infinity = infinity; ln_1p_negative = negative; ln_1p_of_infinity = infinity_1p }
