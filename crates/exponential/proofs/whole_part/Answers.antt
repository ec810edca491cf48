use lib.Bits.{and_mask, mask_lt}
use lib.Ieee.{Float, binary64, fits, to_bits}
use mir.Facts.{Fits-bits}
use Rattle.exponential.proofs.WholeDigits.{not_below, no_nan, exponent_le, exponent_ge, by_digits}
use Rattle.exponential.proofs.whole_part.Goals as goal
-- `exponential::whole_part` meets its contract. Assumes nothing.
use Rattle.std.proofs.Common.{◌≡◌, true, ℕ, ◌+◌, ◌-◌, ◌*◌, ◌/◌, ◌^◌, ◌<◌, ◌≤◌, T, sym, ap, ◌∙◌, subst, le_trans, arith, lit≤}

held : (x : Float) → fits binary64 x ≡ true → T (fits binary64 x)
held x e = subst T (sym e) tt

pub float_to_bits-bits : goal.float_to_bits-bits
float_to_bits-bits c = no_nan c.args.x (not_below c.args.x c.requires.0 c.requires.1)

pub overflow_add-result : goal.overflow_add-result
overflow_add-result c = Fits-bits 64 tt (sum _ (mask_lt (to_bits binary64 c.args.x) 52))
  where
    sum : (t : ℕ) → t < 2 ^ 52 → t + 2 ^ 52 < 2 ^ 64
    sum t h = omega arith

pub overflow_mul-result : goal.overflow_mul-result
overflow_mul-result c = Fits-bits 64 tt (product _ (mask_lt (to_bits binary64 c.args.x) 52))
  where
    product : (t : ℕ) → t < 2 ^ 52 → (t + 2 ^ 52) * 2048 < 2 ^ 64
    product t h = omega arith

pub overflow_sub-result : goal.overflow_sub-result
overflow_sub-result c = le_trans (exponent_le c.args.x (held _ c.well_formed.0.1) (not_below c.args.x c.requires.0 c.requires.1) c.requires.1) (lit≤ tt)

pub overflow_shr-result-2 : goal.overflow_shr-result-2
overflow_shr-result-2 c = few _ (exponent_ge c.args.x (held _ c.well_formed.0.1) (not_below c.args.x c.requires.0 c.requires.1) c.requires.1 c.requires.0)
  where
    few : (e : ℕ) → 970 ≤ e → 1033 - e < 64
    few e h = omega arith

pub returns : goal.returns
returns c =
    let x = c.args.x in
    ap (λ (t : ℕ). (t + 2 ^ 52) * 2048 / 2 ^ (1033 - to_bits binary64 x / 2 ^ 52)) (and_mask (to_bits binary64 x) 52) ∙ by_digits x (held _ c.well_formed.0.1) (not_below c.args.x c.requires.0 c.requires.1) c.requires.1 c.requires.0
