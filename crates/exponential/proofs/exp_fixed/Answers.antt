use lib.Ieee.{binary64, of_bits}
use Rattle.exponential.specs.Mantissa.{hi, mant_of}
use Rattle.exponential.specs.Exponential.{exp_fixed, pattern_of, place_of, rest_of, ln_two, per_ln_two}
use Rattle.exponential.proofs.Mantissa.{mant_ge}
use Rattle.exponential.proofs.Whole.{place_below, rest_lt, place_le, mant_under}
use Rattle.exponential.proofs.exp_fixed.Goals as goal
-- `exponential::exp_fixed` meets its contract. Assumes nothing.
use Rattle.std.proofs.Common.{◌≡◌, ℕ, ◌+◌, ◌-◌, ◌*◌, ◌/◌, ◌%◌, ◌^◌, ◌<◌, ◌≤◌, sym, ap, ◌∙◌, subst, lt_of_lt_of_le, arith, lit≤}

-- r, found by words alone: h is what `mulhi` gave, q what `mullo` gave
rest_is : (x h q r : ℕ) → x ≤ 700 * 2 ^ 53 → h ≡ hi x per_ln_two → q ≡ h / 2 ^ 52 * ln_two % 2 ^ 64 → r < 2 ^ 64 → (r + q) % 2 ^ 64 ≡ x * 2 ^ 11 % 2 ^ 64 → r ≡ rest_of x
unfolding rest_of
rest_is x h q r l e f u g = word (x * 2 ^ 11) (place_of x * ln_two) q r (place_below x) (lt_of_lt_of_le (rest_lt x l) (lit≤ tt)) (f ∙ ap (λ (z : ℕ). z / 2 ^ 52 * ln_two % 2 ^ 64) e) u g
  where
    word : (a p q r : ℕ) → p ≤ a → a - p < 2 ^ 64 → q ≡ p % 2 ^ 64 → r < 2 ^ 64 → (r + q) % 2 ^ 64 ≡ a % 2 ^ 64 → r ≡ a - p
    word a p q r h k e u g = omega arith

pub mant-requires : goal.mant-requires
mant-requires c =
    let x = c.args.x in
    let r = rest_is x _ _ _ c.requires c.mulhi-k.ensures c.mullo.ensures c.wrapping_sub_u64-r.type_inv c.wrapping_sub_u64-r.ensures.value in
    subst (λ (z : ℕ). z < 178 * 2 ^ 56) (sym r) (rest_lt x c.requires)

pub assembled-requires : goal.assembled-requires
assembled-requires c =
    let x = c.args.x in
    let h = c.requires in
    let m = c.mant.ensures ∙ ap mant_of (rest_is x _ _ _ h c.mulhi-k.ensures c.mullo.ensures c.wrapping_sub_u64-r.type_inv c.wrapping_sub_u64-r.ensures.value) in (
      subst (λ (z : ℕ). 2 ^ 62 ≤ z) (sym m) (mant_ge (rest_of x) (rest_lt x h)),
      subst (λ (z : ℕ). z < 2 ^ 63 + 2 ^ 10) (sym m) (mant_under x h),
      subst (λ (z : ℕ). z / 2 ^ 52 ≤ 1010) (sym c.mulhi-k.ensures) (place_le x h),
    )

pub returns : goal.returns
unfolding exp_fixed
returns c =
    let x = c.args.x in
    let m = c.mant.ensures ∙ ap mant_of (rest_is x _ _ _ c.requires c.mulhi-k.ensures c.mullo.ensures c.wrapping_sub_u64-r.type_inv c.wrapping_sub_u64-r.ensures.value) in
    c.assembled.ensures ∙ (λ i. of_bits binary64 (pattern_of (m i) (c.mulhi-k.ensures i / 2 ^ 52)))
