use lib.Count.{count_leading_zeros, leading_le}
use mir.Facts.{Fits-bits}
use Rattle.exact.proofs.LeadingDigits.{lead}
use Rattle.exponential.proofs.Ranges.{cond_yes, cond_else}
use Rattle.logarithm.specs.declared.Log.TheVariants.{Above, Below}
use Rattle.logarithm.specs.FixedPoint.{ln_mant_of, twos_of}
use Rattle.logarithm.specs.Logarithm.{log_above, log_below, log_bits}
use Rattle.logarithm.proofs.size_of_bits.Goals as goal
-- `logarithm::size_of_bits` meets its contract. Assumes nothing.
use Rattle.std.proofs.Common.{ℕ, ◌+◌, ◌-◌, ◌*◌, ◌/◌, ◌^◌, ◌<◌, ◌≤◌, sym, refl, ap, ◌∙◌, subst, le_trans, arith, lit≤, Fits-le, Fits-lit, le-ltb, lt-ltb}

pub overflow_cast-z : goal.overflow_cast-z
overflow_cast-z c = Fits-le (leading_le 64 c.args.bits) (Fits-lit tt)

pub overflow_sub-units : goal.overflow_sub-units
overflow_sub-units c = le_trans (lit≤ tt) (lead 1 tt c.args.bits c.requires.0 c.if-bits-lt4503599627370496.true).low

pub overflow_shl-units : goal.overflow_shl-units
overflow_shl-units c = shift (count_leading_zeros 64 c.args.bits) (lead 1 tt c.args.bits c.requires.0 c.if-bits-lt4503599627370496.true).high
  where
    shift : (z : ℕ) → z ≤ 63 → z - 1 < 64
    shift z h = omega arith

pub overflow_add-z : goal.overflow_add-z
overflow_add-z c = Fits-bits 64 tt (sum _ _ (lit≤ tt) (leading_le 64 c.args.bits))
  where
    sum : (k z : ℕ) → k ≤ 1011 → z ≤ 64 → k + z < 2 ^ 64
    sum k z h g = omega (arith, h, g)

pub invariant_of-log_below : goal.invariant_of-log_below
invariant_of-log_below c =
    let l = lead 1 tt c.args.bits c.requires.0 c.if-bits-lt4503599627370496.true in
    record { from_one = subst (λ (x : ℕ). 2 ^ 62 ≤ x) (sym l.same) l.from; below_two = subst (λ (x : ℕ). x < 2 ^ 63) (sym l.same) l.below }

pub log_below-requires : goal.log_below-requires
log_below-requires c =
    let l = lead 1 tt c.args.bits c.requires.0 c.if-bits-lt4503599627370496.true in
    (low _ _ (lit≤ tt), high _ _ (lit≤ tt) l.high)
  where
    low : (k z : ℕ) → 1 ≤ k → 0 < k + z
    low k z h = omega (arith, h)

    high : (k z : ℕ) → k ≤ 1011 → z ≤ 63 → k + z ≤ 1100
    high k z h g = omega (arith, h, g)

pub returns-then-bits-lt4503599627370496 : goal.returns-then-bits-lt4503599627370496
unfolding log_bits log_below
returns-then-bits-lt4503599627370496 c =
    let b = c.args.bits in
    let l = lead 1 tt b c.requires.0 c.if-bits-lt4503599627370496.true in
    sym (ap Below (c.log_below.ensures ∙ ap (λ (m : ℕ). twos_of (1011 + count_leading_zeros 64 b) - ln_mant_of m / 2048) l.same) ∙ cond_yes _ _ _ (lt-ltb b (2 ^ 52) c.if-bits-lt4503599627370496.true))
    ∙ cond_yes _ _ _ (lt-ltb (b / 2 ^ 52) 1023 (field b c.if-bits-lt4503599627370496.true))
  where
    field : (b : ℕ) → b < 2 ^ 52 → b / 2 ^ 52 < 1023
    field b h = omega arith

pub overflow_sub-field : goal.overflow_sub-field
overflow_sub-field c = omega arith

pub log_below-requires-then-field-lt1023 : goal.log_below-requires-then-field-lt1023
log_below-requires-then-field-lt1023 c = (some _ c.if-field-lt1023.true, few _)
  where
    some : (f : ℕ) → f < 1023 → 0 < 1023 - f
    some f h = omega arith

    few : (f : ℕ) → 1023 - f ≤ 1100
    few f = omega arith

pub returns-then-field-lt1023 : goal.returns-then-field-lt1023
unfolding log_bits log_below
returns-then-field-lt1023 c =
    let b = c.args.bits in
    let e = lt-ltb (b / 2 ^ 52) 1023 c.if-field-lt1023.true in
    sym
    (ap Below (c.log_below-then-field-lt1023.ensures ∙ ap (λ (m : ℕ). twos_of (1023 - b / 2 ^ 52) - ln_mant_of m / 2048) c.digits-m.ensures)
    ∙ cond_else _ _ _ _ (le-ltb b (2 ^ 52) c.if-bits-lt4503599627370496.false) (cond_yes _ _ _ e))
    ∙ cond_yes _ _ _ e

pub log_above-requires : goal.log_above-requires
log_above-requires c = field _ c.requires.1
  where
    field : (b : ℕ) → b < 2047 * 2 ^ 52 → b / 2 ^ 52 - 1023 ≤ 1100
    field b h = omega arith

pub returns : goal.returns
unfolding log_bits log_above
returns c =
    let b = c.args.bits in
    let e = le-ltb (b / 2 ^ 52) 1023 c.if-field-lt1023.false in
    sym
    (ap Above (c.log_above.ensures ∙ ap (λ (m : ℕ). twos_of (b / 2 ^ 52 - 1023) + ln_mant_of m / 2048) c.digits-m.ensures)
    ∙ cond_else _ _ _ _ (le-ltb b (2 ^ 52) c.if-bits-lt4503599627370496.false) (cond_else _ _ _ _ e refl))
    ∙ cond_else _ _ _ _ e refl
