use mathlib.Core.Path.{transport}
use lib.Bits.{bit_and, and_mask, mask_lt}
use lib.Count.{count_leading_zeros, leading_le}
use lib.Ieee.{binary64, of_bits}
use mir.Facts.{Fits-bits}
use Rattle.exact.proofs.LeadingDigits.{lead}
use Rattle.square_root.specs.SquareRoot.{nearest_root}
use Rattle.square_root.proofs.RootDigits.{root_pattern}
use Rattle.square_root.proofs.Digits.{Halved, halved_normal, halved_subnormal, root_of_pattern}
use Rattle.square_root.proofs.positive_root.Goals as goal
use Rattle.square_root.proofs.positive_root.Goals.{then-bits-lt4503599627370496, else-bits-lt4503599627370496}
-- `square_root::positive_root` meets its contract.
use Rattle.std.proofs.Common.{◌≡◌, ℕ, ◌+◌, ◌-◌, ◌*◌, ◌/◌, ◌%◌, ◌^◌, ◌<◌, ◌≤◌, sym, ap, ◌∙◌, le_trans, arith, lit≤, Fits-le, Fits-lit}

same : {b m m' k k' : ℕ} → m ≡ m' → k ≡ k' → Halved b m k → Halved b m' k'
same {b} p q r = transport (λ i. Halved b (p i) (q i)) r

-- the digits and the place of the pattern's root, of a subnormal and of a normal number
small : (b m e : ℕ) → 0 < b → b < 2 ^ 52 → m ≡ (b * 2 ^ (count_leading_zeros 64 b - 1 + (1085 - count_leading_zeros 64 b) % 2)) % 2 ^ 64 → e ≡ (1085 - count_leading_zeros 64 b - 52) / 2 → Halved b m e
small b m e h k p q = same (sym p) (sym q) (halved_subnormal b h k)

large : (b m e : ℕ) → 2 ^ 52 ≤ b → b < 2047 * 2 ^ 52 → m ≡ ((bit_and b (2 ^ 52 - 1) + 2 ^ 52) * 2 ^ 11) % 2 ^ 64 / 2 ^ (b / 2 ^ 52 % 2) → e ≡ (b / 2 ^ 52 + 1021) / 2 → Halved b m e
large b m e h k p q = same (sym (p ∙ ap (λ (x : ℕ). ((x + 2 ^ 52) * 2 ^ 11) % 2 ^ 64 / 2 ^ (b / 2 ^ 52 % 2)) (and_mask b 52))) (sym q) (halved_normal b h k)

pub overflow_add-m : goal.overflow_add-m
overflow_add-m c = Fits-bits 64 tt (sum _ (mask_lt c.args.bits 52))
  where
    sum : (x : ℕ) → x < 2 ^ 52 → x + 2 ^ 52 < 2 ^ 64
    sum x h = omega arith

pub overflow_cast-z : goal.overflow_cast-z
overflow_cast-z c = Fits-le (leading_le 64 c.args.bits) (Fits-lit tt)

pub overflow_sub-f : goal.overflow_sub-f
overflow_sub-f c = le_trans (leading_le 64 c.args.bits) (lit≤ tt)

pub overflow_sub-m : goal.overflow_sub-m
overflow_sub-m c = le_trans (lit≤ tt) (lead 11 tt c.args.bits c.requires.0 c.if-bits-lt4503599627370496.true).low

pub overflow_add-m-then-bits-lt4503599627370496 : goal.overflow_add-m-then-bits-lt4503599627370496
overflow_add-m-then-bits-lt4503599627370496 c = Fits-bits 64 tt (sum (count_leading_zeros 64 c.args.bits) _ (leading_le 64 c.args.bits))
  where
    sum : (z f : ℕ) → z ≤ 64 → z - 1 + f % 2 < 2 ^ 64
    sum z f h = omega arith

pub overflow_shl-m-then-bits-lt4503599627370496 : goal.overflow_shl-m-then-bits-lt4503599627370496
overflow_shl-m-then-bits-lt4503599627370496 c = shift (count_leading_zeros 64 c.args.bits) _ (lead 11 tt c.args.bits c.requires.0 c.if-bits-lt4503599627370496.true).high
  where
    shift : (z f : ℕ) → z ≤ 63 → z - 1 + f % 2 < 64
    shift z f h = omega arith

pub overflow_sub-e : goal.overflow_sub-e
overflow_sub-e c = some (count_leading_zeros 64 c.args.bits) (leading_le 64 c.args.bits)
  where
    some : (z : ℕ) → z ≤ 64 → 52 ≤ 1085 - z
    some z h = omega arith

pub scaled_root-requires : goal.scaled_root-requires
scaled_root-requires c =
    let j = c.if-bits-lt4503599627370496 in
    let h : Halved c.args.bits j.m j.e = elim j.branch [
      | then-bits-lt4503599627370496 w ↦ small _ _ _ c.requires.0 w.if-bits-lt4503599627370496.true w.m-is w.e-is
      | else-bits-lt4503599627370496 w ↦ large _ _ _ w.if-bits-lt4503599627370496.false c.requires.1 w.m-is w.e-is
    ] in
    (h.low, h.is.top)

pub returns : goal.returns
returns c =
    let j = c.if-bits-lt4503599627370496 in
    let h : Halved c.args.bits j.m j.e = elim j.branch [
      | then-bits-lt4503599627370496 w ↦ small _ _ _ c.requires.0 w.if-bits-lt4503599627370496.true w.m-is w.e-is
      | else-bits-lt4503599627370496 w ↦ large _ _ _ w.if-bits-lt4503599627370496.false c.requires.1 w.m-is w.e-is
    ] in
    let r = c.scaled_root.ensures in
    (ap (of_bits binary64) r.0 ∙ root_pattern _ h.is (λ i. nearest_root (j.m * 2 ^ 42)) ∙ sym (root_of_pattern c.args.bits c.requires.0 c.requires.1), r.1)
