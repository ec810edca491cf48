use mir.Facts.{Fits-bits}
use Rattle.square_root.specs.SquareRoot.{nearest_root}
use Rattle.square_root.proofs.WholeRoot.{rest_is, nearest_from_below, nearest_above, nearest_of_words}
use Rattle.square_root.proofs.nearest_root.Goals as goal
-- `square_root::nearest_root` meets its contract.
use Rattle.std.proofs.Common.{◌≡◌, ℕ, ◌+◌, ◌-◌, ◌*◌, ◌/◌, ◌%◌, ◌^◌, ◌<◌, ◌≤◌, sym, ap, ◌∙◌, subst, arith}

positive : (H L : ℕ) → 0 < H → 0 < H * 2 ^ 64 + L
positive H L h = omega arith

-- the words h and l of s * s, beside those of the number
record Words (s H L h l : ℕ) : Type 0 where
  low : 0 < H
  high : H < 2 ^ 42
  fits : L < 2 ^ 64
  upper : h ≡ s * s / 2 ^ 64
  lower : l ≡ s * s % 2 ^ 64
  same : h ≡ H
  under : l ≤ L

module _ {s H L h l : ℕ} (w : Words s H L h l) where
  left : H * 2 ^ 64 + L ≡ s * s + (L - l)
  left = rest_is (s * s) H L (sym w.upper ∙ w.same) (subst (λ (z : ℕ). z ≤ L) w.lower w.under) ∙ ap (λ (z : ℕ). s * s + (L - z)) (sym w.lower)

  in_range : (q : ℕ) → q ≡ nearest_root (H * 2 ^ 64 + L) → (q ≡ nearest_root (H * 2 ^ 64 + L)) × (q ≤ 2 ^ 53)
  in_range q r = (r, subst (λ (z : ℕ). z ≤ 2 ^ 53) (sym r) (nearest_of_words H L w.low w.high w.fits))

  at_root : L - l ≤ s → (s ≡ nearest_root (H * 2 ^ 64 + L)) × (s ≤ 2 ^ 53)
  at_root g = in_range s (nearest_from_below (H * 2 ^ 64 + L) s (L - l) (positive H L w.low) left g)

  above_root : s < L - l → L - l ≤ 3 * s → (s + 1 ≡ nearest_root (H * 2 ^ 64 + L)) × (s + 1 ≤ 2 ^ 53)
  above_root g j = in_range (s + 1) (nearest_above (H * 2 ^ 64 + L) s (L - l) (positive H L w.low) left g j)

pub returns-then-rest-s-2 : goal.returns-then-rest-s-2
returns-then-rest-s-2 c =
    at_root (record {
      low = c.requires.1;
      high = c.requires.2;
      fits = c.ranges.lo.fits;
      upper = c.mulhi.ensures;
      lower = c.mullo-l.ensures;
      same = c.if-mulhi-hi.true;
      under = c.if-l-lo.true;
    }) c.if-rest-s-2.true

pub overflow_add-result : goal.overflow_add-result
overflow_add-result c = Fits-bits 64 tt (room _ c.requires.0)
  where
    room : (s : ℕ) → s < 2 ^ 58 → s + 1 < 2 ^ 64
    room s h = omega arith

pub returns-else-rest-s-2 : goal.returns-else-rest-s-2
returns-else-rest-s-2 c =
    above_root (record {
      low = c.requires.1;
      high = c.requires.2;
      fits = c.ranges.lo.fits;
      upper = c.mulhi.ensures;
      lower = c.mullo-l.ensures;
      same = c.if-mulhi-hi.true;
      under = c.if-l-lo.true;
    }) c.if-rest-s-2.false c.if-rest-s.true
