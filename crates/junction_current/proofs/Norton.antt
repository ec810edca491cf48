-- The rounded Norton offset i - g v: conductance times v plus it returns what i is close to, where g v is at most 501 times the scale.
-- Errors in units of 2^-53 of the scale: 1266 of i, 501 of the rounded product, 503 of the rounded difference.
use Prim.Native.Nat.{◌+◌, ◌-◌, ◌^◌}
use mathlib.Core.List.{[], ◌∷◌}
use lib.Dec.{T}
use lib.Ieee.{Float, binary64}
use lib.Ieee.Scale.{finite}
use Rattle.exact.specs.Fraction.{ℚ, ◌//◌, nat, ◌+q◌, ◌-q◌, ◌*q◌, absq, ◌≤q◌, ◌≈q◌, Within}
use Rattle.exact.specs.FloatValue.{value, tiny}
use Rattle.exact.specs.Float64.{◌⊖◌, ◌⊗◌}
use Rattle.exact.proofs.FractionLaws.{≈_refl, *_comm, ≤_refl, ≤_trans, ≤_of_≈, +_mono, *_mono, lit_≤}
use Rattle.exact.proofs.FractionProver.{qv, ##, ◌÷◌, ◌⊞◌, ◌⊟◌, ◌⊠◌, leq, linq, ◌⊑◌by◌}
use Rattle.exact.proofs.AbsoluteValue.{abs_nonneg}
use Rattle.exact.proofs.Closeness.{abs_of_within, abs_minus_le, within_mono, within_≈}
use Rattle.exact.proofs.Rounding.{rounds, mul_rounded, sub_rounded}
use Rattle.exact.proofs.Computing.{computing}
use Rattle.junction_current.specs.JunctionCurrent.{relative_error, absolute_error, allowed_error}
use Rattle.junction_current.proofs.Shockley.{CurrentClose}

-- ---- one name for every absolute part
abbrev small : ℚ
small = 1 // 2 ^ 902

tiny_small : tiny binary64 ≤q small
unfolding computing
tiny_small = lit_≤ tt

current_small : 1 // 2 ^ 979 ≤q small
unfolding computing
current_small = lit_≤ tt

product_small : 1 // 2 ^ 1000 ≤q small
unfolding computing
product_small = lit_≤ tt

absolute_room : nat 4 *q small ≤q absolute_error
unfolding computing
absolute_room = lit_≤ tt

relative_room : 2270 // 2 ^ 53 ≤q relative_error
unfolding computing
relative_room = lit_≤ tt

relative_nonneg : nat 0 ≤q relative_error
unfolding computing
relative_nonneg = lit_≤ tt

small_nonneg : nat 0 ≤q small
unfolding computing
small_nonneg = lit_≤ tt

small_below_one : small ≤q nat 1
unfolding computing
small_below_one = lit_≤ tt

-- ---- the sizes and the errors, over fractions: s for the scale, r for `small`
-- a = |g v|, b = |i|, c = |i - p|, p the rounded product
difference_bound : {s r a b c p : ℚ} → nat 0 ≤q s → nat 0 ≤q r → a ≤q nat 501 *q s +q r → b ≤q s +q (1266 // 2 ^ 53 *q s +q r) → p ≤q a +q (1 // 2 ^ 53 *q a +q r) → c ≤q b +q p → c ≤q nat 503 *q s +q nat 4 *q r
difference_bound {s} {r} {a} {b} {c} {p} s₀ r₀ A B P C =
    linq (s ∷ r ∷ a ∷ b ∷ c ∷ p ∷ [])
    ((## 0 ⊑ qv 0 by 2 ^ 53 - 1767) ∷ (## 0 ⊑ qv 1 by 2 ^ 53 - 1) ∷ (qv 2 ⊑ ## 501 ⊠ qv 0 ⊞ qv 1 by 2 ^ 53 + 1) ∷ (qv 3 ⊑ qv 0 ⊞ (1266 ÷ 2 ^ 53 ⊠ qv 0 ⊞ qv 1) by 2 ^ 53) ∷ (qv 5 ⊑ qv 2 ⊞ (1 ÷ 2 ^ 53 ⊠ qv 2 ⊞ qv 1) by 2 ^ 53) ∷ (qv 4 ⊑ qv 3 ⊞ qv 5 by 2 ^ 53) ∷ [])
    (2 ^ 53 - 1) (qv 4) (## 503 ⊠ qv 0 ⊞ ## 4 ⊠ qv 1) tt s₀ r₀ A B P C

-- the three errors together: of i, of the product and of the difference
three_errors : (s : ℚ) {r a c x y w : ℚ} → nat 0 ≤q r → a ≤q nat 501 *q s +q r → c ≤q nat 503 *q s +q nat 4 *q r
    → x ≤q 1266 // 2 ^ 53 *q s +q r → y ≤q 1 // 2 ^ 53 *q a +q r → w ≤q 1 // 2 ^ 53 *q c +q r → x +q y +q w ≤q 2270 // 2 ^ 53 *q s +q nat 4 *q r
three_errors s {r} {a} {c} {x} {y} {w} r₀ A C X Y W =
    linq (s ∷ r ∷ a ∷ c ∷ x ∷ y ∷ w ∷ [])
    ((## 0 ⊑ qv 1 by 2 ^ 53 - 5) ∷ (qv 2 ⊑ ## 501 ⊠ qv 0 ⊞ qv 1 by 1) ∷ (qv 3 ⊑ ## 503 ⊠ qv 0 ⊞ ## 4 ⊠ qv 1 by 1)
    ∷ (qv 4 ⊑ 1266 ÷ 2 ^ 53 ⊠ qv 0 ⊞ qv 1 by 2 ^ 53) ∷ (qv 5 ⊑ 1 ÷ 2 ^ 53 ⊠ qv 2 ⊞ qv 1 by 2 ^ 53) ∷ (qv 6 ⊑ 1 ÷ 2 ^ 53 ⊠ qv 3 ⊞ qv 1 by 2 ^ 53) ∷ [])
    (2 ^ 53 - 1) (qv 4 ⊞ qv 5 ⊞ qv 6) (2270 ÷ 2 ^ 53 ⊠ qv 0 ⊞ ## 4 ⊠ qv 1) tt r₀ A C X Y W

-- ---- the offset
pub record NortonReturns (i g v : Float) (z s : ℚ) : Type 0 where
  pub fin : T (finite (i ⊖ g ⊗ v))
  pub close : Within (value g *q value v +q value (i ⊖ g ⊗ v)) z (allowed_error s)

module _ (i g v : Float) {z s : ℚ} (I : CurrentClose i z s) (g_finite : T (finite g)) (v_finite : T (finite v)) (P : absq (value g *q value v) ≤q nat 501 *q s +q 1 // 2 ^ 1000) where
  abbrev gv : ℚ
  gv = value g *q value v

  s₀ : nat 0 ≤q s
  s₀ = ≤_trans (abs_nonneg z) I.est.size

  gv_size : absq gv ≤q nat 501 *q s +q small
  gv_size = ≤_trans P (+_mono (≤_refl (nat 501 *q s)) product_small)

  i_close : Within (value i) z (1266 // 2 ^ 53 *q s +q small)
  i_close = within_mono I.est.close (+_mono (≤_refl (1266 // 2 ^ 53 *q s)) current_small)

  -- the rounded product
  product : T (finite (g ⊗ v)) × Within (value (g ⊗ v)) gv (1 // 2 ^ 53 *q absq gv +q small)
  product =
      let (t, w) = rounds binary64 (g ⊗ v) gv (mul_rounded binary64 g v g_finite v_finite) (≤_trans gv_size (linq (s ∷ small ∷ []) ((qv 0 ⊑ ## (2 ^ 813) by 501) ∷ (qv 1 ⊑ ## 1 by 1) ∷ []) 0 (## 501 ⊠ qv 0 ⊞ qv 1) (## (2 ^ 1023)) tt I.bound small_below_one)) in
      (t, within_mono w (+_mono (≤_refl (1 // 2 ^ 53 *q absq gv)) tiny_small))

  abbrev difference : ℚ
  difference = value i -q value (g ⊗ v)

  difference_size : absq difference ≤q nat 503 *q s +q nat 4 *q small
  difference_size =
      difference_bound s₀ small_nonneg gv_size (abs_of_within i_close I.est.size) (abs_of_within product.1 (≤_refl (absq gv)))
      (abs_minus_le (value i) (value (g ⊗ v)) (≤_refl (absq (value i))) (≤_refl (absq (value (g ⊗ v)))))

  -- the rounded difference
  offset : T (finite (i ⊖ g ⊗ v)) × Within (value (i ⊖ g ⊗ v)) difference (1 // 2 ^ 53 *q absq difference +q small)
  offset =
      let (t, w) = rounds binary64 (i ⊖ g ⊗ v) difference (sub_rounded binary64 i (g ⊗ v) I.est.fin product.0) (≤_trans difference_size (linq (s ∷ small ∷ []) ((qv 0 ⊑ ## (2 ^ 813) by 503) ∷ (qv 1 ⊑ ## 1 by 4) ∷ []) 0 (## 503 ⊠ qv 0 ⊞ ## 4 ⊠ qv 1) (## (2 ^ 1023)) tt I.bound small_below_one)) in
      (t, within_mono w (+_mono (≤_refl (1 // 2 ^ 53 *q absq difference)) tiny_small))

  -- what all three errors come to is allowed
  room : 2270 // 2 ^ 53 *q s +q nat 4 *q small ≤q allowed_error s
  room = +_mono (≤_trans (≤_of_≈ (*_comm (2270 // 2 ^ 53) s)) (≤_trans (*_mono s₀ relative_room) (≤_of_≈ (*_comm s relative_error)))) absolute_room

  pub norton_returns : NortonReturns i g v z s
  norton_returns =
      let a = i_close in let b = product.1 in let c = offset.1 in
      let ρ = gv ∷ value (i ⊖ g ⊗ v) ∷ z ∷ value i ∷ value (g ⊗ v) ∷ [] in
      record {
        fin = offset.0;
        close = record {
          above = ≤_trans (leq ρ (qv 0 ⊞ qv 1 ⊟ qv 2) (qv 3 ⊟ qv 2 ⊞ (qv 0 ⊟ qv 4) ⊞ (qv 1 ⊟ (qv 3 ⊟ qv 4))) tt) (≤_trans (three_errors s small_nonneg gv_size difference_size a.above b.below c.above) room);
          below = ≤_trans (leq ρ (qv 2 ⊟ (qv 0 ⊞ qv 1)) (qv 2 ⊟ qv 3 ⊞ (qv 4 ⊟ qv 0) ⊞ (qv 3 ⊟ qv 4 ⊟ qv 1)) tt) (≤_trans (three_errors s small_nonneg gv_size difference_size a.below b.above c.below) room);
        };
      }

-- another number for the current, and a larger scale
pub norton_≈ : {i g v : Float} {z w s r : ℚ} → z ≈q w → s ≤q r → NortonReturns i g v z s → NortonReturns i g v w r
norton_≈ {i} {g} {v} e h n = record { fin = n.fin; close = within_mono (within_≈ (≈_refl (value g *q value v +q value (i ⊖ g ⊗ v))) e n.close) (+_mono (*_mono relative_nonneg h) (≤_refl absolute_error)) }
