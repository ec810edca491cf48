-- The logarithm in fixed point, as a float: within 3/4 of 2^-42. Assumes nothing.
use Rattle.std.proofs.Common.{◌≡◌, ℕ, ◌*◌, ◌^◌, ◌≤◌, false, T, [], ◌∷◌, pos, refl, zero-lt-suc, arith, lit<, lit≤}
use lib.Ieee.{binary64, of_int, of_bits}
use lib.Ieee.Scale.{finite}
use Rattle.exact.specs.Fraction.{◌//◌, nat, ◌+q◌, ◌-q◌, ◌*q◌, absq, ◌≤q◌, ◌≈q◌, Within, leqb}
use Rattle.exact.specs.FloatValue.{value, eps, tiny}
use Rattle.exact.proofs.FractionLaws.{≈_refl, ≈_sym, ≤_of_≈, ≤_refl, ≤_trans, *_cong, *_mono, +_mono, lit_≤}
use Rattle.exact.proofs.FractionProver.{qv, ##, ◌⊟◌, linq, ◌⊑◌by◌, nat_≤}
use Rattle.exact.proofs.Closeness.{within_mono, within_≈}
use Rattle.exact.proofs.Rounding.{Rounded, rounds, frac_nonneg}
use Rattle.exact.proofs.ErrorCalculus.{Est, weaken, est_mul}
use Rattle.series.proofs.Quotients.{◌⟫◌, frac_≈, frac_nat, frac_*}
use Rattle.logarithm.specs.Logarithm.{ulp, rounded_of}

-- an integer, rounded
int_rounded : (n : ℕ) → Rounded binary64 (of_int binary64 (pos n)) (nat n)
unfolding of_int nat
int_rounded n = record { sign = false; num = n; den = 1; den_pos = zero-lt-suc 0; is = refl; val = ≈_refl (nat n) }

nat_abs : (n m : ℕ) → n ≤ m → absq (nat n) ≤q nat m
unfolding absq nat
nat_abs n m h = record { le = omega arith }

-- 760 * 2^53
abbrev most : ℕ
most = 760 * 2 ^ 53

int_est : (n : ℕ) → n ≤ most → Est binary64 (of_int binary64 (pos n)) (nat n) (nat most) (eps binary64 *q nat most +q tiny binary64)
int_est n h =
    let s = nat_abs n most h in
    let r = rounds binary64 (of_int binary64 (pos n)) (nat n) (int_rounded n) (≤_trans s (nat_≤ (lit≤ tt))) in
    record { fin = r.0; size = s; close = within_mono r.1 (+_mono (*_mono (frac_nonneg 1 (2 ^ 53)) s) (≤_refl (tiny binary64))) }

ulp_finite : T (finite ulp)
unfolding of_bits
ulp_finite = tt

ulp_value : value ulp ≈q 1 // 2 ^ 53
unfolding of_bits value ◌//◌
ulp_value = record { eq = refl }

ulp_size : absq (1 // 2 ^ 53) ≤q 1 // 2 ^ 53
unfolding absq ◌//◌ leqb
ulp_size = lit_≤ tt

ulp_est : Est binary64 ulp (1 // 2 ^ 53) (1 // 2 ^ 53) (nat 0)
ulp_est = record { fin = ulp_finite; size = ulp_size; close = record { above = zero_above; below = zero_below } }
  where
    zero_above : value ulp -q 1 // 2 ^ 53 ≤q nat 0
    zero_above = linq (value ulp ∷ (1 // 2 ^ 53) ∷ []) ((qv 0 ⊑ qv 1 by 1) ∷ []) 0 (qv 0 ⊟ qv 1) (## 0) tt (≤_of_≈ ulp_value)

    zero_below : 1 // 2 ^ 53 -q value ulp ≤q nat 0
    zero_below = linq (value ulp ∷ (1 // 2 ^ 53) ∷ []) ((qv 1 ⊑ qv 0 by 1) ∷ []) 0 (qv 1 ⊟ qv 0) (## 0) tt (≤_of_≈ (≈_sym ulp_value))

scaled : (v : ℕ) → nat v *q (1 // 2 ^ 53) ≈q (v * 2048) // 2 ^ 64
scaled v = *_cong (≈_sym (frac_nat v)) (≈_refl (1 // 2 ^ 53)) ⟫ frac_* v 1 (zero-lt-suc 0) (lit< tt) ⟫ frac_≈ (v * 1) (v * 2048) (lit< tt) (lit< tt) (cross v)
  where
    cross : (v : ℕ) → v * 1 * 2 ^ 64 ≡ v * 2048 * (1 * 2 ^ 53)
    cross v = omega arith

pub rounded_near : (v : ℕ) → v ≤ 760 * 2 ^ 53 → T (finite (rounded_of v)) × Within (value (rounded_of v)) ((v * 2048) // 2 ^ 64) (3 // 2 ^ 44)
unfolding leqb nat ◌*q◌ ◌//◌ ◌+q◌
rounded_near v h =
    let e = weaken (est_mul binary64 (int_est v h) ulp_est (lit_≤ tt)) (≤_refl _) (lit_≤ {y = 3 // 2 ^ 44} tt) in
    (e.fin, within_≈ (≈_refl (value (rounded_of v))) (scaled v) e.close)
