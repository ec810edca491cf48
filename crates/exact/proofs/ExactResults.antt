-- Where an operation makes no error: its exact result is a value of the format.
use Prim.Native.Nat.{ℕ, suc, ◌+◌, ◌*◌, ◌^◌, ◌≤◌, ◌<◌}
use mathlib.Core.Path.{◌≡◌, sym, ap, ◌∙◌, subst}
use mathlib.Core.Bool.{Bool, true, false}
use native.Mathlib.Nat.{zero-lt-suc, eq-or-lt_of_le, le_trans, le_of_eq, le_of_lt, lt_of_le_of_lt, mul-one, one-mul, mul_comm, mul-lt-mul_of_pos_right}
use mathlib.Core.Logic.{inl, inr}
use lib.IntN.{pos, negsuc}
use native.Mathlib.Omega.{arith}
use lib.Dec.{T, lit≤, leb→le, ltb→lt}
use lib.Pow.{pow_pos, pow-add, pow_mono, pow-lt}
use lib.Ieee.{Float, Format, prec, emax, low, round, of_int, in_float}
use lib.Ieee.Exact.{HasValue, round_exact}
use lib.Ieee.Scale.{finite, overflow}
use Rattle.exact.specs.Fraction.{ℚ, nat, negq, ◌≈q◌}
use Rattle.exact.specs.FloatValue.{signed, value}
use Rattle.exact.proofs.RoundingGrid.{value_finite}
use Rattle.exact.proofs.FractionLaws.{≈_sym, ≈_trans}
use Rattle.exact.proofs.Rounding.{Rounded, value_≈}

-- signed fractions with one sign
signed_cross : (s t : Bool) (a c b d : ℕ) (C : 0 < c) (D : 0 < d) → signed s a c C ≈q signed t b d D → a * d ≡ b * c
signed_cross true true a c b d C D h = let e = h.eq in omega arith
signed_cross false false a c b d C D h = let e = h.eq in omega arith
signed_cross true false a c b d C D h = let e = h.eq in omega arith
signed_cross false true a c b d C D h = let e = h.eq in omega arith

pub exact_of : (f : Format) (x : Float) (z : ℚ) → Rounded f x z → (t : Bool) (q j : ℕ) → q < 2 ^ prec f → q * 2 ^ j < overflow f → signed t (q * 2 ^ j) (2 ^ low f) (pow_pos (low f)) ≈q z → T (finite x) × (value x ≈q z)
exact_of f x z r t q j a b e =
    let s = r.sign in let n = r.num in let d = r.den in
    let c : n * 2 ^ low f ≡ q * 2 ^ j * d = signed_cross s t n d (q * 2 ^ j) (2 ^ low f) r.den_pos (pow_pos (low f)) (≈_trans r.val (≈_sym e)) in
    let h : HasValue (round f s n d) s n d = round_exact f s n d q j r.den_pos a b c in (
      subst (λ (x : Float). T (finite x)) (sym r.is) (value_finite (round f s n d) s n d h),
      subst (λ (x : Float). value x ≈q z) (sym r.is) (≈_trans (value_≈ (round f s n d) s n d r.den_pos h) r.val),
    )

-- ---- an integer `as` a float, where the machine takes it
whole_fits : (f : Format) (s : Bool) (n : ℕ) → n ≤ 2 ^ prec f → HasValue (round f s n 1) s n 1
whole_fits f s n h = elim (eq-or-lt_of_le h) [
  | inr l ↦ round_exact f s n 1 n (low f) (zero-lt-suc 0) l (in_range n (2 ^ prec f) (2 ^ low f) (2 ^ (low f + suc (emax f))) (pow_pos (low f)) l top) (sym (mul-one (n * 2 ^ low f)))
  | inl e ↦ round_exact f s n 1 1 (low f + prec f) (zero-lt-suc 0) (one_lt f) (lt_of_le_of_lt (le_of_eq (one-mul (2 ^ (low f + prec f)))) (pow-lt (far f))) (ap (λ (t : ℕ). t * 2 ^ low f) e ∙ mul_comm (2 ^ prec f) (2 ^ low f) ∙ sym (pow-add 2 (low f) (prec f)) ∙ sym (mul-one (1 * 2 ^ (low f + prec f)) ∙ one-mul (2 ^ (low f + prec f))))
]
  where
    far : (f : Format) → low f + prec f < low f + suc (emax f)
    far lib.Ieee.Format.binary32 = lit≤ tt
    far lib.Ieee.Format.binary64 = lit≤ tt

    top : 2 ^ low f * 2 ^ prec f ≤ 2 ^ (low f + suc (emax f))
    top = le_trans (le_of_eq (sym (pow-add 2 (low f) (prec f)))) (pow_mono (le_of_lt (far f)))

    one_lt : (f : Format) → 1 < 2 ^ prec f
    one_lt lib.Ieee.Format.binary32 = lit≤ tt
    one_lt lib.Ieee.Format.binary64 = lit≤ tt

    in_range : (n p l o : ℕ) → 0 < l → n < p → l * p ≤ o → n * l < o
    in_range n p l o L a b = omega (arith, mul-lt-mul_of_pos_right a L)

pub of_nat_exact : (f : Format) (n : ℕ) → T (in_float f (pos n)) → T (finite (of_int f (pos n))) × (value (of_int f (pos n)) ≈q nat n)
unfolding of_int in_float nat
of_nat_exact f n t =
    let h = whole_fits f false n (leb→le n (2 ^ prec f) t) in
    (value_finite (round f false n 1) false n 1 h, value_≈ (round f false n 1) false n 1 (zero-lt-suc 0) h)

pub of_neg_exact : (f : Format) (n : ℕ) → T (in_float f (negsuc n)) → T (finite (of_int f (negsuc n))) × (value (of_int f (negsuc n)) ≈q negq (nat (suc n)))
unfolding of_int in_float nat negq
of_neg_exact f n t =
    let h = whole_fits f true (suc n) (ltb→lt n (2 ^ prec f) t) in
    (value_finite (round f true (suc n) 1) true (suc n) 1 h, value_≈ (round f true (suc n) 1) true (suc n) 1 (zero-lt-suc 0) h)
