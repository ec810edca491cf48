-- A product or a quotient by a power of two makes no error, where the result neither overflows nor falls below the normal range.
use Prim.Native.Nat.{ℕ, suc, ◌+◌, ◌-◌, ◌*◌, ◌^◌, ◌≤◌, ◌<◌, max}
use mathlib.Core.Path.{◌≡◌, sym, ap, ◌∙◌, subst}
use mathlib.Core.Bool.{Bool, true, false, not}
use native.Mathlib.Nat.{le_trans, le_of_eq, lt_of_lt_of_le, le_of_mul-le-mul_right, mul-pos, mul-le-mul_right, mul-le-mul_left, lt_of_le_of_lt, mul-one, mul_assoc, mul_comm, pow-suc}
use native.Mathlib.Omega.{arith}
use lib.Dec.{T, leb, leb→le, nleb→lt}
use lib.Pow.{pow-add, pow_pos, pow_mono}
use lib.IntN.{ℤ, pos, negsuc, neg_ℤ}
use lib.Ieee.{Float, Format, prec, emax, low, mul, div, fits}
use lib.Ieee.Fits.{two, two-le_pos}
use lib.Ieee.Scale.{finite, overflow}
use Rattle.exact.specs.Fraction.{ℚ, ◌//◌, nat, ◌*q◌, absq, ◌≤q◌, ◌<q◌, ◌≈q◌}
use Rattle.exact.specs.FloatValue.{signed, value, least_normal_lem}
use Rattle.exact.specs.Size.{exp2}
use Rattle.exact.proofs.FractionLaws.{max_one, ≈_refl, ≈_sym, ≈_trans, *_comm, *_assoc, *_cong, *_cong_r, one_*}
use Rattle.exact.proofs.StrictOrder.{<-≈, ≤_≈}
use Rattle.exact.proofs.AbsoluteValue.{abs_cong, not_zero_of_pos}
use Rattle.exact.proofs.RoundingGrid.{pow_pred}
use Rattle.exact.proofs.Rounding.{rounded_≈, abs_signed, above_frac, low_places, mul_rounded, div_rounded}
use Rattle.exact.proofs.Representable.{Representable, rounded_exact, fits_representable, representable_≈}
use Rattle.exact.proofs.Sizes.{exp2_pos, exp2_neg}

-- ---- in whole numbers
signed_up : (s : Bool) (a c k : ℕ) (C : 0 < c) → signed s (a * k) c C ≈q signed s a c C *q nat k
unfolding ◌*q◌ nat
signed_up true a c k C = record { eq = omega arith }
signed_up false a c k C = record { eq = omega arith }

signed_down : (s : Bool) (a b c k : ℕ) (C : 0 < c) → 0 < k → a ≡ b * k → signed s b c C ≈q signed s a c C *q (1 // k)
unfolding ◌*q◌ ◌//◌
signed_down true a b c k C K e = record { eq = rw (max_one k K) (omega (arith, ap (λ (t : ℕ). t * c) e)) }
signed_down false a b c k C K e = record { eq = rw (max_one k K) (omega (arith, ap (λ (t : ℕ). t * c) e)) }

signed_over : (s : Bool) (a c k : ℕ) (C : 0 < c) → 0 < k → (D : 0 < c * k) → signed s a (c * k) D ≈q signed s a c C *q (1 // k)
unfolding ◌*q◌ ◌//◌
signed_over true a c k C K D = record { eq = rw (max_one k K) (omega arith) }
signed_over false a c k C K D = record { eq = rw (max_one k K) (omega arith) }

below_nat : (a c n : ℕ) (C : 0 < c) → signed false a c C <q nat n → a < n * c
unfolding nat
below_nat a c n C h = let e = h.lt in omega arith

-- ---- the number, scaled
pub representable_up : {f : Format} {z : ℚ} → Representable f z → (k : ℕ) → absq (z *q nat (2 ^ k)) <q nat (2 ^ suc (emax f)) → Representable f (z *q nat (2 ^ k))
representable_up {f} {z} h k l =
    let n = h.digits * 2 ^ h.place in let u = 2 ^ low f in
    let e : h.digits * 2 ^ (h.place + k) ≡ n * 2 ^ k = ap (λ (t : ℕ). h.digits * t) (pow-add 2 h.place k) ∙ sym (mul_assoc h.digits (2 ^ h.place) (2 ^ k)) in
    let i : signed h.sign (n * 2 ^ k) u (pow_pos (low f)) ≈q z *q nat (2 ^ k) = ≈_trans (signed_up h.sign n u (2 ^ k) (pow_pos (low f))) (*_cong h.is (≈_refl (nat (2 ^ k)))) in
    let b : n * 2 ^ k < 2 ^ suc (emax f) * u = below_nat (n * 2 ^ k) u (2 ^ suc (emax f)) (pow_pos (low f)) (<-≈ (≈_trans (abs_cong (≈_sym i)) (abs_signed h.sign (n * 2 ^ k) u (pow_pos (low f)))) (≈_refl (nat (2 ^ suc (emax f)))) l) in
    record {
      sign = h.sign;
      digits = h.digits;
      place = h.place + k;
      few = h.few;
      small = subst (λ (t : ℕ). t < overflow f) (sym e) (lt_of_lt_of_le b (le_of_eq (mul_comm (2 ^ suc (emax f)) u ∙ sym (pow-add 2 (low f) (suc (emax f))))));
      is = subst (λ (t : ℕ). signed h.sign t u (pow_pos (low f)) ≈q z *q nat (2 ^ k)) (sym e) i;
    }

-- digits 2 ^ p ≥ H 2 ^ k with fewer than 2 H digits: k ≤ p
no_digit_lost : (digits H p k : ℕ) → digits < 2 * H → H * 2 ^ k ≤ digits * 2 ^ p → k ≤ p
no_digit_lost digits H p k a b = go (leb k p) (leb→le k p) (nleb→lt k p)
  where
    clash : (P K : ℕ) → 0 < P → 2 * P ≤ K → H * K ≤ digits * P → ⊥
    clash P K p k b = omega (arith, mul-le-mul_left H k, mul-le-mul_right P a)

    go : (t : Bool) → (T t → k ≤ p) → (T (not t) → p < k) → k ≤ p
    go true f g = f tt
    go false f g = absurd (clash (2 ^ p) (2 ^ k) (pow_pos p) (le_trans (le_of_eq (mul_comm 2 (2 ^ p) ∙ sym (pow-suc 2 p))) (pow_mono (g tt))) b)

pub representable_down : {f : Format} {z : ℚ} → Representable f z → (k : ℕ) → least_normal_lem f ≤q absq (z *q (1 // 2 ^ k)) → Representable f (z *q (1 // 2 ^ k))
representable_down {f} {z} h k l =
    let n = h.digits * 2 ^ h.place in let u = 2 ^ low f in
    let over = mul-pos (pow_pos (low f)) (pow_pos k) in
    let i : signed h.sign n (u * 2 ^ k) over ≈q z *q (1 // 2 ^ k) = ≈_trans (signed_over h.sign n u (2 ^ k) (pow_pos (low f)) (pow_pos k) over) (*_cong h.is (≈_refl (1 // 2 ^ k))) in
    let b : u * 2 ^ k ≤ n * 2 ^ (emax f - 1) = above_frac n (u * 2 ^ k) (2 ^ (emax f - 1)) over (pow_pos (emax f - 1)) (≤_≈ (≈_refl (least_normal_lem f)) (≈_trans (abs_cong (≈_sym i)) (abs_signed h.sign n (u * 2 ^ k) over)) l) in
    let c : 2 ^ (prec f - 1) * 2 ^ k ≤ n = units (2 ^ (prec f - 1)) (2 ^ (emax f - 1)) u (2 ^ k) n (pow_pos (emax f - 1)) (low_places f) b in
    let d : k ≤ h.place = no_digit_lost h.digits (2 ^ (prec f - 1)) h.place k (lt_of_lt_of_le h.few (le_of_eq (pow_pred (prec f) (two-le_pos (prec f) (two f))))) c in
    let e : n ≡ h.digits * 2 ^ (h.place - k) * 2 ^ k = ap (λ (t : ℕ). h.digits * 2 ^ t) (back h.place k d) ∙ ap (λ (t : ℕ). h.digits * t) (pow-add 2 (h.place - k) k) ∙ sym (mul_assoc h.digits (2 ^ (h.place - k)) (2 ^ k)) in
    record {
      sign = h.sign;
      digits = h.digits;
      place = h.place - k;
      few = h.few;
      small = lt_of_le_of_lt (le_trans (le_of_eq (sym (mul-one (h.digits * 2 ^ (h.place - k))))) (le_trans (mul-le-mul_left (h.digits * 2 ^ (h.place - k)) (pow_pos k)) (le_of_eq (sym e)))) h.small;
      is = ≈_trans (signed_down h.sign n (h.digits * 2 ^ (h.place - k)) u (2 ^ k) (pow_pos (low f)) (pow_pos k) e) (*_cong h.is (≈_refl (1 // 2 ^ k)));
    }
  where
    back : (a b : ℕ) → b ≤ a → a ≡ a - b + b
    back a b h = omega arith

    units : (p q u k n : ℕ) → 0 < q → u ≡ p * q → u * k ≤ n * q → p * k ≤ n
    units p q u k n Q e b = le_of_mul-le-mul_right {k = q} (le_trans (le_of_eq (omega (arith, ap (λ (t : ℕ). t * k) e))) b) Q

-- ---- x times, and divided by, a float c with the value 2 ^ e
exp2_up : (k : ℕ) → nat (2 ^ k) ≈q exp2 (pos k)
unfolding nat
exp2_up k = record { eq = omega arith }

exp2_down : (k : ℕ) → 1 // 2 ^ suc k ≈q exp2 (negsuc k)
unfolding ◌//◌
exp2_down k = record { eq = go (2 ^ suc k) (pow_pos (suc k)) }
  where
    go : (p : ℕ) → 0 < p → 1 * p + 0 * max p 1 ≡ 1 * max p 1 + 0 * p
    go p P = rw (max_one p P) (omega arith)

-- z 2 ^ e, in the normal range
pub representable_scaled : {f : Format} {z : ℚ} → Representable f z → (e : ℤ) → least_normal_lem f ≤q absq (z *q exp2 e) → absq (z *q exp2 e) <q nat (2 ^ suc (emax f)) → Representable f (z *q exp2 e)
representable_scaled {f} {z} h (pos k) l b =
    let c = *_cong_r z (exp2_up k) in
    representable_≈ (representable_up h k (<-≈ (abs_cong (≈_sym c)) (≈_refl (nat (2 ^ suc (emax f)))) b)) c
representable_scaled {f} {z} h (negsuc k) l b =
    let c = *_cong_r z (exp2_down k) in
    representable_≈ (representable_down h (suc k) (≤_≈ (≈_refl (least_normal_lem f)) (abs_cong (≈_sym c)) l)) c

module _ (f : Format) (x c : Float) (p : T (finite x)) (i : T (fits f x)) (q : T (finite c)) (e : ℤ) (h : value c ≈q exp2 e) where
  pub mul_power_exact : least_normal_lem f ≤q absq (value x *q exp2 e) → absq (value x *q exp2 e) <q nat (2 ^ suc (emax f)) → T (finite (mul f x c)) × (value (mul f x c) ≈q value x *q exp2 e)
  mul_power_exact l b = rounded_exact (rounded_≈ (mul_rounded f x c p q) (*_cong_r (value x) h)) (representable_scaled (fits_representable f x p i) e l b)

  -- divided by 2 ^ e is times 2 ^ -e
  pub div_power_exact : least_normal_lem f ≤q absq (value x *q exp2 (neg_ℤ e)) → absq (value x *q exp2 (neg_ℤ e)) <q nat (2 ^ suc (emax f)) → T (finite (div f x c)) × (value (div f x c) ≈q value x *q exp2 (neg_ℤ e))
  div_power_exact l b =
      let d = neg_ℤ e in
      rounded_exact
      (div_rounded f x c (value x *q exp2 d) p q (λ k. not_zero_of_pos (exp2_pos e) (≈_trans (≈_sym h) k))
      (≈_trans (*_assoc (value x) (exp2 d) (value c)) (≈_trans (*_cong_r (value x) (≈_trans (*_cong_r (exp2 d) h) (exp2_neg e))) (≈_trans (*_comm (value x) (nat 1)) (one_* (value x))))))
      (representable_scaled (fits_representable f x p i) d l b)

-- doubled k times: only an overflow can spoil it
pub mul_power_up_exact : (f : Format) (x c : Float) → T (finite x) → T (fits f x) → T (finite c) → (k : ℕ) → value c ≈q nat (2 ^ k) → absq (value x *q nat (2 ^ k)) <q nat (2 ^ suc (emax f)) → T (finite (mul f x c)) × (value (mul f x c) ≈q value x *q nat (2 ^ k))
mul_power_up_exact f x c p i q k h b = rounded_exact (rounded_≈ (mul_rounded f x c p q) (*_cong_r (value x) h)) (representable_up (fits_representable f x p i) k b)
