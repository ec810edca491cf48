-- The kinds of bounds: from a range, from one to another, and through a product or a quotient.
use Prim.Native.Nat.{ℕ}
use mathlib.Core.Logic.{◌⊎◌, inl, inr}
use mathlib.Core.Bool.{Bool, true, false, cond}
use mathlib.Core.List.{[], ◌∷◌}
use lib.Dec.{T}
use lib.IntN.{ℤ, ◌+ℤ◌, ◌-ℤ◌}
use lib.Signed.{le_z}
use lib.Ieee.{Float, binary64, of_bits}
use lib.Ieee.Scale.{finite}
use Rattle.exact.specs.Fraction.{ℚ, nat, ◌*q◌, ◌≤q◌, ◌≈q◌}
use Rattle.exact.specs.FloatValue.{value}
use Rattle.exact.specs.Float64.{◌⊗◌, ◌⊘◌}
use Rattle.exact.specs.Size.{exp2, held, AtMost, AtLeast, Range}
use Rattle.exact.proofs.FractionLaws.{≈_refl, ≈_sym, ≈_trans, *_comm, *_cong, ≤_trans, ≤_of_≈}
use Rattle.exact.proofs.FractionProver.{qv, ##, ◌⊠◌, req}
use Rattle.exact.proofs.StrictOrder.{≤_of_<, <_≤_trans}
use Rattle.exact.proofs.AbsoluteValue.{abs_of_nonneg, le_abs, le_of_abs}
use Rattle.exact.proofs.Rounding.{mul_rounded}
use Rattle.exact.proofs.RoundingOrder.{rounded_zero}
use Rattle.exact.proofs.Sizes.{exp2_pos, at_most_weaken, at_least_weaken, at_most_⊗, at_most_⊘, at_least_⊗, at_least_⊘, non_negative_of, positive_of, positive_not_zero, non_negative_⊗, non_negative_⊘}
use Rattle.temperature_sizes.proofs.Intervals.{every, constant_tests, constant_in}
use Rattle.parameter_sizes.specs.ParameterSizes.{FromZero, Between, ZeroOrBetween}

-- ---- from a range
nonneg_at_most : {x : Float} {a : ℤ} → T (finite x) → nat 0 ≤q value x → value x ≤q exp2 a → AtMost x a
nonneg_at_most f l h = record { fin = f; size = ≤_trans (≤_of_≈ (abs_of_nonneg l)) h }

pub range_from_zero : {x : Float} (a : ℤ) → Range x (nat 0) (exp2 a) → FromZero x a
range_from_zero a X = record { sign = record { fin = X.fin; sign = X.above }; at_most = nonneg_at_most X.fin X.above X.below }

pub range_between : {x : Float} (b a : ℤ) → Range x (exp2 b) (exp2 a) → Between x b a
range_between {x} b a X =
    let p = <_≤_trans (exp2_pos b) X.above in
    record { sign = record { fin = X.fin; sign = p }; at_least = record { fin = X.fin; size = ≤_trans X.above (le_abs (value x)) }; at_most = nonneg_at_most X.fin (≤_of_< p) X.below }

pub zero_zero_or : {x : Float} (b a : ℤ) → T (finite x) → value x ≈q nat 0 → ZeroOrBetween x b a
zero_zero_or b a f e =
    let l = ≤_of_≈ (≈_sym e) in
    record { sign = record { fin = f; sign = l }; zero_or = inl e; at_most = nonneg_at_most f l (≤_trans (≤_of_≈ e) (≤_of_< (exp2_pos a))) }

-- ---- a constant of the program's text
pub constant_from_zero : (n : ℕ) (a : ℤ) → T (every (constant_tests n (nat 0) (exp2 a))) → FromZero (of_bits binary64 n) a
constant_from_zero n a t = range_from_zero a (constant_in n (nat 0) (exp2 a) t)

pub constant_between : (n : ℕ) (b a : ℤ) → T (every (constant_tests n (exp2 b) (exp2 a))) → Between (of_bits binary64 n) b a
constant_between n b a t = range_between b a (constant_in n (exp2 b) (exp2 a) t)

-- ---- from one kind to another
pub between_from_zero : {x : Float} {b a : ℤ} → Between x b a → FromZero x a
between_from_zero X = record { sign = non_negative_of X.sign; at_most = X.at_most }

pub between_zero_or : {x : Float} {b a : ℤ} → Between x b a → ZeroOrBetween x b a
between_zero_or X = record { sign = non_negative_of X.sign; zero_or = inr X.at_least; at_most = X.at_most }

pub from_zero_range : {x : Float} {a : ℤ} → FromZero x a → Range x (nat 0) (exp2 a)
from_zero_range X = record { fin = X.sign.fin; above = X.sign.sign; below = le_of_abs X.at_most.size }

pub between_range : {x : Float} {b a : ℤ} → Between x b a → Range x (exp2 b) (exp2 a)
between_range X = record { fin = X.sign.fin; above = ≤_trans X.at_least.size (≤_of_≈ (abs_of_nonneg (≤_of_< X.sign.sign))); below = le_of_abs X.at_most.size }

pub from_zero_weaken : {x : Float} {a : ℤ} → FromZero x a → (c : ℤ) → T (le_z a c) → FromZero x c
from_zero_weaken X c t = record { sign = X.sign; at_most = at_most_weaken X.at_most c t }

pub zero_or_weaken : {x : Float} {b a : ℤ} → ZeroOrBetween x b a → (d c : ℤ) → T (le_z d b) → T (le_z a c) → ZeroOrBetween x d c
zero_or_weaken {x} {b} {a} X d c s t =
    record { sign = X.sign; zero_or = elim X.zero_or [ inl e ↦ inl e | inr B ↦ inr (at_least_weaken B d s) ]; at_most = at_most_weaken X.at_most c t }

-- ---- products and quotients
pub from_zero_⊗ : {x y : Float} {a b : ℤ} → FromZero x a → FromZero y b → T (held (a +ℤ b)) → FromZero (x ⊗ y) (a +ℤ b)
from_zero_⊗ X Y h = let M = at_most_⊗ X.at_most Y.at_most h in record { sign = non_negative_⊗ X.sign Y.sign M.fin; at_most = M }

pub from_zero_⊘ : {x y : Float} {a b c : ℤ} → FromZero x a → Between y b c → T (held (a -ℤ b)) → FromZero (x ⊘ y) (a -ℤ b)
from_zero_⊘ X Y h = let M = at_most_⊘ X.at_most Y.at_least h in record { sign = non_negative_⊘ X.sign Y.sign M.fin; at_most = M }

pub between_⊘ : {x y : Float} {a b c d : ℤ} → Between x b a → Between y d c → T (held (a -ℤ d)) → T (held (b -ℤ c)) → Between (x ⊘ y) (b -ℤ c) (a -ℤ d)
between_⊘ X Y h k =
    let Z = from_zero_⊘ (between_from_zero X) Y h in
    let B = at_least_⊘ X.at_least Y.at_most (positive_not_zero Y.sign) Z.at_most.fin k in
    record { sign = positive_of Z.sign B; at_least = B; at_most = Z.at_most }

zero_* : {x : ℚ} (y : ℚ) → x ≈q nat 0 → x *q y ≈q nat 0
zero_* y e = ≈_trans (*_cong e (≈_refl y)) (req (y ∷ []) (## 0 ⊠ qv 0) (## 0) tt tt)

module _ {x y : Float} {a b c d : ℤ} (X : ZeroOrBetween x b a) (Y : ZeroOrBetween y d c) (h : T (held (a +ℤ c))) (k : T (held (b +ℤ d))) where
  pub zero_or_⊗ : ZeroOrBetween (x ⊗ y) (b +ℤ d) (a +ℤ c)
  zero_or_⊗ = record { sign = non_negative_⊗ X.sign Y.sign M.fin; zero_or = either X.zero_or Y.zero_or; at_most = M }
    where
      M : AtMost (x ⊗ y) (a +ℤ c)
      M = at_most_⊗ X.at_most Y.at_most h

      zero : value x *q value y ≈q nat 0 → value (x ⊗ y) ≈q nat 0
      zero e = rounded_zero (mul_rounded binary64 x y X.at_most.fin Y.at_most.fin) M.fin e

      either : (value x ≈q nat 0) ⊎ AtLeast x b → (value y ≈q nat 0) ⊎ AtLeast y d → (value (x ⊗ y) ≈q nat 0) ⊎ AtLeast (x ⊗ y) (b +ℤ d)
      either (inl e) v = inl (zero (zero_* (value y) e))
      either (inr B) (inl e) = inl (zero (≈_trans (*_comm (value x) (value y)) (zero_* (value x) e)))
      either (inr B) (inr D) = inr (at_least_⊗ B D M.fin k)

-- ---- a choice between two
pub by_choice : {A : Type 0} (P : A → Type 0) (t : Bool) {x y : A} → P x → P y → P (cond t x y)
by_choice P true p q = p
by_choice P false p q = q
