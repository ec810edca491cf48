-- The terms that every region's formula is made of, as floats near their exact values: beta near b, a voltage, vdsat and the modulation,
-- with errors relative to b, to V (the largest voltage, `v` here), to 2 V and to 1 + lambda V.
use Prim.Native.Nat.{◌^◌}
use lib.Dec.{T}
use lib.IntN.{pos}
use lib.Ieee.{Float}
use lib.Ieee.Scale.{finite}
use Rattle.exact.specs.Fraction.{ℚ, ◌//◌, nat, ◌+q◌, ◌-q◌, ◌*q◌, ◌/q◌, absq, ◌≤q◌, ◌≈q◌}
use Rattle.exact.specs.FloatValue.{value}
use Rattle.exact.specs.Float64.{◌⊖◌, ◌⊗◌, ◌⊘◌, +1}
use Rattle.exact.specs.Size.{minus, exp2, AtMost, AtLeast, NonNegative, Positive}
use Rattle.exact.proofs.Computing.{computing}
use Rattle.exact.proofs.FractionLaws.{≈_sym, *_cong, ≤_of_≈, ≤_refl, ≤_trans, *_mono, lit_≤}
use Rattle.exact.proofs.StrictOrder.{≤_of_<, lit_<, <_≤_trans, nat_nonneg}
use Rattle.exact.proofs.AbsoluteValue.{abs_of_nonneg, not_zero_of_pos}
use Rattle.exact.proofs.FractionDivision.{div_cong, div_≤}
use Rattle.exact.proofs.Sizes.{exp2_pos}
use Rattle.exact.proofs.ErrorCalculus.{est_literal}
use Rattle.exact.proofs.RelativeErrors.{Rel, rel_given, rel_at_most, rel_scale, rel_⊕, rel_⊖, rel_⊗, rel_⊘}
use Rattle.float.specs.Constants.{half}
use Rattle.channel.specs.Channel.{modulation_of}

-- ---- the constants 1 and 1/2
pub one : Rel +1 (nat 1) (nat 1) (nat 1) (nat 0) (nat 0)
unfolding computing
one = record { est = est_literal 0x3ff0_0000_0000_0000 (nat 1) (nat 1) (nat 0 *q nat 1 +q nat 0) tt; bound = ≤_refl (nat 1) }

pub a_half : Rel half (1 // 2) (1 // 2) (1 // 2) (nat 0) (nat 0)
unfolding computing
a_half = record { est = est_literal 0x3fe0_0000_0000_0000 (1 // 2) (1 // 2) (nat 0 *q (1 // 2) +q nat 0) tt; bound = ≤_refl (1 // 2) }

-- ---- b = kp W / L, two roundings
abbrev pub Beta : Float → ℚ → Type 0
Beta beta b = Rel beta b b (nat (2 ^ 39)) (3 // 2 ^ 53) (1 // 2 ^ 1065)

module _ {kp w l : Float} (K : NonNegative kp) (K9 : AtMost kp (pos 9)) (W : NonNegative w) (W0 : AtMost w (pos 0)) (L : Positive l) (L0 : AtMost l (pos 0)) (L30 : AtLeast l (minus 30)) where
  quotient_≤ : absq (value w) /q absq (value l) ≤q nat (2 ^ 30)
  unfolding computing
  quotient_≤ = div_≤ (<_≤_trans (exp2_pos (minus 30)) L30.size) (≤_trans W0.size (≤_trans (lit_≤ {x = exp2 (pos 0)} {y = nat (2 ^ 30) *q exp2 (minus 30)} tt) (*_mono (nat_nonneg (2 ^ 30)) L30.size)))

  size_is : absq (value kp) *q (absq (value w) /q absq (value l)) ≈q value kp *q (value w /q value l)
  size_is =
      *_cong (abs_of_nonneg K.sign)
      (div_cong (not_zero_of_pos (<_≤_trans (exp2_pos (minus 30)) L30.size)) (abs_of_nonneg W.sign) (abs_of_nonneg (≤_of_< L.sign)))

  pub beta_near : Beta (kp ⊗ (w ⊘ l)) (value kp *q (value w /q value l))
  unfolding computing
  beta_near =
      let q = rel_⊘ (rel_at_most W0) (rel_at_most L0) (exp2_pos (minus 30)) L30.size (lit_< tt) (nat (2 ^ 30)) (1 // 2 ^ 53) (1 // 2 ^ 1075) quotient_≤ tt in
      let p = rel_⊗ (rel_at_most K9) q (nat (2 ^ 39)) (3 // 2 ^ 53) (1 // 2 ^ 1065) tt in
      rel_scale p (lit_≤ tt) (≤_of_≈ size_is) (≤_trans (≤_of_≈ (≈_sym size_is)) p.bound)

-- ---- voltages of V at most, and their difference
abbrev pub Voltage : Float → ℚ → Type 0
Voltage x v = Rel x (value x) v (nat (2 ^ 14)) (nat 0) (nat 0)

abbrev pub Difference : Float → ℚ → ℚ → Type 0
Difference x z v = Rel x z (v +q v) (nat (2 ^ 15)) (1 // 2 ^ 53) (1 // 2 ^ 1075)

pub voltage : {x : Float} {v : ℚ} → T (finite x) → absq (value x) ≤q v → v ≤q nat (2 ^ 14) → Voltage x v
voltage {x} h l m = rel_scale (rel_given x h (≤_trans l m)) (≤_refl (nat 0)) l m

pub difference : {x y : Float} {v : ℚ} → Voltage x v → Voltage y v → Difference (x ⊖ y) (value x -q value y) v
unfolding computing
difference X Y = rel_⊖ X Y (nat (2 ^ 15)) (1 // 2 ^ 53) (1 // 2 ^ 1075) tt

-- ---- lambda and the modulation 1 + lambda vds
abbrev pub Lambda : Float → Type 0
Lambda lambda = Rel lambda (value lambda) (value lambda) (nat (2 ^ 4)) (nat 0) (nat 0)

abbrev pub Modulation : Float → ℚ → ℚ → Type 0
Modulation x z m = Rel x z m (nat (2 ^ 19)) (3 // 2 ^ 53) (1 // 2 ^ 1073)

pub lambda_given : {lambda : Float} → NonNegative lambda → AtMost lambda (pos 4) → Lambda lambda
unfolding computing
lambda_given {lambda} N L =
    let e = abs_of_nonneg N.sign in
    rel_scale (rel_at_most L) (≤_refl (nat 0)) (≤_of_≈ e) (≤_trans (≤_of_≈ (≈_sym e)) (≤_trans L.size (lit_≤ tt)))

pub modulation_near : {lambda vds : Float} {v : ℚ} → Lambda lambda → Voltage vds v → Modulation (modulation_of lambda vds) (nat 1 +q value lambda *q value vds) (nat 1 +q value lambda *q v)
unfolding computing modulation_of
modulation_near L D = rel_⊕ one (rel_⊗ L D (nat (2 ^ 18)) (1 // 2 ^ 53) (1 // 2 ^ 1075) tt) (nat (2 ^ 19)) (3 // 2 ^ 53) (1 // 2 ^ 1073) tt
