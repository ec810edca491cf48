-- The products and the quotient of parameters that an evaluation forms first, and the polarity as a range.
use mathlib.Core.Path.{sym, subst}
use mathlib.Core.Logic.{inl, inr}
use lib.IntN.{pos}
use lib.Ieee.{Float}
use Rattle.exact.specs.Fraction.{nat, negq}
use Rattle.exact.specs.Float64.{◌⊗◌}
use Rattle.exact.specs.Size.{minus, AtMost, Range}
use Rattle.exact.proofs.FractionLaws.{lit_≤}
use Rattle.exact.proofs.Computing.{computing}
use Rattle.exact.proofs.Ranges.{range_weaken, range_neg}
use Rattle.exact.proofs.Sizes.{at_most_⊗}
use Rattle.temperature_sizes.proofs.Potentials.{one_range}
use Rattle.device.specs.declared.Card.{Card}
use Rattle.device.specs.declared.Geometry.{Geometry}
use Rattle.device.specs.declared.Scaled.{Scaled}
use Rattle.parameter_sizes.specs.ParameterSizes.{FromZero, Between, CardSizes, GeometrySizes, ScaledSizes}
use Rattle.parameter_sizes.proofs.SizeLaws.{between_from_zero, from_zero_⊗, between_⊘}

-- W / L
pub ratio_between : {g : Geometry} → GeometrySizes g → Between g.w_over_l (minus 30) (pos 30)
unfolding computing
ratio_between G = subst (λ (x : Float). Between x (minus 30) (pos 30)) (sym G.w_over_l) (between_⊘ G.w G.l tt tt)

-- KP(T) W / L
pub gain_from_zero : {g : Geometry} {s : Scaled} → GeometrySizes g → ScaledSizes s → FromZero (s.kp_t ⊗ g.w_over_l) (pos 39)
unfolding computing
gain_from_zero G S = from_zero_⊗ S.kp_t (between_from_zero (ratio_between G)) tt

module _ {s : Scaled} (S : ScaledSizes s) where
  -- the saturation current at the temperature, of either junction
  pub isat_from_zero : {isat : Float} → FromZero isat (pos 20) → FromZero (isat ⊗ s.isat_t_factor) (pos 88)
  unfolding computing
  isat_from_zero I = from_zero_⊗ I (between_from_zero S.isat_t_factor) tt

  -- the bottom and the sidewall capacitance at the temperature, of either junction and either sign
  pub bottom_at_most : {bottom : Float} → FromZero bottom (pos 0) → AtMost (bottom ⊗ s.cj_t_factor) (pos 120)
  unfolding computing
  bottom_at_most B = at_most_⊗ B.at_most S.cj_t_factor.at_most tt

  pub sidewall_at_most : {sidewall : Float} → FromZero sidewall (pos 10) → AtMost (sidewall ⊗ s.cjsw_t_factor) (pos 130)
  unfolding computing
  sidewall_at_most B = at_most_⊗ B.at_most S.cjsw_t_factor.at_most tt

-- 1 or -1
pub polarity_range : {c : Card} → CardSizes c → Range c.polarity (negq (nat 1)) (nat 1)
unfolding computing
polarity_range {c} C = elim C.polarity [
  | inl e ↦ subst (λ (x : Float). Range x (negq (nat 1)) (nat 1)) (sym e) (range_weaken one_range (lit_≤ tt) (lit_≤ tt))
  | inr e ↦ subst (λ (x : Float). Range x (negq (nat 1)) (nat 1)) (sym e) (range_weaken (range_neg one_range) (lit_≤ tt) (lit_≤ tt))
]
