-- The channel's part of demand 3: the current that the loaded conductances and jeq return at the kept voltages, against "the formula's
-- current alone". Over plain floats, with exact values as fractions.
use Rattle.std.specs.Prelude.{◌^◌, ◌≡◌, ◌⊎◌, cond, T, pos, Float}
use Rattle.std.specs.Float.Ieee.{neg}
use Rattle.std.specs.Float.Ieee.Scale.{finite}
use Rattle.exact.specs.Fraction.{ℚ, ◌//◌, nat, ◌+q◌, ◌-q◌, ◌*q◌, ◌/q◌, absq, max4, leqb, ltqb, Within}
use Rattle.exact.specs.FloatValue.{value}
use Rattle.exact.specs.Float64.{◌⊕◌, ◌⊗◌, ◌⊘◌, +1}
use Rattle.exact.specs.Size.{minus, AtMost, AtLeast, NonNegative, Positive}
use Rattle.channel.specs.Channel.{shichman_hodges_of, norton_current_of}
use Rattle.channel.specs.declared.Channel.{Channel}

-- what an evaluation hands the channel: the polarity (1 or -1), kp_t, W, L, lambda, the answered vth and its slope dvth/dvbs, the kept
-- vgs and vds (flipped), the rounded difference of the nodes' bulk and source voltages (not flipped), gmin
pub record ChannelInputs : Type 0 where
  pub pol : Float
  pub kp : Float
  pub w : Float
  pub l : Float
  pub lambda : Float
  pub vth : Float
  pub slope : Float
  pub vgs : Float
  pub vds : Float
  pub node_vbs : Float
  pub gmin : Float

-- ---- what is loaded, by the Level-1 definition
-- vbs, "that evaluation's, flipped"
unfoldable pub vbs_of : ChannelInputs → Float
vbs_of i = i.pol ⊗ i.node_vbs

unfoldable pub evaluated_of : ChannelInputs → Channel
evaluated_of i = shichman_hodges_of (i.kp ⊗ (i.w ⊘ i.l)) i.vgs i.vds i.vth i.lambda i.slope

pub record ChannelStamp : Type 0 where
  pub gm : Float
  pub gds : Float
  pub gmbs : Float
  pub jeq : Float

-- "gds carries gmin on top"; jeq is taken at the voltages and the current turned back by the polarity
unfoldable pub stamp_from_of : ChannelInputs → Channel → ChannelStamp
stamp_from_of i at = record {
  gm = at.gm;
  gds = at.gds ⊕ i.gmin;
  gmbs = at.gmbs;
  jeq = norton_current_of (i.pol ⊗ at.ids) at.gm (i.pol ⊗ i.vgs) (at.gds ⊕ i.gmin) (i.pol ⊗ i.vds) at.gmbs i.node_vbs;
}

unfoldable pub stamp_of : ChannelInputs → ChannelStamp
stamp_of i = stamp_from_of i (evaluated_of i)

-- "gm·vgs + gds·vds + gmbs·vbs + jeq, at the kept vgs and vds"; "polarity multiplies jeq"
unfoldable pub returned_current : ChannelInputs → ChannelStamp → ℚ
returned_current i s = value s.gm *q value i.vgs +q value s.gds *q value i.vds +q value s.gmbs *q value (vbs_of i) +q value i.pol *q value s.jeq

-- ---- the formula of Shichman and Hodges, exactly; vdsat = vgs - vth
-- "b = kp_t·W/L"
unfoldable pub exact_beta : ChannelInputs → ℚ
exact_beta i = value i.kp *q (value i.w /q value i.l)

-- b (vdsat vds - vds² / 2) (1 + lambda vds)
unfoldable pub triode_current : (b vdsat vds lambda : ℚ) → ℚ
triode_current b vdsat vds lambda = b *q (vdsat *q vds -q 1 // 2 *q vds *q vds) *q (nat 1 +q lambda *q vds)

-- b / 2 vdsat² (1 + lambda vds)
unfoldable pub saturation_current : (b vdsat vds lambda : ℚ) → ℚ
saturation_current b vdsat vds lambda = 1 // 2 *q b *q vdsat *q vdsat *q (nat 1 +q lambda *q vds)

-- "vgs < vth is cutoff; equality conducts. vds < vdsat is triode, also for negative vds. Equality is saturation." By exact comparison.
unfoldable pub exact_current : (b vgs vds vth lambda : ℚ) → ℚ
exact_current b vgs vds vth lambda =
    cond (ltqb vgs vth) (nat 0) (cond (ltqb vds (vgs -q vth)) (triode_current b (vgs -q vth) vds lambda) (saturation_current b (vgs -q vth) vds lambda))

-- "the formula's current alone, with the answered vth", at the kept voltages
unfoldable pub formula_current : ChannelInputs → ℚ
formula_current i = exact_current (exact_beta i) (value i.vgs) (value i.vds) (value i.vth) (value i.lambda)

-- ---- the bound
-- "V the largest size among vgs, vds, vbs, vth"
unfoldable pub largest_voltage : ChannelInputs → ℚ
largest_voltage i = max4 (absq (value i.vgs)) (absq (value i.vds)) (absq (value (vbs_of i))) (absq (value i.vth))

-- "r the size of gmbs/gm, 0 at gm 0"
unfoldable pub body_ratio : (gm gmbs : ℚ) → ℚ
body_ratio gm gmbs = cond (leqb (absq gm) (nat 0)) (nat 0) (absq (gmbs /q gm))

-- "b·V·V·(1 + lambda·V)·(1 + r) + gmin·V"
unfoldable pub scale_from : (b v lambda r gmin : ℚ) → ℚ
scale_from b v lambda r gmin = b *q v *q v *q (nat 1 +q lambda *q v) *q (nat 1 +q r) +q gmin *q v

unfoldable pub channel_scale : ChannelInputs → ChannelStamp → ℚ
channel_scale i s = scale_from (exact_beta i) (largest_voltage i) (value i.lambda) (body_ratio (value s.gm) (value s.gmbs)) (value i.gmin)

-- the mission's "within 2^-40" of the scale, and 2^-900 for what underflows
unfoldable pub bound_from : ℚ → ℚ
bound_from scale = 1 // 2 ^ 40 *q scale +q 1 // 2 ^ 900

-- ---- the claim, of what is loaded: all of it is finite, and returns the formula's current within the bound
pub record ChannelReturns (i : ChannelInputs) (s : ChannelStamp) : Type 0 where
  pub gm_finite : T (finite s.gm)
  pub gds_finite : T (finite s.gds)
  pub gmbs_finite : T (finite s.gmbs)
  pub jeq_finite : T (finite s.jeq)
  pub close : Within (returned_current i s) (formula_current i) (bound_from (channel_scale i s))

-- ---- the premises: sizes and signs that hold at every accepted evaluation
pub record ChannelSizes (i : ChannelInputs) : Type 0 where
  pub polarity : (i.pol ≡ +1) ⊎ (i.pol ≡ neg +1)
  pub kp_sign : NonNegative i.kp
  pub kp_size : AtMost i.kp (pos 9)
  pub w_sign : NonNegative i.w
  pub w_size : AtMost i.w (pos 0)
  pub l_sign : Positive i.l
  pub l_size : AtMost i.l (pos 0)
  pub l_least : AtLeast i.l (minus 30)
  pub lambda_sign : NonNegative i.lambda
  pub lambda_size : AtMost i.lambda (pos 4)
  pub vth_size : AtMost i.vth (pos 14)
  pub slope_size : AtMost i.slope (pos 24)
  pub vgs_size : AtMost i.vgs (pos 11)
  pub vds_size : AtMost i.vds (pos 11)
  pub node_vbs_size : AtMost i.node_vbs (pos 11)
  pub gmin_sign : NonNegative i.gmin
  pub gmin_size : AtMost i.gmin (pos 0)
