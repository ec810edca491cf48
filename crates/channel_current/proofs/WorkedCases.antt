-- The definitions at numbers: the exact current at the cases of the scope paper, the scale, and a whole PMOS channel that meets the premises and
-- returns its current exactly.
use mathlib.Core.Path.{refl}
use mathlib.Core.Logic.{inr}
use lib.Ieee.{binary64, round, neg, add, sub, mul, div, lt, of_bits}
use Rattle.exact.specs.Fraction.{◌//◌, nat, negq, ◌≈q◌}
use Rattle.exact.specs.Float64.{+1}
use Rattle.exact.proofs.Computing.{computing}
use Rattle.exact.proofs.FractionLaws.{lit_≤}
use Rattle.exact.proofs.StrictOrder.{lit_<, lit_≈}
use Rattle.channel.specs.Channel.{region_of, modulation_of, body_transconductance_of, saturation_of, in_region_of, shichman_hodges_of, norton_current_of}
use Rattle.channel_current.specs.ChannelCurrent.{ChannelInputs, vbs_of, evaluated_of, stamp_from_of, stamp_of, returned_current, exact_beta, triode_current, saturation_current, exact_current, formula_current, largest_voltage, body_ratio, scale_from, channel_scale, ChannelSizes}

-- ---- cases 1, 3, 4, 5 and 6: b 2, vth 1
case_1 : exact_current (nat 2) (1 // 2) (nat 1) (nat 1) (nat 0) ≈q nat 0
unfolding computing exact_current
case_1 = lit_≈ tt tt

case_3 : exact_current (nat 2) (nat 3) (nat 1) (nat 1) (nat 0) ≈q nat 3
unfolding computing exact_current triode_current
case_3 = lit_≈ tt tt

case_4 : exact_current (nat 2) (nat 3) (nat 2) (nat 1) (nat 0) ≈q nat 4
unfolding computing exact_current saturation_current
case_4 = lit_≈ tt tt

case_5 : exact_current (nat 2) (nat 3) (nat 4) (nat 1) (1 // 2) ≈q nat 12
unfolding computing exact_current saturation_current
case_5 = lit_≈ tt tt

case_6 : exact_current (nat 2) (nat 3) (negq (nat 1)) (nat 1) (nat 0) ≈q negq (nat 5)
unfolding computing exact_current triode_current
case_6 = lit_≈ tt tt

-- ---- 2 · 3 · 3 · (1 + 3/2) · (1 + 1) + 3/2
scale_at_numbers : scale_from (nat 2) (nat 3) (1 // 2) (nat 1) (1 // 2) ≈q 183 // 2
unfolding computing scale_from
scale_at_numbers = lit_≈ tt tt

-- ---- a depletion PMOS in saturation: b 2, vth -9, vdsat 1, ids 2, gm 4, gds 1 with gmin, gmbs 4, jeq -52
abbrev pmos : ChannelInputs
pmos = record {
  pol = neg +1;
  kp = +1;
  w = +1;
  l = of_bits binary64 0x3fe0_0000_0000_0000;
  lambda = of_bits binary64 0x3fe0_0000_0000_0000;
  vth = of_bits binary64 0xc022_0000_0000_0000;
  slope = neg +1;
  vgs = of_bits binary64 0xc020_0000_0000_0000;
  vds = of_bits binary64 0x4000_0000_0000_0000;
  node_vbs = of_bits binary64 0x4014_0000_0000_0000;
  gmin = of_bits binary64 0x3fe0_0000_0000_0000;
}

pmos_sizes : ChannelSizes pmos
unfolding computing neg
pmos_sizes = record {
  polarity = inr refl;
  kp_sign = record { fin = tt; sign = lit_≤ tt };
  kp_size = record { fin = tt; size = lit_≤ tt };
  w_sign = record { fin = tt; sign = lit_≤ tt };
  w_size = record { fin = tt; size = lit_≤ tt };
  l_sign = record { fin = tt; sign = lit_< tt };
  l_size = record { fin = tt; size = lit_≤ tt };
  l_least = record { fin = tt; size = lit_≤ tt };
  lambda_sign = record { fin = tt; sign = lit_≤ tt };
  lambda_size = record { fin = tt; size = lit_≤ tt };
  vth_size = record { fin = tt; size = lit_≤ tt };
  slope_size = record { fin = tt; size = lit_≤ tt };
  vgs_size = record { fin = tt; size = lit_≤ tt };
  vds_size = record { fin = tt; size = lit_≤ tt };
  node_vbs_size = record { fin = tt; size = lit_≤ tt };
  gmin_sign = record { fin = tt; sign = lit_≤ tt };
  gmin_size = record { fin = tt; size = lit_≤ tt };
}

pmos_formula : formula_current pmos ≈q nat 2
unfolding computing formula_current exact_beta exact_current saturation_current
pmos_formula = lit_≈ tt tt

pmos_returns : returned_current pmos (stamp_of pmos) ≈q nat 2
unfolding computing round neg add sub mul div lt vbs_of evaluated_of stamp_from_of stamp_of returned_current region_of modulation_of body_transconductance_of saturation_of in_region_of shichman_hodges_of norton_current_of
pmos_returns = lit_≈ tt tt

pmos_largest_voltage : largest_voltage pmos ≈q nat 9
unfolding computing round neg mul vbs_of largest_voltage
pmos_largest_voltage = lit_≈ tt tt

pmos_scale : channel_scale pmos (stamp_of pmos) ≈q 3573 // 2
unfolding computing round neg add sub mul div lt vbs_of evaluated_of stamp_from_of stamp_of region_of modulation_of body_transconductance_of saturation_of in_region_of shichman_hodges_of largest_voltage exact_beta body_ratio scale_from channel_scale
pmos_scale = lit_≈ tt tt
