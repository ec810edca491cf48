-- From node voltages to the operating point: flip by polarity, limit, decide.
use Rattle.std.specs.Prelude.{Bool, cond, Float}
use Rattle.exact.specs.Float64.{◌⊕◌, ◌⊖◌, ◌⊗◌}
use Rattle.device.specs.declared.Card.{Card}
use Rattle.device.specs.declared.Geometry.{Geometry}
use Rattle.device.specs.declared.Scaled.{Scaled}
use Rattle.device.specs.declared.OperatingPoint.{OperatingPoint}
use Rattle.threshold.specs.Limiter.{limited_vgs_of, limited_vds_of}
use Rattle.threshold.specs.Threshold.{body_potential_of, threshold_of, body_slope_of}
use Rattle.channel.specs.Channel.{shichman_hodges_of, norton_current_of}
use Rattle.junction.specs.Junction.{bulk_junction_of, junction_at_of, junction_offset_of}
use Rattle.channel.specs.declared.Channel.{Channel}
use Rattle.junction.specs.declared.Junction.{Junction}
use Rattle.bias.specs.declared.Voltages.{Voltages}
use Rattle.bias.specs.declared.Kept.{Kept}
use Rattle.bias.specs.declared.Answer.{Answer}
use Rattle.bias.specs.declared.JunctionStamp.{JunctionStamp}

-- vgs and vds flipped, then limited where the switch is on; vto is the flipped zero-bias threshold
unfoldable pub kept_of : Float → Float → Voltages → Bool → Float → Float → Kept
kept_of pol vto v limiter vgs1 vds1 =
    cond limiter
    (record { vgs = limited_vgs_of vto (pol ⊗ (v.vg ⊖ v.vs)) vgs1; vds = limited_vds_of (pol ⊗ (v.vd ⊖ v.vs)) vds1 })
    (record { vgs = pol ⊗ (v.vg ⊖ v.vs); vds = pol ⊗ (v.vd ⊖ v.vs) })

-- phi_t less the flipped vbs of the nodes
unfoldable pub evaluated_body_of : Card → Scaled → Voltages → Float
evaluated_body_of card scaled v = body_potential_of scaled.phi_t (card.polarity ⊗ (v.vb ⊖ v.vs))

unfoldable pub evaluated_vth_of : Card → Scaled → Voltages → Float
evaluated_vth_of card scaled v = threshold_of (card.polarity ⊗ scaled.vto_t) card.gamma scaled.phi_t (evaluated_body_of card scaled v)

-- the channel at the kept voltages
unfoldable pub evaluated_channel_of : Card → Geometry → Scaled → Voltages → Kept → Channel
evaluated_channel_of card geometry scaled v kept =
    shichman_hodges_of (scaled.kp_t ⊗ geometry.w_over_l) kept.vgs kept.vds (evaluated_vth_of card scaled v) card.lambda
    (body_slope_of card.gamma (evaluated_body_of card scaled v))

-- the current is turned back by the polarity; gds carries gmin on top
unfoldable pub answer_from_of : Float → Float → Kept → Float → Channel → Answer
answer_from_of pol vth kept gmin at = record {
  vgs = kept.vgs;
  vds = kept.vds;
  vth = vth;
  ids = pol ⊗ at.ids;
  gm = at.gm;
  gds = at.gds ⊕ gmin;
  gmbs = at.gmbs;
}

unfoldable pub channel_answer_of : Card → Geometry → Scaled → Voltages → Kept → Float → Answer
channel_answer_of card geometry scaled v kept gmin =
    answer_from_of card.polarity (evaluated_vth_of card scaled v) kept gmin (evaluated_channel_of card geometry scaled v kept)

unfoldable pub stamp_from_of : Float → Float → Junction → JunctionStamp
stamp_from_of pol v at = record { g = at.g; eq = junction_offset_of pol at.i at.g v }

-- v is a voltage from the bulk, not flipped
unfoldable pub junction_stamp_of : Float → Float → Float → Float → Float → JunctionStamp
junction_stamp_of isat pol v vt gmin = stamp_from_of pol (pol ⊗ v) (bulk_junction_of isat (pol ⊗ v) vt gmin)

-- the same from the junction's exponential e, which is at the flipped voltage
unfoldable pub junction_stamp_at_of : Float → Float → Float → Float → Float → Float → JunctionStamp
junction_stamp_at_of isat e pol v vt gmin = stamp_from_of pol (pol ⊗ v) (junction_at_of isat e (pol ⊗ v) vt gmin)

-- what an evaluation leaves; jeq is taken at the kept vgs and vds, turned back, and the nodes' vbs
unfoldable pub operating_point_of : Float → Answer → Float → JunctionStamp → JunctionStamp → OperatingPoint
operating_point_of pol a vbs bs bd = record {
  ids_eval = a.ids;
  gbs = bs.g;
  gbd = bd.g;
  ibs_eq = bs.eq;
  ibd_eq = bd.eq;
  gm = a.gm;
  gds = a.gds;
  gmbs = a.gmbs;
  jeq = norton_current_of a.ids a.gm (pol ⊗ a.vgs) a.gds (pol ⊗ a.vds) a.gmbs vbs;
  vgs_eff_prev = a.vgs;
  vds_eff_prev = a.vds;
}
