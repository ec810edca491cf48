-- The capacitances and charges of a transient evaluation.
use Rattle.std.specs.Prelude.{Float}
use Rattle.exact.specs.Float64.{◌⊕◌, ◌⊖◌, ◌⊗◌, +0, maximum}
use Rattle.device.specs.declared.Card.{Card}
use Rattle.device.specs.declared.Charges as device
use Rattle.device.specs.declared.Geometry.{Geometry}
use Rattle.device.specs.declared.Scaled.{Scaled}
use Rattle.channel.specs.Channel.{region_of}
use Rattle.capacitance.specs.Meyer.{meyer_of}
use Rattle.capacitance.specs.Depletion.{cj_depl_of, q_depl_of}
use Rattle.capacitance.specs.declared.GateShares.{GateShares}
use Rattle.capacitance.specs.declared.Grading.{Grading}
use Rattle.bias.specs.declared.Voltages.{Voltages}

-- what grades the junctions: the card's coefficients at the scaling's temperature
unfoldable pub grading_of : Card → Scaled → Grading
grading_of card scaled = record {
  fc = card.fc;
  pb_t = scaled.pb_t;
  mj = card.mj;
  mjsw = card.mjsw;
  cj_t_factor = scaled.cj_t_factor;
  cjsw_t_factor = scaled.cjsw_t_factor;
}

-- Meyer's shares in the channel's region, with vdsat = vgs - vth but at least 0
unfoldable pub gate_shares_of : Float → Float → Float → Float → GateShares
gate_shares_of vgs vds vth cox = meyer_of (region_of vgs vth vds (maximum (vgs ⊖ vth) +0)) cox

-- overlap and share at the gate, depletion at the junctions; charges at the nodes' voltages, for PMOS too not flipped
unfoldable pub charges_of : Geometry → GateShares → Grading → Voltages → device.Charges
charges_of geometry shares grading v =
    let cgs = geometry.cgs_ov ⊕ shares.gs in
    let cgd = geometry.cgd_ov ⊕ shares.gd in
    let cgb = geometry.cgb_ov ⊕ shares.gb in
    let vbs = v.vb ⊖ v.vs in
    let vbd = v.vb ⊖ v.vd in
    record {
      cgs_eval = cgs;
      cgd_eval = cgd;
      cgb_eval = cgb;
      q_gs_eval = cgs ⊗ (v.vg ⊖ v.vs);
      q_gd_eval = cgd ⊗ (v.vg ⊖ v.vd);
      q_gb_eval = cgb ⊗ (v.vg ⊖ v.vb);
      vbs_eval = vbs;
      vbd_eval = vbd;
      cbs_eval = cj_depl_of grading geometry.cbs_bot geometry.cbs_sw vbs;
      cbd_eval = cj_depl_of grading geometry.cbd_bot geometry.cbd_sw vbd;
      q_bs_eval = q_depl_of grading geometry.cbs_bot geometry.cbs_sw vbs;
      q_bd_eval = q_depl_of grading geometry.cbd_bot geometry.cbd_sw vbd;
    }
