-- What `words_of` answers before the contracts of its calls are read: the words of a record with the floats of its whole numbers given.
-- Assumes nothing.
use mathlib.Core.List.{List, [], ◌∷◌}
use lib.Ieee.{Float}
use Rattle.record.specs.declared.DeviceRecord.{DeviceRecord}

abbrev pub words_with : DeviceRecord → Float → Float → Float → Float → Float → Float → Float → Float → Float → Float → Float → Float → Float → Float → Float → Float → Float → Float → Float → Float → Float → List Float
words_with r t0 t1 t2 t3 t4 t5 t6 t7 t8 t9 t10 t11 t12 t13 t14 t15 t16 t17 t18 t19 t20 =
    r.card.vto ∷ r.card.kp ∷ r.card.lambda ∷ r.card.gamma ∷ r.card.phi ∷ t0 ∷ r.card.rd_card.value ∷ t1 ∷ r.card.rs_card.value ∷ r.card.rsh ∷ r.card.is_bulk ∷ r.card.js ∷ r.card.kf ∷ r.card.af ∷ r.card.tnom ∷ r.card.polarity ∷ r.card.cgso ∷ r.card.cgdo ∷ r.card.cgbo ∷ r.card.cox ∷ r.card.cj ∷ r.card.cjsw ∷ r.card.pb ∷ r.card.mj ∷ r.card.mjsw ∷ r.card.fc ∷ r.geometry.rd ∷ r.geometry.rs ∷ r.geometry.nrd ∷ r.geometry.nrs ∷ r.geometry.isat_bs ∷ r.geometry.isat_bd ∷ r.geometry.w ∷ r.geometry.l ∷ r.geometry.w_over_l ∷ r.geometry.as_ ∷ r.geometry.ad ∷ r.geometry.ps ∷ r.geometry.pd ∷ r.geometry.cgs_ov ∷ r.geometry.cgd_ov ∷ r.geometry.cgb_ov ∷ r.geometry.cox_wl ∷ r.geometry.cbs_bot ∷ r.geometry.cbs_sw ∷ r.geometry.cbd_bot ∷ r.geometry.cbd_sw ∷ r.scaled.isat_t_factor ∷ r.scaled.pb_t ∷ r.scaled.cj_t_factor ∷ r.scaled.cjsw_t_factor ∷ r.scaled.vto_t ∷ r.scaled.kp_t ∷ r.scaled.phi_t ∷ t2 ∷ t3 ∷ t4 ∷ t5 ∷ t6 ∷ t7 ∷ t8 ∷ t9 ∷ t10 ∷ t11 ∷ t12 ∷ t13 ∷ r.point.ids_eval ∷ r.point.gbs ∷ r.point.gbd ∷ r.point.ibs_eq ∷ r.point.ibd_eq ∷ r.point.gm ∷ r.point.gds ∷ r.point.gmbs ∷ r.point.jeq ∷ r.point.vgs_eff_prev ∷ r.point.vds_eff_prev ∷ r.charges.cgs_eval ∷ r.charges.cgd_eval ∷ r.charges.cgb_eval ∷ r.charges.q_gs_eval ∷ r.charges.q_gd_eval ∷ r.charges.q_gb_eval ∷ r.charges.vbs_eval ∷ r.charges.vbd_eval ∷ r.charges.cbs_eval ∷ r.charges.cbd_eval ∷ r.charges.q_bs_eval ∷ r.charges.q_bd_eval ∷ r.histories.gs_hist.q_prev ∷ t14 ∷ r.histories.gs_hist.q_prev2.value ∷ r.histories.gs_hist.i_prev ∷ r.histories.gd_hist.q_prev ∷ t15 ∷ r.histories.gd_hist.q_prev2.value ∷ r.histories.gd_hist.i_prev ∷ r.histories.gb_hist.q_prev ∷ t16 ∷ r.histories.gb_hist.q_prev2.value ∷ r.histories.gb_hist.i_prev ∷ r.histories.bs_hist.q_prev ∷ t17 ∷ r.histories.bs_hist.q_prev2.value ∷ r.histories.bs_hist.i_prev ∷ r.histories.bd_hist.q_prev ∷ t18 ∷ r.histories.bd_hist.q_prev2.value ∷ r.histories.bd_hist.i_prev ∷ t19 ∷ r.method.h ∷ r.method.h_prev ∷ t20 ∷ []
