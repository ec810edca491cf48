-- Where the checker's memory model lays the fields of the C record: each at eight bytes times the number of the word that `record_of` reads
-- it from. So the 113 words from a record's first byte on are that record.
-- Assumes nothing.
use Prim.Native.Nat.{ℕ, zero, suc, ◌+◌, ◌*◌}
use mathlib.Core.Path.{◌≡◌, refl}
use mathlib.Core.List.{List, [], ◌∷◌, ◌++◌, map}
use mathlib.Core.Bool.{Bool, true, false, ◌&&◌, ◌||◌}
use lib.Dec.{eqb}
use mathlib.Core.Option.{Option, some, none}
use lib.ListN.{get_or}
use lib.Ieee.{Float, nan, binary64}
use mir.Syntax.{Ty, ty_int, ty_float, w64}
use prog.Memory.{size, field_of}
use Rattle.record.specs.declared.DeviceRecord.{DeviceRecord}
use Rattle.record.proofs.DeviceRecord.TheLaws as DeviceRecord
use Rattle.record_words.specs.Words.{whole_of, given_at, node_at, history_at, card_of, geometry_of, scaled_of, terminals_of, point_of, charges_of, histories_of, method_of, record_of}

-- the field that a path leads to: its type, and its first byte behind the first byte of the whole
behind : ℕ → Option (Ty × ℕ) → Option (Ty × ℕ)
behind b none = none
behind b (some (t, a)) = some (t, b + a)

into : Option (Ty × ℕ) → ℕ → Option (Ty × ℕ)
into none f = none
into (some (t, b)) f = behind b (field_of t f)

along : Option (Ty × ℕ) → List ℕ → Option (Ty × ℕ)
along p [] = p
along p (f ∷ fs) = along (into p f) fs

pub place_of : Ty → List ℕ → Option (Ty × ℕ)
place_of t fs = along (some (t, 0)) fs

-- a field of the record: its path, as numbers of fields in the order of their declarations, how it is read, and its word
pub record Field (A : Type 0) : Type 0 where
  pub path : List ℕ
  pub read : DeviceRecord → A
  pub word : ℕ

pub floats : List (Field Float)
floats =
    record { path = 0 ∷ 0 ∷ []; read = λ r. r.card.vto; word = 0 }
    ∷ record { path = 0 ∷ 1 ∷ []; read = λ r. r.card.kp; word = 1 }
    ∷ record { path = 0 ∷ 2 ∷ []; read = λ r. r.card.lambda; word = 2 }
    ∷ record { path = 0 ∷ 3 ∷ []; read = λ r. r.card.gamma; word = 3 }
    ∷ record { path = 0 ∷ 4 ∷ []; read = λ r. r.card.phi; word = 4 }
    ∷ record { path = 0 ∷ 5 ∷ 1 ∷ []; read = λ r. r.card.rd_card.value; word = 6 }
    ∷ record { path = 0 ∷ 6 ∷ 1 ∷ []; read = λ r. r.card.rs_card.value; word = 8 }
    ∷ record { path = 0 ∷ 7 ∷ []; read = λ r. r.card.rsh; word = 9 }
    ∷ record { path = 0 ∷ 8 ∷ []; read = λ r. r.card.is_bulk; word = 10 }
    ∷ record { path = 0 ∷ 9 ∷ []; read = λ r. r.card.js; word = 11 }
    ∷ record { path = 0 ∷ 10 ∷ []; read = λ r. r.card.kf; word = 12 }
    ∷ record { path = 0 ∷ 11 ∷ []; read = λ r. r.card.af; word = 13 }
    ∷ record { path = 0 ∷ 12 ∷ []; read = λ r. r.card.tnom; word = 14 }
    ∷ record { path = 0 ∷ 13 ∷ []; read = λ r. r.card.polarity; word = 15 }
    ∷ record { path = 0 ∷ 14 ∷ []; read = λ r. r.card.cgso; word = 16 }
    ∷ record { path = 0 ∷ 15 ∷ []; read = λ r. r.card.cgdo; word = 17 }
    ∷ record { path = 0 ∷ 16 ∷ []; read = λ r. r.card.cgbo; word = 18 }
    ∷ record { path = 0 ∷ 17 ∷ []; read = λ r. r.card.cox; word = 19 }
    ∷ record { path = 0 ∷ 18 ∷ []; read = λ r. r.card.cj; word = 20 }
    ∷ record { path = 0 ∷ 19 ∷ []; read = λ r. r.card.cjsw; word = 21 }
    ∷ record { path = 0 ∷ 20 ∷ []; read = λ r. r.card.pb; word = 22 }
    ∷ record { path = 0 ∷ 21 ∷ []; read = λ r. r.card.mj; word = 23 }
    ∷ record { path = 0 ∷ 22 ∷ []; read = λ r. r.card.mjsw; word = 24 }
    ∷ record { path = 0 ∷ 23 ∷ []; read = λ r. r.card.fc; word = 25 }
    ∷ record { path = 1 ∷ 0 ∷ []; read = λ r. r.geometry.rd; word = 26 }
    ∷ record { path = 1 ∷ 1 ∷ []; read = λ r. r.geometry.rs; word = 27 }
    ∷ record { path = 1 ∷ 2 ∷ []; read = λ r. r.geometry.nrd; word = 28 }
    ∷ record { path = 1 ∷ 3 ∷ []; read = λ r. r.geometry.nrs; word = 29 }
    ∷ record { path = 1 ∷ 4 ∷ []; read = λ r. r.geometry.isat_bs; word = 30 }
    ∷ record { path = 1 ∷ 5 ∷ []; read = λ r. r.geometry.isat_bd; word = 31 }
    ∷ record { path = 1 ∷ 6 ∷ []; read = λ r. r.geometry.w; word = 32 }
    ∷ record { path = 1 ∷ 7 ∷ []; read = λ r. r.geometry.l; word = 33 }
    ∷ record { path = 1 ∷ 8 ∷ []; read = λ r. r.geometry.w_over_l; word = 34 }
    ∷ record { path = 1 ∷ 9 ∷ []; read = λ r. r.geometry.as_; word = 35 }
    ∷ record { path = 1 ∷ 10 ∷ []; read = λ r. r.geometry.ad; word = 36 }
    ∷ record { path = 1 ∷ 11 ∷ []; read = λ r. r.geometry.ps; word = 37 }
    ∷ record { path = 1 ∷ 12 ∷ []; read = λ r. r.geometry.pd; word = 38 }
    ∷ record { path = 1 ∷ 13 ∷ []; read = λ r. r.geometry.cgs_ov; word = 39 }
    ∷ record { path = 1 ∷ 14 ∷ []; read = λ r. r.geometry.cgd_ov; word = 40 }
    ∷ record { path = 1 ∷ 15 ∷ []; read = λ r. r.geometry.cgb_ov; word = 41 }
    ∷ record { path = 1 ∷ 16 ∷ []; read = λ r. r.geometry.cox_wl; word = 42 }
    ∷ record { path = 1 ∷ 17 ∷ []; read = λ r. r.geometry.cbs_bot; word = 43 }
    ∷ record { path = 1 ∷ 18 ∷ []; read = λ r. r.geometry.cbs_sw; word = 44 }
    ∷ record { path = 1 ∷ 19 ∷ []; read = λ r. r.geometry.cbd_bot; word = 45 }
    ∷ record { path = 1 ∷ 20 ∷ []; read = λ r. r.geometry.cbd_sw; word = 46 }
    ∷ record { path = 2 ∷ 0 ∷ []; read = λ r. r.scaled.isat_t_factor; word = 47 }
    ∷ record { path = 2 ∷ 1 ∷ []; read = λ r. r.scaled.pb_t; word = 48 }
    ∷ record { path = 2 ∷ 2 ∷ []; read = λ r. r.scaled.cj_t_factor; word = 49 }
    ∷ record { path = 2 ∷ 3 ∷ []; read = λ r. r.scaled.cjsw_t_factor; word = 50 }
    ∷ record { path = 2 ∷ 4 ∷ []; read = λ r. r.scaled.vto_t; word = 51 }
    ∷ record { path = 2 ∷ 5 ∷ []; read = λ r. r.scaled.kp_t; word = 52 }
    ∷ record { path = 2 ∷ 6 ∷ []; read = λ r. r.scaled.phi_t; word = 53 }
    ∷ record { path = 4 ∷ 0 ∷ []; read = λ r. r.point.ids_eval; word = 66 }
    ∷ record { path = 4 ∷ 1 ∷ []; read = λ r. r.point.gbs; word = 67 }
    ∷ record { path = 4 ∷ 2 ∷ []; read = λ r. r.point.gbd; word = 68 }
    ∷ record { path = 4 ∷ 3 ∷ []; read = λ r. r.point.ibs_eq; word = 69 }
    ∷ record { path = 4 ∷ 4 ∷ []; read = λ r. r.point.ibd_eq; word = 70 }
    ∷ record { path = 4 ∷ 5 ∷ []; read = λ r. r.point.gm; word = 71 }
    ∷ record { path = 4 ∷ 6 ∷ []; read = λ r. r.point.gds; word = 72 }
    ∷ record { path = 4 ∷ 7 ∷ []; read = λ r. r.point.gmbs; word = 73 }
    ∷ record { path = 4 ∷ 8 ∷ []; read = λ r. r.point.jeq; word = 74 }
    ∷ record { path = 4 ∷ 9 ∷ []; read = λ r. r.point.vgs_eff_prev; word = 75 }
    ∷ record { path = 4 ∷ 10 ∷ []; read = λ r. r.point.vds_eff_prev; word = 76 }
    ∷ record { path = 5 ∷ 0 ∷ []; read = λ r. r.charges.cgs_eval; word = 77 }
    ∷ record { path = 5 ∷ 1 ∷ []; read = λ r. r.charges.cgd_eval; word = 78 }
    ∷ record { path = 5 ∷ 2 ∷ []; read = λ r. r.charges.cgb_eval; word = 79 }
    ∷ record { path = 5 ∷ 3 ∷ []; read = λ r. r.charges.q_gs_eval; word = 80 }
    ∷ record { path = 5 ∷ 4 ∷ []; read = λ r. r.charges.q_gd_eval; word = 81 }
    ∷ record { path = 5 ∷ 5 ∷ []; read = λ r. r.charges.q_gb_eval; word = 82 }
    ∷ record { path = 5 ∷ 6 ∷ []; read = λ r. r.charges.vbs_eval; word = 83 }
    ∷ record { path = 5 ∷ 7 ∷ []; read = λ r. r.charges.vbd_eval; word = 84 }
    ∷ record { path = 5 ∷ 8 ∷ []; read = λ r. r.charges.cbs_eval; word = 85 }
    ∷ record { path = 5 ∷ 9 ∷ []; read = λ r. r.charges.cbd_eval; word = 86 }
    ∷ record { path = 5 ∷ 10 ∷ []; read = λ r. r.charges.q_bs_eval; word = 87 }
    ∷ record { path = 5 ∷ 11 ∷ []; read = λ r. r.charges.q_bd_eval; word = 88 }
    ∷ record { path = 6 ∷ 0 ∷ 0 ∷ []; read = λ r. r.histories.gs_hist.q_prev; word = 89 }
    ∷ record { path = 6 ∷ 0 ∷ 1 ∷ 1 ∷ []; read = λ r. r.histories.gs_hist.q_prev2.value; word = 91 }
    ∷ record { path = 6 ∷ 0 ∷ 2 ∷ []; read = λ r. r.histories.gs_hist.i_prev; word = 92 }
    ∷ record { path = 6 ∷ 1 ∷ 0 ∷ []; read = λ r. r.histories.gd_hist.q_prev; word = 93 }
    ∷ record { path = 6 ∷ 1 ∷ 1 ∷ 1 ∷ []; read = λ r. r.histories.gd_hist.q_prev2.value; word = 95 }
    ∷ record { path = 6 ∷ 1 ∷ 2 ∷ []; read = λ r. r.histories.gd_hist.i_prev; word = 96 }
    ∷ record { path = 6 ∷ 2 ∷ 0 ∷ []; read = λ r. r.histories.gb_hist.q_prev; word = 97 }
    ∷ record { path = 6 ∷ 2 ∷ 1 ∷ 1 ∷ []; read = λ r. r.histories.gb_hist.q_prev2.value; word = 99 }
    ∷ record { path = 6 ∷ 2 ∷ 2 ∷ []; read = λ r. r.histories.gb_hist.i_prev; word = 100 }
    ∷ record { path = 6 ∷ 3 ∷ 0 ∷ []; read = λ r. r.histories.bs_hist.q_prev; word = 101 }
    ∷ record { path = 6 ∷ 3 ∷ 1 ∷ 1 ∷ []; read = λ r. r.histories.bs_hist.q_prev2.value; word = 103 }
    ∷ record { path = 6 ∷ 3 ∷ 2 ∷ []; read = λ r. r.histories.bs_hist.i_prev; word = 104 }
    ∷ record { path = 6 ∷ 4 ∷ 0 ∷ []; read = λ r. r.histories.bd_hist.q_prev; word = 105 }
    ∷ record { path = 6 ∷ 4 ∷ 1 ∷ 1 ∷ []; read = λ r. r.histories.bd_hist.q_prev2.value; word = 107 }
    ∷ record { path = 6 ∷ 4 ∷ 2 ∷ []; read = λ r. r.histories.bd_hist.i_prev; word = 108 }
    ∷ record { path = 7 ∷ 1 ∷ []; read = λ r. r.method.h; word = 110 }
    ∷ record { path = 7 ∷ 2 ∷ []; read = λ r. r.method.h_prev; word = 111 }
    ∷ []

pub wholes : List (Field ℕ)
wholes =
    record { path = 0 ∷ 5 ∷ 0 ∷ []; read = λ r. r.card.rd_card.tag; word = 5 }
    ∷ record { path = 0 ∷ 6 ∷ 0 ∷ []; read = λ r. r.card.rs_card.tag; word = 7 }
    ∷ record { path = 3 ∷ 0 ∷ 0 ∷ []; read = λ r. r.terminals.drain_ext.tag; word = 54 }
    ∷ record { path = 3 ∷ 0 ∷ 1 ∷ []; read = λ r. r.terminals.drain_ext.index; word = 55 }
    ∷ record { path = 3 ∷ 1 ∷ 0 ∷ []; read = λ r. r.terminals.source_ext.tag; word = 56 }
    ∷ record { path = 3 ∷ 1 ∷ 1 ∷ []; read = λ r. r.terminals.source_ext.index; word = 57 }
    ∷ record { path = 3 ∷ 2 ∷ 0 ∷ []; read = λ r. r.terminals.drain.tag; word = 58 }
    ∷ record { path = 3 ∷ 2 ∷ 1 ∷ []; read = λ r. r.terminals.drain.index; word = 59 }
    ∷ record { path = 3 ∷ 3 ∷ 0 ∷ []; read = λ r. r.terminals.gate.tag; word = 60 }
    ∷ record { path = 3 ∷ 3 ∷ 1 ∷ []; read = λ r. r.terminals.gate.index; word = 61 }
    ∷ record { path = 3 ∷ 4 ∷ 0 ∷ []; read = λ r. r.terminals.source.tag; word = 62 }
    ∷ record { path = 3 ∷ 4 ∷ 1 ∷ []; read = λ r. r.terminals.source.index; word = 63 }
    ∷ record { path = 3 ∷ 5 ∷ 0 ∷ []; read = λ r. r.terminals.bulk.tag; word = 64 }
    ∷ record { path = 3 ∷ 5 ∷ 1 ∷ []; read = λ r. r.terminals.bulk.index; word = 65 }
    ∷ record { path = 6 ∷ 0 ∷ 1 ∷ 0 ∷ []; read = λ r. r.histories.gs_hist.q_prev2.tag; word = 90 }
    ∷ record { path = 6 ∷ 1 ∷ 1 ∷ 0 ∷ []; read = λ r. r.histories.gd_hist.q_prev2.tag; word = 94 }
    ∷ record { path = 6 ∷ 2 ∷ 1 ∷ 0 ∷ []; read = λ r. r.histories.gb_hist.q_prev2.tag; word = 98 }
    ∷ record { path = 6 ∷ 3 ∷ 1 ∷ 0 ∷ []; read = λ r. r.histories.bs_hist.q_prev2.tag; word = 102 }
    ∷ record { path = 6 ∷ 4 ∷ 1 ∷ 0 ∷ []; read = λ r. r.histories.bd_hist.q_prev2.tag; word = 106 }
    ∷ record { path = 7 ∷ 0 ∷ []; read = λ r. r.method.tag; word = 109 }
    ∷ record { path = 8 ∷ []; read = λ r. r.stage; word = 112 }
    ∷ []

-- ---- the places

-- the record is 113 words, and each of them is a field's
pub record_size : size DeviceRecord.mir ≡ 8 * 113
record_size = refl

-- whether every number below n is in the list
has : ℕ → List ℕ → Bool
has k [] = false
has k (x ∷ xs) = eqb k x || has k xs

pub has_below : ℕ → List ℕ → Bool
has_below zero xs = true
has_below (suc n) xs = has n xs && has_below n xs

pub field_words : List ℕ
field_words = map (λ (f : Field Float). f.word) floats ++ map (λ (f : Field ℕ). f.word) wholes

pub every_word : has_below 113 field_words ≡ true
unfolding has_below has field_words floats wholes
every_word = refl

-- a float and a whole number stand at eight bytes times their word
pub float_places : map (λ (f : Field Float). place_of DeviceRecord.mir f.path) floats ≡ map (λ (f : Field Float). some (ty_float binary64, 8 * f.word)) floats
unfolding place_of along into behind floats
float_places = refl

pub whole_places : map (λ (f : Field ℕ). place_of DeviceRecord.mir f.path) wholes ≡ map (λ (f : Field ℕ). some (ty_int w64, 8 * f.word)) wholes
unfolding place_of along into behind wholes
whole_places = refl

-- ---- the words

-- from that word `record_of` reads it
pub float_words : (w : List Float) → map (λ (f : Field Float). f.read (record_of w)) floats ≡ map (λ (f : Field Float). get_or w f.word nan) floats
unfolding record_of card_of geometry_of scaled_of terminals_of point_of charges_of histories_of method_of given_at node_at history_at floats
float_words w = refl

pub whole_words : (w : List Float) → map (λ (f : Field ℕ). f.read (record_of w)) wholes ≡ map (λ (f : Field ℕ). whole_of (get_or w f.word nan)) wholes
unfolding record_of card_of geometry_of scaled_of terminals_of point_of charges_of histories_of method_of given_at node_at history_at wholes
whole_words w = refl
