-- Demand 3 is not empty: the example's list is one on a fresh device, its load is accepted and every premise holds, so its currents come back.
use mathlib.Core.Path.{◌≡◌, refl, sym, ap, ◌∙◌, subst}
use mathlib.Core.Bool.{true, false, true≢false}
use mathlib.Core.List.{[], ◌∷◌}
use lib.Ieee.{Float, fits}
use Rattle.exact.specs.Float64.{+1}
use Rattle.exact.proofs.Computing.{computing}
use Rattle.exact.proofs.FractionLaws.{lit_≤}
use Rattle.exact.proofs.StrictOrder.{lit_≈}
use Rattle.device.specs.declared.Charges as device
use Rattle.device.specs.declared.Histories.{Histories}
use Rattle.device.specs.declared.Mosfet1.{Mosfet1}
use Rattle.stamps.specs.Stamps.{has_junction_of}
use Rattle.call_lists.specs.Calls.{evaluation, loading, noise}
use Rattle.call_lists.specs.F64.{F64, Every, none, next, IsF64, Fresh}
use Rattle.call_lists.specs.LastEvaluation.{voltages_at, answer_at, charges_at}
use Rattle.call_lists.specs.Recount.{recount}
use Rattle.call_lists.proofs.Histories.{histories_are_recounted}
use Rattle.junction_current.specs.JunctionCurrent.{WithinThermalVoltages}
use Rattle.charge_current.specs.ChargeCurrent.{RecordedSize, HoldsBefore, OnlyZeros}
use Rattle.currents.specs.Branches.{Branch, gs, gd, gb, bs, bd, voltage_of, capacitance_of, charge_of, past_of, history_loaded}
use Rattle.currents.specs.Currents.{polarity_at, temperature_at, source_voltage, drain_voltage, recounted, Premises, CurrentsReturn, LoadHolds}
use Rattle.currents.proofs.Currents.{currents_return}
use Rattle.currents_example.specs.Example.{card_bytes, card_offsets, card_lengths, card_values, kelvin, x1, x2, x3, x_refused, conditions1, conditions2, conditions3, kind, pattern, side, matrix, calls}
use Rattle.currents_example.specs.Trace.{fresh, histories2, charges3, evaluated3, evaluation_loaded, kept_loaded, side_loaded, matrix_loaded}
use Rattle.currents_example.specs.Shown.{MeetsAll}
use Rattle.currents_example.proofs.Computing.{floats, model, rows}
use Rattle.currents_example.proofs.Steps.{card_answered}
use Rattle.currents_example.proofs.Run.{example_leaves, example_evaluated}
use Rattle.currents_example.proofs.Load.{example_loaded}

-- ---- the list
pub example_fresh : Fresh fresh
unfolding floats fits
example_fresh = record {
  is_pmos = false;
  bytes = card_bytes;
  offsets = card_offsets;
  lengths = card_lengths;
  values = card_values;
  space = 0;
  count = 0;
  f64 = next tt (next tt (next tt (next tt (next tt none))));
  returned = card_answered;
}

three : {x y z : Float} → F64 x → F64 y → F64 z → Every F64 (x ∷ y ∷ z ∷ [])
three x y z = next x (next y (next z none))

evaluation1_f64 : IsF64 (evaluation x1 true conditions1)
unfolding floats fits
evaluation1_f64 = (three tt tt tt, tt, tt, tt)

evaluation2_f64 : IsF64 (evaluation x2 true conditions2)
unfolding floats fits
evaluation2_f64 = (three tt tt tt, tt, tt, tt)

evaluation3_f64 : IsF64 (evaluation x3 true conditions3)
unfolding floats fits
evaluation3_f64 = (three tt tt tt, tt, tt, (tt, tt))

refused_f64 : IsF64 (evaluation x_refused true conditions3)
unfolding floats fits
refused_f64 = (three tt tt tt, tt, tt, (tt, tt))

load_f64 : IsF64 (loading kind pattern side matrix)
unfolding floats fits
load_f64 = (tt, three tt tt tt, next tt (next tt (next tt (next tt (next tt (next tt (three tt tt tt)))))))

noise_f64 : IsF64 (noise kelvin +1)
unfolding floats fits
noise_f64 = (tt, tt)

pub example_f64 : Every IsF64 calls
unfolding floats fits
example_f64 =
    next (three tt tt tt) (next tt (next tt (next (three tt tt tt)
    (next evaluation1_f64 (next (three tt tt tt) (next evaluation2_f64 (next load_f64 (next (three tt tt tt)
    (next evaluation3_f64 (next refused_f64 (next noise_f64 (next tt none))))))))))))

-- ---- the premises
example_recount : recount calls fresh ≡ histories2
example_recount = sym (histories_are_recounted calls fresh example_fresh) ∙ ap (λ (d : Mosfet1). d.histories) example_leaves

example_charges : charges_at evaluation_loaded ≡ charges3
unfolding charges_at answer_at voltages_at model rows floats
example_charges = refl

source_within : WithinThermalVoltages (polarity_at evaluation_loaded) (source_voltage evaluation_loaded) (temperature_at evaluation_loaded)
unfolding polarity_at temperature_at source_voltage voltage_of voltages_at model rows floats computing
source_within = record { size = lit_≤ tt }

drain_within : WithinThermalVoltages (polarity_at evaluation_loaded) (drain_voltage evaluation_loaded) (temperature_at evaluation_loaded)
unfolding polarity_at temperature_at drain_voltage voltage_of voltages_at model rows floats computing
drain_within = record { size = lit_≤ tt }

recorded_size : (b : Branch) → RecordedSize (past_of b histories2).i_prev
unfolding past_of computing
recorded_size gs = record { fin = tt; size = lit_≤ tt }
recorded_size gd = record { fin = tt; size = lit_≤ tt }
recorded_size gb = record { fin = tt; size = lit_≤ tt }
recorded_size bs = record { fin = tt; size = lit_≤ tt }
recorded_size bd = record { fin = tt; size = lit_≤ tt }

holds_before : (b : Branch) → HoldsBefore conditions3.method (past_of b histories2).q_prev2
unfolding past_of
holds_before gs = tt
holds_before gd = tt
holds_before gb = tt
holds_before bs = tt
holds_before bd = tt

-- the drain junction alone has no capacitance
only_zeros : (b : Branch) → history_loaded b evaluated3.geometry ≡ false → OnlyZeros (capacitance_of b charges3) (charge_of b charges3) (past_of b histories2)
unfolding history_loaded has_junction_of capacitance_of charge_of past_of floats computing
only_zeros gs h = absurd (true≢false h)
only_zeros gd h = absurd (true≢false h)
only_zeros gb h = absurd (true≢false h)
only_zeros bs h = absurd (true≢false h)
only_zeros bd h = record {
  capacitance = record { fin = tt; zero = lit_≈ tt tt };
  charge = record { fin = tt; zero = lit_≈ tt tt };
  last = record { fin = tt; zero = lit_≈ tt tt };
  before = record { fin = tt; zero = lit_≈ tt tt };
  current = record { fin = tt; zero = lit_≈ tt tt };
}

pub example_premises : Premises calls fresh evaluation_loaded kind
unfolding recounted
example_premises = record {
  transient = refl;
  source_junction = source_within;
  drain_junction = drain_within;
  recorded = λ t b. subst (λ (h : Histories). RecordedSize (past_of b h).i_prev) (sym example_recount) (recorded_size b);
  before_the_last = λ t b l. subst (λ (h : Histories). HoldsBefore conditions3.method (past_of b h).q_prev2) (sym example_recount) (holds_before b);
  only_zeros = λ t b l.
      subst (λ (h : Histories). OnlyZeros (capacitance_of b (charges_at evaluation_loaded)) (charge_of b (charges_at evaluation_loaded)) (past_of b h)) (sym example_recount)
      (subst (λ (c : device.Charges). OnlyZeros (capacitance_of b c) (charge_of b c) (past_of b histories2)) (sym example_charges)
      (only_zeros b (subst (λ (d : Mosfet1). history_loaded b d.geometry ≡ false) example_leaves l)));
}

-- ---- together, and what the theorem says of it
-- Every premise of demand 3 is met at once.
pub example_meets_all : MeetsAll calls fresh evaluation_loaded kept_loaded kind pattern side matrix side_loaded matrix_loaded
example_meets_all = record {
  fresh = example_fresh;
  f64 = example_f64;
  evaluated = example_evaluated;
  premises = example_premises;
  loaded = example_loaded;
}

-- The theorem of the example's load: what was evaluated comes back, and the contributions cancel.
pub example_holds : LoadHolds calls fresh kind pattern side matrix side_loaded matrix_loaded
example_holds = currents_return fresh example_fresh calls example_f64 kind pattern side matrix side_loaded matrix_loaded example_loaded

-- So the channel's, both junctions' and all five branches' currents come back.
pub example_returns : CurrentsReturn calls fresh evaluation_loaded kind
example_returns = example_holds.returns evaluation_loaded kept_loaded example_evaluated example_premises
