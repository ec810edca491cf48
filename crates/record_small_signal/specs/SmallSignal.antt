-- Noise and reactances of a device that is a record: a record with an unknown tag is refused under 100, any other as its device is.
use Rattle.std.specs.Prelude.{ℕ, cond, Float, Option, Some, None}
use Rattle.exact.specs.Float64.{+0}
use Rattle.device.specs.Refusals.{Outcome, done, refused}
use Rattle.model.specs.SmallSignal.{noise_of, reactances_of}
use Rattle.model.specs.declared.small_signal.NoiseSource.{NoiseSource}
use Rattle.model.specs.declared.small_signal.Capacitor.{Capacitor}
use Rattle.model.specs.declared.small_signal.Reactances.{Reactances}
use Rattle.record.specs.Records.{node_record}
use Rattle.record.specs.declared.DeviceRecord.{DeviceRecord}
use Rattle.record.specs.declared.NodeRecord.{NodeRecord}
use Rattle.from_record.specs.Devices.{device_from}
use Rattle.from_record.specs.Tags.{good_tags}
use Rattle.record_small_signal.specs.declared.NoiseOutcome.{NoiseOutcome}
use Rattle.record_small_signal.specs.declared.ReactanceRecord.{ReactanceRecord}
use Rattle.record_small_signal.specs.declared.ReactancesOutcome.{ReactancesOutcome}

abbrev ground_record : NodeRecord
ground_record = record { tag = 0; index = 0 }

-- no source: refused by a number, or 0
unfoldable pub noise_refused : ℕ → NoiseOutcome
noise_refused n = record { refusal = n; tag = 0; drain = ground_record; source = ground_record; density = +0 }

unfoldable pub noise_record : Option NoiseSource → NoiseOutcome
noise_record None = noise_refused 0
noise_record (Some s) = record { refusal = 0; tag = 1; drain = node_record s.pos; source = node_record s.neg; density = s.density }

unfoldable pub noise_outcome : Outcome (Option NoiseSource) → NoiseOutcome
noise_outcome (done source) = noise_record source
noise_outcome (refused n) = noise_refused n

-- the temperature is in kelvin
unfoldable pub noise_call : DeviceRecord → Float → Float → NoiseOutcome
noise_call r t freq = cond (good_tags r) (noise_outcome (noise_of (device_from r) (record { 0 = t }) freq)) (noise_refused 100)

unfoldable pub no_reactance : ReactanceRecord
no_reactance = record { tag = 0; pos = ground_record; neg = ground_record; capacitance = +0 }

unfoldable pub reactance_record : Option Capacitor → ReactanceRecord
reactance_record None = no_reactance
reactance_record (Some c) = record { tag = 1; pos = node_record c.pos; neg = node_record c.neg; capacitance = c.capacitance }

unfoldable pub five_record : Reactances → ReactancesOutcome
five_record f =
    record {
      refusal = 0;
      gs = reactance_record f.gs;
      gd = reactance_record f.gd;
      gb = reactance_record f.gb;
      bs = reactance_record f.bs;
      bd = reactance_record f.bd;
    }

unfoldable pub reactances_refused : ℕ → ReactancesOutcome
reactances_refused n =
    record { refusal = n; gs = no_reactance; gd = no_reactance; gb = no_reactance; bs = no_reactance; bd = no_reactance }

unfoldable pub reactances_outcome : Outcome Reactances → ReactancesOutcome
reactances_outcome (done five) = five_record five
reactances_outcome (refused n) = reactances_refused n

unfoldable pub reactances_call : DeviceRecord → ReactancesOutcome
reactances_call r = cond (good_tags r) (reactances_outcome (reactances_of (device_from r))) (reactances_refused 100)
