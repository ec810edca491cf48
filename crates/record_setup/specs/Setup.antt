-- Scaling and binding of a device that is a record: a record with an unknown tag is refused under 100, any other as its device is.
use Rattle.std.specs.Prelude.{ℕ, Bool, cond, ◌&&◌, leb, Float}
use Rattle.device.specs.Refusals.{Outcome, done, refused}
use Rattle.device.specs.declared.Mosfet1.{Mosfet1}
use Rattle.setup.specs.Scaling.{scaling_of}
use Rattle.setup.specs.Binding.{extra_nodes, binding_of}
use Rattle.record.specs.Records.{device_record}
use Rattle.record.specs.declared.DeviceOutcome.{DeviceOutcome}
use Rattle.record.specs.declared.DeviceRecord.{DeviceRecord}
use Rattle.from_record.specs.Devices.{node_from, device_from}
use Rattle.from_record.specs.Tags.{good_tags}
use Rattle.record_setup.specs.declared.CountOutcome.{CountOutcome}
use Rattle.record_setup.specs.declared.NodesRecord.{NodesRecord}

unfoldable pub setup_outcome : DeviceRecord → Outcome Mosfet1 → DeviceOutcome
setup_outcome r (done d) = record { refusal = 0; device = device_record d }
setup_outcome r (refused n) = record { refusal = n; device = r }

-- the temperature is in kelvin
unfoldable pub scaling_call : DeviceRecord → Float → DeviceOutcome
scaling_call r t =
    cond (good_tags r) (setup_outcome r (scaling_of (device_from r) (record { 0 = t }))) (record { refusal = 100; device = r })

unfoldable pub extra_nodes_call : DeviceRecord → CountOutcome
extra_nodes_call r =
    cond (good_tags r) (record { refusal = 0; count = extra_nodes (device_from r).geometry }) (record { refusal = 100; count = 0 })

unfoldable pub good_nodes : NodesRecord → Bool
good_nodes n = leb n.drain.tag 1 && leb n.gate.tag 1 && leb n.source.tag 1 && leb n.bulk.tag 1

unfoldable pub bound_by : DeviceRecord → NodesRecord → ℕ → Outcome Mosfet1
bound_by r n first =
    binding_of (device_from r) (node_from n.drain) (node_from n.gate) (node_from n.source) (node_from n.bulk) first

unfoldable pub binding_call : DeviceRecord → NodesRecord → ℕ → DeviceOutcome
binding_call r n first =
    cond (good_tags r)
    (cond (good_nodes n) (setup_outcome r (bound_by r n first)) (record { refusal = 100; device = r }))
    (record { refusal = 100; device = r })
