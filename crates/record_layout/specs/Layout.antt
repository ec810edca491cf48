-- What a builder asks of a device that is a record: a record with an unknown tag is refused under 100 and leaves the slices, any other as its
-- device is.
use Rattle.std.specs.Prelude.{ℕ, Bool, cond, ◌&&◌, List, length}
use Rattle.device.specs.Refusals.{Outcome, done, refused}
use Rattle.cell_pattern.specs.CellPattern.{pattern_of}
use Rattle.cell_pattern.specs.declared.Needed.{Needed}
use Rattle.matrix_layout.specs.MatrixLayout.{extra_nodes_of, layout_of, is_written, at_exit}
use Rattle.record.specs.declared.DeviceRecord.{DeviceRecord}
use Rattle.from_record.specs.Devices.{device_from}
use Rattle.from_record.specs.Tags.{good_tags}
use Rattle.record_setup.specs.declared.CountOutcome.{CountOutcome}
use Rattle.record_layout.specs.declared.LayoutOutcome.{LayoutOutcome}

-- a count and its number, 0; a refusal's count is 0
unfoldable pub count_outcome : Outcome ℕ → CountOutcome
count_outcome (done n) = record { refusal = 0; count = n }
count_outcome (refused n) = record { refusal = n; count = 0 }

-- the extra nodes that a binding takes, refused before the first geometry call
unfoldable pub extra_nodes_needed_call : DeviceRecord → CountOutcome
extra_nodes_needed_call r = cond (good_tags r) (count_outcome (extra_nodes_of (device_from r))) (record { refusal = 100; count = 0 })

-- the needed lengths and their number, 0; a refusal's lengths are 0
unfoldable pub layout_outcome : Outcome Needed → LayoutOutcome
layout_outcome (done n) = record { refusal = 0; columns = n.columns; rows = n.rows }
layout_outcome (refused n) = record { refusal = n; columns = 0; rows = 0 }

-- the answer, whatever the slices' lengths are
unfoldable pub layout_call : DeviceRecord → LayoutOutcome
layout_call r = cond (good_tags r) (layout_outcome (layout_of (device_from r))) (record { refusal = 100; columns = 0; rows = 0 })

-- whether slices of these lengths are written
unfoldable pub layout_written : DeviceRecord → ℕ → ℕ → ℕ → Bool
layout_written r columns offsets lengths = good_tags r && is_written (device_from r) columns offsets lengths

-- the columns afterwards
unfoldable pub layout_columns : DeviceRecord → List ℕ → List ℕ → List ℕ → List ℕ
layout_columns r columns offsets lengths =
    at_exit (layout_written r (length columns) (length offsets) (length lengths)) (pattern_of (device_from r).terminals).columns columns

-- the offsets afterwards
unfoldable pub layout_offsets : DeviceRecord → List ℕ → List ℕ → List ℕ → List ℕ
layout_offsets r columns offsets lengths =
    at_exit (layout_written r (length columns) (length offsets) (length lengths)) (pattern_of (device_from r).terminals).offsets offsets

-- the lengths afterwards
unfoldable pub layout_lengths : DeviceRecord → List ℕ → List ℕ → List ℕ → List ℕ
layout_lengths r columns offsets lengths =
    at_exit (layout_written r (length columns) (length offsets) (length lengths)) (pattern_of (device_from r).terminals).lengths lengths
