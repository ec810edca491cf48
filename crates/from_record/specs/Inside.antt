-- A step of the code: the OR of the six nodes' indices, which is at least each of them. A reader of the calls needs none of it.
use Rattle.std.specs.Prelude.{ℕ}
use Rattle.std.specs.Int.Bits.{bit_or}
use Rattle.record.specs.declared.TerminalsRecord.{TerminalsRecord}

unfoldable pub indices_or : TerminalsRecord → ℕ
indices_or t =
    bit_or (bit_or (bit_or (bit_or (bit_or t.drain_ext.index t.source_ext.index) t.drain.index) t.gate.index) t.source.index) t.bulk.index
