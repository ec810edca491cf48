-- The device that a record with known tags stands for, under the names of this crate too.
unfoldable pub use Rattle.record.specs.Devices.{node_from, given_from, method_from, stage_from, card_from, terminals_from, history_from, histories_from, device_from}
