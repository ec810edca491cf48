-- What a caller's object is held to before its first call: the interface's number, and the size of the device's record.
use Rattle.std.specs.Prelude.{ℕ, ◌+◌, ◌*◌}

-- It rises when a record, the parameters of a call or the meaning of a number changes (docs/USING.md, "Interface version").
abbrev pub interface_version : ℕ
interface_version = 1

-- ---- sizes in bytes: every field that is a number has eight, and there is no padding (crates/record/src)

abbrev pub number : ℕ
number = 8

-- tag, index
abbrev pub node_size : ℕ
node_size = 2 * number

-- tag, value
abbrev pub given_size : ℕ
given_size = 2 * number

-- tag, h, h_prev
abbrev pub method_size : ℕ
method_size = 3 * number

-- 22 numbers, and rd_card and rs_card, which may be absent
abbrev pub card_size : ℕ
card_size = 22 * number + 2 * given_size

abbrev pub geometry_size : ℕ
geometry_size = 21 * number

abbrev pub scaled_size : ℕ
scaled_size = 7 * number

abbrev pub terminals_size : ℕ
terminals_size = 6 * node_size

abbrev pub point_size : ℕ
point_size = 11 * number

abbrev pub charges_size : ℕ
charges_size = 12 * number

-- the last charge, the one before or none, the last current
abbrev pub history_size : ℕ
history_size = number + given_size + number

abbrev pub histories_size : ℕ
histories_size = 5 * history_size

-- the parts of a device in their order; the last is the stage
abbrev pub device_size : ℕ
device_size =
    card_size + geometry_size + scaled_size + terminals_size + point_size + charges_size + histories_size + method_size + number
