-- What `mivtolgya_load_resolved` answers and leaves, from its three steps: the row, the static part and the charge branches. Between the steps
-- neither slice's length changes, so the row is the load's number for each of them.
-- Assumes nothing.
use Rattle.std.proofs.Common.{◌≡◌, ℕ, ◌^◌, ◌<◌, List, length}
use lib.Ieee.{Float}
use Rattle.record.specs.declared.DeviceRecord.{DeviceRecord}
use Rattle.record_resolved.specs.Resolved.{load_resolved_call, resolved_side, resolved_matrix}
use Rattle.record_resolved.specs.Steps.{resolved_number, static_side, static_matrix, charged_side, charged_matrix}
use Rattle.record_resolved.proofs.Loaded.{loaded}

pub number_kept : (r : DeviceRecord) (t : ℕ) (alpha : Float) (w : List ℕ) (row n m n' m' : ℕ) → row ≡ resolved_number r t alpha w n m → n' ≡ n → m' ≡ m
    → row ≡ resolved_number r t alpha w n' m'
number_kept r t alpha w row n m n' m' e f g = rw (f, g) e

-- `ys` and `zs` after the static part, `ys'` and `zs'` at the end
pub three_steps : (r : DeviceRecord) (t : ℕ) (alpha : Float) (w : List ℕ) (rhs values : List Float) (row : ℕ) (ys zs ys' zs' : List Float)
    → length rhs < 2 ^ 64 → row ≡ resolved_number r t alpha w (length rhs) (length values)
    → ys ≡ static_side row r rhs → zs ≡ static_matrix row r w values
    → ys' ≡ charged_side row r t alpha ys → zs' ≡ charged_matrix row r t alpha w zs
    → (row ≡ load_resolved_call r t alpha w rhs values)
    × ((ys' ≡ resolved_side r t alpha w rhs values)
    × (zs' ≡ resolved_matrix r t alpha w rhs values))
three_steps r t alpha w rhs values row ys zs ys' zs' room e f g h i = loaded r t alpha w rhs values row ys zs ys' zs' room e f g h i
