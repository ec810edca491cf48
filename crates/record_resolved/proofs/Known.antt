-- What is known of a record's load once its number is 0: every place that it needs is among the values.
use Rattle.std.proofs.Common.{◌≡◌, ℕ, ◌^◌, ◌<◌, Bool, true, false, cond, List, subst, arith}
use lib.Ieee.{Float}
use Rattle.stamps.specs.Stamps.{jac_pairs_of}
use Rattle.places.specs.Places.{nodes_of, terminals_at}
use Rattle.resolved_rows.specs.LoadResolved.{numbers_from}
use Rattle.resolved_rows.specs.ByNumbers.{pairs_stored, branches_stored, nodes_at}
use Rattle.resolved_rows.proofs.Known.{pairs_held, branches_held, nodes_held}
use Rattle.record.specs.declared.DeviceRecord.{DeviceRecord}
use Rattle.from_record.specs.Devices.{device_from}
use Rattle.record_loading.specs.Load.{kind_from, good_load}
use Rattle.record_resolved.specs.Steps.{resolved_number}

-- 0 is no unknown tag's number
of_device : (good : Bool) (n : ℕ) → cond good n 100 ≡ 0 → n ≡ 0
of_device true n e = e
of_device false n e = absurd (omega (arith, e))

pub pairs_known : (r : DeviceRecord) (t : ℕ) (alpha : Float) (w : List ℕ) (rows n : ℕ) → rows < 2 ^ 64 → resolved_number r t alpha w rows n ≡ 0
    → pairs_stored n (jac_pairs_of (terminals_at (nodes_of (device_from r).terminals))) (numbers_from w 8 24) ≡ true
unfolding resolved_number
pairs_known r t alpha w rows n room e = pairs_held (device_from r) (kind_from t alpha) w rows n (omega (arith, room)) (of_device (good_load r t) _ e)

at_one : (r : DeviceRecord) (alpha : Float) (w : List ℕ) (rows n : ℕ) → rows < 2 ^ 64 → resolved_number r 1 alpha w rows n ≡ 0
    → branches_stored n (nodes_of (device_from r).terminals) w (device_from r).charges ≡ true
unfolding resolved_number kind_from
at_one r alpha w rows n room e = branches_held (device_from r) alpha w rows n (omega (arith, room)) (of_device (good_load r 1) _ e)

pub branches_known : (r : DeviceRecord) (t : ℕ) (alpha : Float) (w : List ℕ) (rows n : ℕ) → rows < 2 ^ 64 → t ≡ 1 → resolved_number r t alpha w rows n ≡ 0
    → branches_stored n (nodes_of (device_from r).terminals) w (device_from r).charges ≡ true
branches_known r t alpha w rows n room one e = at_one r alpha w rows n room (subst (λ (t : ℕ). resolved_number r t alpha w rows n ≡ 0) one e)

-- the cells were looked up for the device's nodes
pub nodes_known : (r : DeviceRecord) (t : ℕ) (alpha : Float) (w : List ℕ) (rows n : ℕ) → rows < 2 ^ 64 → resolved_number r t alpha w rows n ≡ 0
    → nodes_at w ≡ nodes_of (device_from r).terminals
unfolding resolved_number
nodes_known r t alpha w rows n room e = nodes_held (device_from r) (kind_from t alpha) w rows n (omega (arith, room)) (of_device (good_load r t) _ e)
