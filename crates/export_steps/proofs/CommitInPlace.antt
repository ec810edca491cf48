-- What `mivtolgya_commit_in_place` answers, and the record that it leaves, from what `record_steps::commit` gave to be stored.
-- Assumes nothing.
use Rattle.std.proofs.Common.{◌≡◌, ℕ, List}
use lib.Ieee.{Float}
use Rattle.device.specs.Refusals.{done, refused}
use Rattle.record.specs.declared.DeviceRecord.{DeviceRecord}
use Rattle.record_steps.specs.declared.CommitChanges.{CommitChanges}
use Rattle.record_steps.specs.Steps.{advanced_record, commit_call, commit_record_of}
use Rattle.record_steps.proofs.Changes.{commit_outcome_lem, number_of_commit, device_of_commit, number_of_refused_commit, device_of_refused_commit}

-- the parts that a commit changes are stored
pub changes_stored : (r : DeviceRecord) (x : List Float) (c : CommitChanges) → done c ≡ commit_record_of r x
    → (0 ≡ (commit_call r x).refusal) × (advanced_record r c ≡ (commit_call r x).device)
changes_stored r x c e =
    let o = commit_outcome_lem r x (done c) e in
    (number_of_commit r c (commit_call r x) o, device_of_commit r c (commit_call r x) o)

-- nothing is
pub commit_refused : (r : DeviceRecord) (x : List Float) (n : ℕ) → refused n ≡ commit_record_of r x
    → (n ≡ (commit_call r x).refusal) × (r ≡ (commit_call r x).device)
commit_refused r x n e =
    let o = commit_outcome_lem r x (refused n) e in
    (number_of_refused_commit r n (commit_call r x) o, device_of_refused_commit r n (commit_call r x) o)
