use Rattle.std.proofs.Common.{◌≡◌, ℕ, ◌+◌, ◌*◌, ◌/◌, ◌<◌, ◌≤◌, true, false, [], ◌∷◌, Option, Some, None, length, get_or, sym, ap, ap₂, ◌∙◌, arith, rules}
use Rattle.replay.specs.Lists.{twos, byte_in, byte_count_of, fit_bytes, is_empty_list}
use Rattle.replay.proofs.script_lists.Filling.{begun, further, unread, finished}
use Rattle.replay.proofs.script_lists.Twos.{next_two, no_two, empty_bytes, unfit_bytes, bytes_over, odd, too_long, fit}
use Rattle.replay.proofs.script_lists.bytes.Goals.{then-w-ne0-via-then-w-ne0, then-w-ne0-via-else-w-ne0+then-out-count}
use Rattle.replay.proofs.script_lists.bytes.Goals as goal

pub returns-then-eq : goal.returns-then-eq
returns-then-eq c =
    let A = c.args in let f : is_empty_list A.w.now ≡ true = search rules in
    let R = empty_bytes A.w.now A.out.now f in record { value = R.count; out_after = R.left }

pub returns-then-w-ne0 : goal.returns-then-w-ne0
returns-then-w-ne0 c =
    let A = c.args in let f : is_empty_list A.w.now ≡ false = search rules in
    let u : fit_bytes (length A.out.now) A.w.now ≡ false = elim c.then-w-ne0.branch [ then-w-ne0-via-then-w-ne0 w ↦ odd (length A.out.now) A.w.now (omega arith) | then-w-ne0-via-else-w-ne0+then-out-count w ↦ too_long (length A.out.now) A.w.now (omega arith) (omega arith) ] in
    let R = unfit_bytes A.w.now A.out.now f u in record { value = R.count; out_after = R.left }

pub returns-in_err-out : goal.returns-in_err-out
returns-in_err-out c =
    let A = c.args in let f : is_empty_list A.w.now ≡ false = search rules in let L = c.loop-i in
    let t : fit_bytes (length A.out.now) A.w.now ≡ true = fit (length A.out.now) A.w.now (omega arith) (omega arith) in
    let b : byte_in (get_or A.w.now (2 * L.i) 0 ∷ get_or A.w.now (2 * L.i + 1) 0 ∷ []) ≡ None = search rules in
    let R = bytes_over A.w.now A.out.now f t (unread L.invariant (next_two A.w.now L.i (omega arith)) (omega arith) b) in
    let n : ◌≡◌ {A = Option ℕ} None (byte_count_of (length A.out.now) A.w.now) = R.count in
    record { value = cc; out_after = R.left }

pub loop-i-preserved : goal.loop-i-preserved
loop-i-preserved c =
    let A = c.args in let L = c.loop-i in
    let b : byte_in (get_or A.w.now (2 * L.i) 0 ∷ get_or A.w.now (2 * L.i + 1) 0 ∷ []) ≡ Some c.in_ok-out.field-0 = search rules in
    further L.invariant (next_two A.w.now L.i (omega arith)) (omega arith) c.in_ok-out.field-0 b

pub returns : goal.returns
returns c =
    let A = c.args in let f : is_empty_list A.w.now ≡ false = search rules in let L = c.loop-i in
    let t : fit_bytes (length A.out.now) A.w.now ≡ true = fit (length A.out.now) A.w.now (omega arith) (omega arith) in
    let all : length A.w.now / 2 ≡ L.i = omega arith in
    let R = bytes_over A.w.now A.out.now f t (finished L.invariant (no_two A.w.now L.i (omega arith))) in record { value = ap Some all ∙ R.count; out_after = R.left }
