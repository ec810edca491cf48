-- Rows 10 and 11 by the numbers of the record that its stage and its method are made of.
-- Assumes nothing.
use Prim.Native.Nat.{ℕ, zero, suc, ◌<◌}
use mathlib.Core.Path.{◌≡◌, refl}
use mathlib.Core.Bool.{Bool, true, false, not, ◌||◌, cond}
use lib.Dec.{eqb, ltb}
use lib.Ieee.{Float}
use native.Mathlib.Omega.{arith}
use borrow.Author.Tests.{ne_eqb, lt-ltb, le-ltb}
use Rattle.device.specs.Stages.{unbound}
use Rattle.rows.specs.Rows.{bad_step_of, row11_of}
use Rattle.record.specs.declared.MethodRecord.{MethodRecord}
use Rattle.from_record.specs.Devices.{method_from, stage_from}

above : (n k : ℕ) → k < n → eqb n k ≡ false
above n k h = ne_eqb n k (λ (e : n ≡ k). omega (arith, h, e))

pub unbound_by_number : (n : ℕ) → unbound (stage_from n) ≡ cond (ltb 3 n) false (not (eqb n 0))
unfolding unbound stage_from
unbound_by_number zero = refl
unbound_by_number (suc zero) = refl
unbound_by_number (suc (suc zero)) = refl
unbound_by_number (suc (suc (suc zero))) = refl
unbound_by_number (suc (suc (suc (suc zero)))) = refl
unbound_by_number (suc (suc (suc (suc (suc n))))) =
    let m : ℕ = suc (suc (suc (suc (suc n)))) in
    rw (above m 1 (omega arith), above m 2 (omega arith), above m 3 (omega arith), above m 4 (omega arith), lt-ltb 3 m (omega arith))

itself : (b : Bool) → b ≡ cond b true false
itself true = refl
itself false = refl

or_cond : (a b : Bool) → (a || b) ≡ cond a true b
or_cond true b = refl
or_cond false b = refl

-- the earlier length is Gear's alone
row11_by_tag : (tag : ℕ) (h h1 : Float) → row11_of (method_from (record { tag = tag; h = h; h_prev = h1 })) ≡ cond (eqb tag 0) false (cond (bad_step_of h) true (cond (ltb tag 3) false (bad_step_of h1)))
unfolding row11_of method_from
row11_by_tag zero h h1 = refl
row11_by_tag (suc zero) h h1 = itself (bad_step_of h)
row11_by_tag (suc (suc zero)) h h1 = itself (bad_step_of h)
row11_by_tag (suc (suc (suc n))) h h1 =
    let m : ℕ = suc (suc (suc n)) in
    rw (above m 0 (omega arith), above m 1 (omega arith), above m 2 (omega arith), le-ltb m 3 (omega arith)) (or_cond (bad_step_of h) (bad_step_of h1))

pub row11_by_method : (m : MethodRecord) → row11_of (method_from m) ≡ cond (eqb m.tag 0) false (cond (bad_step_of m.h) true (cond (ltb m.tag 3) false (bad_step_of m.h_prev)))
row11_by_method m = row11_by_tag m.tag m.h m.h_prev
