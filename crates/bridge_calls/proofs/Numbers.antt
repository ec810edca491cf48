-- A call's number, one condition after another.
use mathlib.Core.Path.{◌≡◌, refl, sym, ap, ◌∙◌}
use mathlib.Core.Bool.{Bool, true, false, cond}
use mathlib.Core.List.{List, [], ◌∷◌}
use Prim.Native.Nat.{ℕ, suc, ◌≤◌, ◌<◌}
use lib.ListN.{length}
use lib.Ieee.{Float}
use borrow.Author.Tests.{le-leb, lt-leb}
use Rattle.std.specs.Prelude.{Result, Ok, Err}
use Rattle.device.specs.Refusals.{Row, row_number, number, outcome, ◌when◌}
use Rattle.device.specs.declared.Refusal.{Refusal}
use Rattle.device_bank.specs.Bank.{devices_of, bank_good}
use Rattle.bridge_calls.specs.Calls.{good_loads}

-- a call that is not refused has the number 0
pub not_refused : (r : Result (Unit {0}) Refusal) → ((x : Refusal) → r ≡ Err x → ⊥) → 0 ≡ number (outcome r)
not_refused (Ok t) h = refl
not_refused (Err x) h = absurd (h x refl)

-- the tags and the kind
module _ (bank : List (List Float)) (transient : ℕ) (g : Bool) (is : g ≡ bank_good bank) (n : ℕ) where
  pub unknown_tag : g ≡ false → 100 ≡ cond (good_loads bank transient) n 100
  unfolding good_loads
  unknown_tag e = rw (← is, e)

  pub unknown_kind : g ≡ true → 1 < transient → 100 ≡ cond (good_loads bank transient) n 100
  unfolding good_loads
  unknown_kind e h = rw (← is, e, lt-leb transient 1 h)

  pub known : g ≡ true → transient ≤ 1 → n ≡ cond (good_loads bank transient) n 100
  unfolding good_loads
  known e h = rw (← is, e, le-leb transient 1 h)

-- row 14, asked of the bank's length
pub length_devices : (bank : List (List Float)) → length (devices_of bank) ≡ length bank
unfolding devices_of
length_devices [] = refl
length_devices (w ∷ ws) = ap suc (length_devices ws)

module _ (bank : List (List Float)) (transient : ℕ) (g : Bool) (is : g ≡ bank_good bank) (tags : g ≡ true) (kind : transient ≤ 1)
    (refused : ℕ → Bool) (b : Bool) (tested : b ≡ refused (length bank)) (more : List Row) where
  abbrev pub whole_number : ℕ
  whole_number = cond (good_loads bank transient) (row_number ((14 when refused (length (devices_of bank))) ∷ more)) 100

  asked : refused (length (devices_of bank)) ≡ b
  asked = ap refused (length_devices bank) ∙ sym tested

  pub row_14 : b ≡ true → 14 ≡ whole_number
  row_14 t = ap (λ (x : Bool). cond x 14 (row_number more)) (sym (asked ∙ t)) ∙ known bank transient g is (row_number ((14 when refused (length (devices_of bank))) ∷ more)) tags kind

  pub row_passed : b ≡ false → row_number more ≡ whole_number
  row_passed f = ap (λ (x : Bool). cond x 14 (row_number more)) (sym (asked ∙ f)) ∙ known bank transient g is (row_number ((14 when refused (length (devices_of bank))) ∷ more)) tags kind
