-- What a call answers and leaves, by its number: a refusal leaves both slices, an accepted call gives them what its definition says.
use mathlib.Core.Path.{◌≡◌, refl, sym, ap, ◌∙◌}
use mathlib.Core.Bool.{Bool, true, false, cond}
use mathlib.Core.List.{List}
use Prim.Native.Nat.{ℕ}
use native.Mathlib.Omega.{arith}
use lib.Dec.{T}
use lib.Ieee.{Float}
use borrow.Author.Tests.{eq-eqb, ne_eqb}
use Rattle.device.specs.Refusals.{Row, Outcome, done, refused, number, unless, row_number}
use Rattle.device.proofs.Rows.{numbered, by_number}
use Rattle.loading.specs.Loading.{if_done}

abbrev taken : Outcome Unit
taken = done tt

-- over any rows
module _ (good : Bool) (rows : List Row) (test : T (numbered rows)) where
  abbrev outcome : Outcome Unit
  outcome = unless rows refused taken

  -- the number that the code works out
  abbrev pub worked : ℕ
  worked = cond good (row_number rows) 100

  is_done_lem : row_number rows ≡ 0 → outcome ≡ done tt
  is_done_lem e = by_number rows refused (done tt) test ∙ ap (λ (b : Bool). cond b (done tt) (refused (row_number rows))) (eq-eqb (row_number rows) 0 e)

  is_refused : (row_number rows ≡ 0 → ⊥) → outcome ≡ refused (row_number rows)
  is_refused h = by_number rows refused (done tt) test ∙ ap (λ (b : Bool). cond b (done tt) (refused (row_number rows))) (ne_eqb (row_number rows) 0 h)

module _ (rows : List Row) (test : T (numbered rows)) where
  pub refused_number : (good : Bool) → (worked good rows test ≡ 0 → ⊥) → worked good rows test ≡ cond good (number (unless rows refused taken)) 100
  refused_number true h = sym (ap number (is_refused true rows test h))
  refused_number false h = refl

  pub refused_slice : (good : Bool) → (worked good rows test ≡ 0 → ⊥) → (after before : List Float) → before ≡ cond good (if_done (unless rows refused taken) after before) before
  unfolding if_done
  refused_slice true h after before = sym (ap (λ (r : Outcome Unit). if_done r after before) (is_refused true rows test h))
  refused_slice false h after before = refl

  pub done_number : (good : Bool) → worked good rows test ≡ 0 → 0 ≡ cond good (number (unless rows refused taken)) 100
  done_number true e = sym (ap number (is_done_lem true rows test e))
  done_number false e = absurd (omega arith)

  pub done_slice : (good : Bool) → worked good rows test ≡ 0 → (after before : List Float) → after ≡ cond good (if_done (unless rows refused taken) after before) before
  unfolding if_done
  done_slice true e after before = sym (ap (λ (r : Outcome Unit). if_done r after before) (is_done_lem true rows test e))
  done_slice false e after before = absurd (omega arith)

  -- of the rows behind the first
  pub accepted_good : (good : Bool) → worked good rows test ≡ 0 → row_number rows ≡ 0
  accepted_good true e = e
  accepted_good false e = absurd (omega arith)
