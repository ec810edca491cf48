-- What the card's proofs share: one key more, and the call's answers behind rows 1 to 4.
use mathlib.Core.Path.{◌≡◌, ◌∙◌}
use mathlib.Core.Bool.{Bool, true, false, cond}
use mathlib.Core.List.{List, [], ◌∷◌}
use Prim.Native.Nat.{ℕ}
use lib.Ieee.{Float}
use lib.ListN.{length}
use lib.Seq.{sets}
use Rattle.device.specs.Refusals.{unless, done, refused, ◌when◌}
use Rattle.device.proofs.Branches.{cond_yes, cond_no}
use Rattle.device.proofs.Rows.{NoneOf, later_decide}
use Rattle.keys.specs.declared.Table.TheVariants as Table
use Rattle.entries.specs.Entries.{entries_of, unknown_from, unknown_count, any_tnom_outside, key_rows, keys_of}
use Rattle.entries.proofs.Rows.{refused_keys}
use Rattle.card.specs.Card.{parameters_of, defaults_of, fresh_device, card_rows, card_of, card_list_of}

-- where rows 1 to 4 do not apply, row 6 decides the answer and the list
module _ (is_pmos : Bool) (bytes offsets lengths : List ℕ) (values : List Float) (list : List ℕ) (h : NoneOf (key_rows Table.Card bytes offsets lengths values (length list))) where
  by_row_6 : {A : Type 0} (refuse : ℕ → A) (x : A) → cond (any_tnom_outside Table.Card (entries_of bytes offsets lengths values)) (refuse 6) x ≡ unless (card_rows bytes offsets lengths values (length list)) refuse x
  by_row_6 refuse x =
      later_decide (key_rows Table.Card bytes offsets lengths values (length list)) ((6 when any_tnom_outside Table.Card (entries_of bytes offsets lengths values)) ∷ []) refuse x h

  pub at_6 : any_tnom_outside Table.Card (entries_of bytes offsets lengths values) ≡ true → (refused 6 ≡ card_of is_pmos bytes offsets lengths values (length list)) × (list ≡ card_list_of bytes offsets lengths values list)
  unfolding card_of card_list_of
  at_6 t = (cond_yes _ _ t ∙ by_row_6 refused _, cond_yes _ _ t ∙ by_row_6 (λ _. list) _)

  pub accepted : any_tnom_outside Table.Card (entries_of bytes offsets lengths values) ≡ false → (done (record { device = fresh_device is_pmos (parameters_of (defaults_of is_pmos) (entries_of bytes offsets lengths values)); unknown = unknown_count Table.Card (entries_of bytes offsets lengths values) }) ≡ card_of is_pmos bytes offsets lengths values (length list)) × (sets list 0 (unknown_from Table.Card 0 (entries_of bytes offsets lengths values)) ≡ card_list_of bytes offsets lengths values list)
  unfolding card_of card_list_of
  accepted t = (cond_no _ _ t ∙ by_row_6 refused _, cond_no _ _ t ∙ by_row_6 (λ _. list) _)

-- a refusal by rows 1 to 4
pub at_keys : (is_pmos : Bool) (bytes offsets lengths : List ℕ) (values : List Float) (list : List ℕ) (n : ℕ) → keys_of Table.Card bytes offsets lengths values (length list) ≡ refused n → (refused n ≡ card_of is_pmos bytes offsets lengths values (length list)) × (list ≡ card_list_of bytes offsets lengths values list)
unfolding card_of card_list_of
at_keys is_pmos bytes offsets lengths values list n e =
    let later = (6 when any_tnom_outside Table.Card (entries_of bytes offsets lengths values)) ∷ [] in
    (refused_keys Table.Card bytes offsets lengths values (length list) n later refused _ e, refused_keys Table.Card bytes offsets lengths values (length list) n later (λ _. list) _ e)
