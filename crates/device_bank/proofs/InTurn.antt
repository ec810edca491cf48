-- The loads of a bank's devices one after the other.
use mathlib.Core.Bool.{Bool, true, false, not}
use mathlib.Core.Path.{◌≡◌, refl, sym, ap, ◌∙◌, subst}
use mathlib.Core.List.{List, [], ◌∷◌}
use Prim.Native.Nat.{ℕ, ◌+◌, ◌≤◌, ◌<◌}
use native.Mathlib.Numerals.{add-one}
use lib.ListN.{length, get_or, drop, drop_of_length-le}
use lib.Seq.{drop-cons}
use lib.Ieee.{Float}
use Rattle.device.specs.Refusals.{done}
use Rattle.device.specs.declared.Mosfet1.{Mosfet1}
use Rattle.assembly.specs.Assembly.{Pattern}
use Rattle.pattern.specs.Pattern.{well_formed}
use Rattle.loading.proofs.Rows.{well_columns}
use Rattle.loading.specs.Loading.{load_of, Loaded}
use Rattle.loading.specs.declared.LoadKind.{LoadKind}
use Rattle.from_record.specs.Devices.{device_from}
use Rattle.record_words.specs.Words.{record_of}
use Rattle.bridge.specs.Bridge.{Slices, load_in_order}
use Rattle.bridge.proofs.InOrder.{Passed, number_passed, first_accepted, rest_passed, loaded_one}
use Rattle.device_bank.specs.Bank.{devices_of, bank_row}

pub all_passed : (bank : List (List Float)) (k : LoadKind) (P : Pattern) (rows values : ℕ) → bank_row bank k P rows values ≡ 0 → Passed (devices_of bank) k P rows values
unfolding bank_row
all_passed bank k P rows values e = number_passed (devices_of bank) k P rows values e

pub pattern_well : (bank : List (List Float)) (k : LoadKind) (P : Pattern) (rows values : ℕ) → bank_row bank k P rows values ≡ 0 → well_formed P.columns P.offsets P.lengths (length P.columns) ≡ true
pattern_well bank k P rows values e = well_columns P.columns P.offsets P.lengths values (not_not _ (all_passed bank k P rows values e).row_12)
  where
    not_not : (b : Bool) → not b ≡ false → b ≡ true
    not_not true h = refl
    not_not false h = sym h

module _ (bank : List (List Float)) (i : ℕ) (inside : i < length bank) (d : Mosfet1) (ed : d ≡ device_from (record_of (get_or bank i []))) (k : LoadKind) (P : Pattern) where
  -- the devices from the number i on: d, then those behind it
  from_here : devices_of (drop i bank) ≡ d ∷ devices_of (drop (i + 1) bank)
  unfolding devices_of
  from_here =
      ap devices_of (drop-cons bank i [] inside) ∙ ap (λ (n : ℕ). device_from (record_of (get_or bank i [])) ∷ devices_of (drop n bank)) (sym (add-one i))
      ∙ ap (λ (x : Mosfet1). x ∷ devices_of (drop (i + 1) bank)) (sym ed)

  module _ (rows values : ℕ) (h : Passed (devices_of (drop i bank)) k P rows values) where
    split : Passed (d ∷ devices_of (drop (i + 1) bank)) k P rows values
    split = subst (λ (ds : List Mosfet1). Passed ds k P rows values) from_here h

    pub here_accepted : (rhs held : List Float) → length rhs ≡ rows → length held ≡ values → load_of d k P rhs held ≡ done tt
    here_accepted rhs held er ev = first_accepted d (devices_of (drop (i + 1) bank)) k P rows values split rhs held er ev

    pub later_passed : Passed (devices_of (drop (i + 1) bank)) k P rows values
    later_passed = rest_passed d (devices_of (drop (i + 1) bank)) k P rows values split

  pub one_turn : (rhs values rhs' values' : List Float) → Loaded d k P rhs values (done tt) rhs' values'
      → load_in_order k P (devices_of (drop i bank)) (record { side = rhs; matrix = values }) ≡ load_in_order k P (devices_of (drop (i + 1) bank)) (record { side = rhs'; matrix = values' })
  unfolding load_in_order
  one_turn rhs values rhs' values' l =
      ap (λ (ds : List Mosfet1). load_in_order k P ds (record { side = rhs; matrix = values })) from_here
      ∙ ap (λ (s : Slices). load_in_order k P (devices_of (drop (i + 1) bank)) s) (loaded_one d k P rhs values rhs' values' l)

pub last_turn : (bank : List (List Float)) (i : ℕ) (k : LoadKind) (P : Pattern) (s : Slices) → length bank ≤ i → load_in_order k P (devices_of (drop i bank)) s ≡ s
unfolding load_in_order devices_of
last_turn bank i k P s h = ap (λ (ws : List (List Float)). load_in_order k P (devices_of ws) s) (drop_of_length-le bank h)
