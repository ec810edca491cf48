-- The lowest row of a bank's devices, from the first to the last, and whether every tag is known.
use mathlib.Core.Path.{◌≡◌, refl, sym, ap, ◌∙◌}
use mathlib.Core.Bool.{Bool, true, false, not, ◌&&◌, ◌||◌}
use mathlib.Core.List.{List, [], ◌∷◌, ◌++◌}
use Prim.Native.Nat.{ℕ, suc, ◌+◌, ◌≤◌, ◌<◌}
use lib.ListN.{length, get_or, take, drop}
use Rattle.std.specs.List.{list_all}
use Rattle.std.proofs.lemmas.List.{take_more}
use lib.Ieee.{Float}
use Rattle.pattern.specs.Pattern.{well_formed}
use Rattle.device.specs.Stages.{unevaluated}
use Rattle.device.specs.declared.Mosfet1.{Mosfet1}
use Rattle.assembly.specs.Assembly.{Pattern, all_there}
use Rattle.loading.specs.Loading.{nodes_outside, alpha_outside, jacobian_contributions}
use Rattle.loading.specs.declared.LoadKind.{LoadKind}
use Rattle.from_record.specs.Devices.{device_from}
use Rattle.from_record.specs.Tags.{good_tags}
use Rattle.record_words.specs.Words.{record_of}
use Rattle.bridge.specs.Runs.{any_of}
use Rattle.bridge.proofs.Runs.{any_here}
use Rattle.bridge_devices.specs.Steps.{first_of, device_row, lower}
use Rattle.bridge_devices.proofs.Lowest.{lower_of_two}
use Rattle.device_bank.specs.Bank.{devices_of, bank_good, bank_row}

or_same : (a : Bool) → (a || a) ≡ a
or_same true = refl
or_same false = refl

-- row 12 is the same for all
pattern_once : (a0 a1 a2 a4 b0 b1 b2 b4 w : Bool) → lower (first_of a0 a1 a2 w a4) (first_of b0 b1 b2 w b4) ≡ first_of (a0 || b0) (a1 || b1) (a2 || b2) w (a4 || b4)
pattern_once a0 a1 a2 a4 b0 b1 b2 b4 w =
    lower_of_two a0 a1 a2 w a4 b0 b1 b2 w b4 ∙ ap (λ (x : Bool). first_of (a0 || b0) (a1 || b1) (a2 || b2) x (a4 || b4)) (or_same w)

any_push : {A : Type 0} (p : A → Bool) (xs : List A) (x : A) → any_of p (xs ++ (x ∷ [])) ≡ (any_of p xs || p x)
unfolding any_of
any_push p [] x = or_none (p x)
  where
    or_none : (a : Bool) → (a || false) ≡ a
    or_none true = refl
    or_none false = refl
any_push p (y ∷ xs) x = ap (λ (b : Bool). p y || b) (any_push p xs x) ∙ or_three (p y) (any_of p xs) (p x)
  where
    or_three : (a b c : Bool) → (a || (b || c)) ≡ (a || b || c)
    or_three true b c = refl
    or_three false b c = refl

devices_push : (ws : List (List Float)) (w : List Float) → devices_of (ws ++ (w ∷ [])) ≡ devices_of ws ++ (device_from (record_of w) ∷ [])
unfolding devices_of
devices_push [] w = refl
devices_push (v ∷ ws) w = ap (λ (ds : List Mosfet1). device_from (record_of v) ∷ ds) (devices_push ws w)

device_more : (bank : List (List Float)) (j : ℕ) → j < length bank → devices_of (take (j + 1) bank) ≡ devices_of (take j bank) ++ (device_from (record_of (get_or bank j [])) ∷ [])
device_more bank j h = ap devices_of (take_more bank j [] h) ∙ devices_push (take j bank) (get_or bank j [])

-- ---- rows
module _ (k : LoadKind) (P : Pattern) (well : Bool) (rows : ℕ) where
  -- the first row that applies to one of the devices
  unfoldable pub row_of : List Mosfet1 → ℕ
  row_of ds =
      first_of (any_of (λ (d : Mosfet1). nodes_outside d.stage d.terminals rows (length P.offsets)) ds) (any_of (λ (d : Mosfet1). unevaluated d.stage) ds)
      (any_of (λ (d : Mosfet1). alpha_outside d.disc k) ds) (not well) (any_of (λ (d : Mosfet1). not (all_there P (jacobian_contributions d k))) ds)

  one_more : (ds : List Mosfet1) (d : Mosfet1) → lower (row_of ds) (device_row d k P well rows) ≡ row_of (ds ++ (d ∷ []))
  unfolding row_of device_row
  one_more ds d =
      pattern_once _ _ _ _ (nodes_outside d.stage d.terminals rows (length P.offsets)) (unevaluated d.stage) (alpha_outside d.disc k) (not (all_there P (jacobian_contributions d k))) (not well)
      ∙ rw (any_push (λ (d : Mosfet1). nodes_outside d.stage d.terminals rows (length P.offsets)) ds d, any_push (λ (d : Mosfet1). unevaluated d.stage) ds d, any_push (λ (d : Mosfet1). alpha_outside d.disc k) ds d, any_push (λ (d : Mosfet1). not (all_there P (jacobian_contributions d k))) ds d)

  -- the devices before the number j
  pub none_asked : (bank : List (List Float)) (row : ℕ) → row ≡ first_of false false false (not well) false → row ≡ row_of (devices_of (take 0 bank))
  unfolding row_of devices_of any_of
  none_asked bank row e = e

  pub row_more : (bank : List (List Float)) (j : ℕ) (d : Mosfet1) (own row new : ℕ) → j < length bank → d ≡ device_from (record_of (get_or bank j []))
      → own ≡ device_row d k P well rows → row ≡ row_of (devices_of (take j bank)) → new ≡ lower row own → new ≡ row_of (devices_of (take (j + 1) bank))
  row_more bank j d own row new h ed eo er en =
      en ∙ rw (eo, er) (one_more (devices_of (take j bank)) d) ∙ ap row_of (sym (device_more bank j h ∙ ap (λ (x : Mosfet1). devices_of (take j bank) ++ (x ∷ [])) (sym ed)))

pub all_rows : (bank : List (List Float)) (k : LoadKind) (P : Pattern) (rows values : ℕ) (well : Bool) → well ≡ well_formed P.columns P.offsets P.lengths values
    → row_of k P well rows (devices_of bank) ≡ bank_row bank k P rows values
unfolding row_of bank_row first_of
all_rows bank k P rows values well e = rw e refl

-- ---- tags
module _ (bank : List (List Float)) (i : ℕ) where
  abbrev bad : List Float → Bool
  bad w = not (good_tags (record_of w))

  pub one_unknown : i < length bank → (r : Bool) → r ≡ good_tags (record_of (get_or bank i [])) → r ≡ false → any_of bad bank ≡ any_of bad (drop i bank) → false ≡ bank_good bank
  unfolding bank_good
  one_unknown h r e f same = ap not (any_here bad bank [] i h (ap not (sym e ∙ f)) ∙ sym same)

pub all_good : (bank : List (List Float)) → list_all (λ (w : List Float). good_tags (record_of w)) bank ≡ bank_good bank
unfolding bank_good any_of
all_good bank = all_of bank
  where
    both : (a b : Bool) → (a && not b) ≡ not (not a || b)
    both true b = refl
    both false b = refl

    all_of : (ws : List (List Float)) → list_all (λ (w : List Float). good_tags (record_of w)) ws ≡ not (any_of (λ (w : List Float). not (good_tags (record_of w))) ws)
    all_of [] = refl
    all_of (w ∷ ws) = ap (λ (b : Bool). good_tags (record_of w) && b) (all_of ws) ∙ both (good_tags (record_of w)) (any_of (λ (v : List Float). not (good_tags (record_of v))) ws)
