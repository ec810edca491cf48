-- The lowest number of a bank's devices with their cells: the first row that applies, where every tag is known.
use mathlib.Core.Path.{◌≡◌, refl, ap, ◌∙◌}
use mathlib.Core.Bool.{Bool, true, false, cond, not, ◌||◌}
use mathlib.Core.List.{List, [], ◌∷◌}
use Prim.Native.Nat.{ℕ, ◌≤◌}
use native.Mathlib.Omega.{arith}
use lib.Dec.{eqb, ltb, leb}
use lib.ListN.{length, get_or}
use lib.Ieee.{Float}
use borrow.Author.Tests.{eqb-true, eqb-false, ltb-false}
use Rattle.device.specs.Stages.{unevaluated}
use Rattle.loading.specs.Loading.{nodes_outside, alpha_outside}
use Rattle.loading.specs.declared.LoadKind.{LoadKind}
use Rattle.record_loading.specs.Load.{kind_from}
use Rattle.resolved_rows.specs.LoadResolved.{cells_held, resolved_row_of}
use Rattle.from_record.specs.Devices.{device_from}
use Rattle.record_words.specs.Words.{record_of}
use Rattle.record_resolved.specs.Steps.{resolved_number}
use Rattle.record_resolved.proofs.Numbers.{tags_of_zero}
use Rattle.bridge.specs.Runs.{any_of}
use Rattle.bridge_devices.specs.Steps.{first_of, lower}
use Rattle.bridge_devices.proofs.Lowest.{lower_of_two}
use Rattle.device_bank.specs.Bank.{bank_good}
use Rattle.bank_resolved.specs.Resolved.{Celled, celled_of}
use Rattle.bank_resolved.specs.Steps.{celled_row, number_from, lowest_number}
use Rattle.bank_resolved.proofs.Celled.{by_row, rest_good, one_more_good}

or_assoc : (a b c : Bool) → (a || (b || c)) ≡ (a || b || c)
or_assoc true b c = refl
or_assoc false b c = refl

module _ (k : LoadKind) (rows values : ℕ) (lacking : Bool) where
  -- the first row that applies to one of the devices
  unfoldable pub row_of : List Celled → ℕ
  row_of ls =
      first_of (any_of (λ (l : Celled). nodes_outside l.device.stage l.device.terminals rows (get_or l.cells 6 0)) ls) (any_of (λ (l : Celled). unevaluated l.device.stage) ls)
      (any_of (λ (l : Celled). alpha_outside l.device.disc k) ls) (any_of (λ (l : Celled). not (eqb values (get_or l.cells 7 0))) ls)
      (any_of (λ (l : Celled). not (cells_held l.cells l.device k values)) ls || lacking)

  own : (l : Celled) → resolved_row_of l.device k l.cells rows values
      ≡ first_of (nodes_outside l.device.stage l.device.terminals rows (get_or l.cells 6 0)) (unevaluated l.device.stage) (alpha_outside l.device.disc k) (not (eqb values (get_or l.cells 7 0))) (not (cells_held l.cells l.device k values))
  unfolding resolved_row_of first_of
  own l = refl

  pub one_more : (l : Celled) (ls : List Celled) → lower (resolved_row_of l.device k l.cells rows values) (row_of ls) ≡ row_of (l ∷ ls)
  unfolding row_of any_of
  one_more l ls =
      let a0 = nodes_outside l.device.stage l.device.terminals rows (get_or l.cells 6 0) in
      let a1 = unevaluated l.device.stage in
      let a2 = alpha_outside l.device.disc k in
      let a3 = not (eqb values (get_or l.cells 7 0)) in
      let a4 = not (cells_held l.cells l.device k values) in
      let b0 = any_of (λ (l : Celled). nodes_outside l.device.stage l.device.terminals rows (get_or l.cells 6 0)) ls in
      let b1 = any_of (λ (l : Celled). unevaluated l.device.stage) ls in
      let b2 = any_of (λ (l : Celled). alpha_outside l.device.disc k) ls in
      let b3 = any_of (λ (l : Celled). not (eqb values (get_or l.cells 7 0))) ls in
      let b4 = any_of (λ (l : Celled). not (cells_held l.cells l.device k values)) ls in
      ap (λ (n : ℕ). lower n (row_of ls)) (own l) ∙ lower_of_two a0 a1 a2 a3 a4 b0 b1 b2 b3 (b4 || lacking)
      ∙ ap (λ (x : Bool). first_of (a0 || b0) (a1 || b1) (a2 || b2) (a3 || b3) x) (or_assoc a4 b4 lacking)

  -- behind the last device, and behind the last list
  no_row : first_of false false false false lacking ≡ row_of []
  unfolding row_of any_of
  no_row = refl

module _ (t : ℕ) (alpha : Float) (known : leb t 1 ≡ true) (rows values : ℕ) (lacking : Bool) where
  by_devices : (ws : List (List Float)) (cs : List (List ℕ)) → bank_good ws ≡ true → number_from t alpha rows values lacking ws cs ≡ row_of (kind_from t alpha) rows values lacking (celled_of ws cs)
  unfolding number_from celled_of
  by_devices [] cs tags = no_row (kind_from t alpha) rows values lacking
  by_devices (w ∷ ws) [] tags = no_row (kind_from t alpha) rows values lacking
  by_devices (w ∷ ws) (c ∷ cs) tags =
      ap (λ (n : ℕ). lower n (number_from t alpha rows values lacking ws cs)) (by_row (w ∷ ws) t tags known 0 (omega arith) alpha c rows values)
      ∙ ap (lower (resolved_row_of (device_from (record_of w)) (kind_from t alpha) c rows values)) (by_devices ws cs (rest_good w ws tags))
      ∙ one_more (kind_from t alpha) rows values lacking (record { device = device_from (record_of w); cells = c }) (celled_of ws cs)

all_rows : (bank : List (List Float)) (k : LoadKind) (cells : List (List ℕ)) (rows values : ℕ) → row_of k rows values (ltb (length cells) (length bank)) (celled_of bank cells) ≡ celled_row bank k cells rows values
unfolding row_of celled_row first_of
all_rows bank k cells rows values = refl

-- where every tag is known, the lowest number is the first row that applies
pub lowest_row : (bank : List (List Float)) (t : ℕ) (alpha : Float) (cells : List (List ℕ)) (rows values : ℕ) → bank_good bank ≡ true → leb t 1 ≡ true
    → lowest_number bank t alpha cells rows values ≡ celled_row bank (kind_from t alpha) cells rows values
unfolding lowest_number
lowest_row bank t alpha cells rows values tags known =
    by_devices t alpha known rows values (ltb (length cells) (length bank)) bank cells tags ∙ all_rows bank (kind_from t alpha) cells rows values

-- ---- 0 is no unknown tag's number
both_zero : (a b : ℕ) → lower a b ≡ 0 → (a ≡ 0) × (b ≡ 0)
unfolding lower
both_zero a b e = go (eqb a 0) (eqb b 0) (ltb a b) refl refl e
  where
    go : (x y z : Bool) → eqb a 0 ≡ x → eqb b 0 ≡ y → cond x b (cond y a (cond z a b)) ≡ 0 → (a ≡ 0) × (b ≡ 0)
    go true y z p q f = (eqb-true a 0 p, f)
    go false true z p q f = (f, eqb-true b 0 q)
    go false false true p q f = absurd (eqb-false a 0 p f)
    go false false false p q f = absurd (eqb-false b 0 q f)

module _ (t : ℕ) (alpha : Float) (rows values : ℕ) where
  -- row 13 does not apply by itself
  not_13 : (lacking : Bool) → first_of false false false false lacking ≡ 0 → lacking ≡ false
  unfolding first_of
  not_13 true e = absurd (omega (arith, e))
  not_13 false e = refl

  none_lacks : (lacking : Bool) (ws : List (List Float)) (cs : List (List ℕ)) → number_from t alpha rows values lacking ws cs ≡ 0 → lacking ≡ false
  unfolding number_from
  none_lacks lacking [] cs e = not_13 lacking e
  none_lacks lacking (w ∷ ws) [] e = not_13 lacking e
  none_lacks lacking (w ∷ ws) (c ∷ cs) e = none_lacks lacking ws cs (both_zero (resolved_number (record_of w) t alpha c rows values) _ e).1

  all_good : (lacking : Bool) (ws : List (List Float)) (cs : List (List ℕ)) → length ws ≤ length cs → number_from t alpha rows values lacking ws cs ≡ 0 → bank_good ws ≡ true
  unfolding number_from bank_good any_of
  all_good lacking [] cs h e = refl
  all_good lacking (w ∷ ws) [] h e = absurd (omega (arith, h))
  all_good lacking (w ∷ ws) (c ∷ cs) h e =
      let z = both_zero (resolved_number (record_of w) t alpha c rows values) (number_from t alpha rows values lacking ws cs) e in
      one_more_good w ws (tags_of_zero (record_of w) t alpha c rows values z.0) (all_good lacking ws cs (omega (arith, h)) z.1)

-- where no number refuses a device, every tag is known
pub zero_good : (bank : List (List Float)) (t : ℕ) (alpha : Float) (cells : List (List ℕ)) (rows values : ℕ) → lowest_number bank t alpha cells rows values ≡ 0 → bank_good bank ≡ true
unfolding lowest_number
zero_good bank t alpha cells rows values e =
    all_good t alpha rows values (ltb (length cells) (length bank)) bank cells
    (ltb-false (length cells) (length bank) (none_lacks t alpha rows values (ltb (length cells) (length bank)) bank cells e)) e
