-- The rows of a load by cells that were looked up, each against that of the load on the pattern.
use mathlib.Core.Path.{◌≡◌, refl, sym, ap, ◌∙◌}
use mathlib.Core.Bool.{Bool, true, false, not, ◌&&◌, ◌||◌}
use mathlib.Core.List.{List, [], ◌∷◌}
use Prim.Native.Nat.{ℕ, suc, ◌≤◌}
use native.Mathlib.Nat.{not-suc-le-zero}
use native.Mathlib.Omega.{arith}
use lib.ListN.{length, get_or}
use lib.Dec.{eqb, ltb}
use lib.Ieee.{Float}
use borrow.Author.Tests.{le-ltb, not-false}
use Rattle.pattern.specs.Pattern.{well_formed, pairs_fit}
use Rattle.pattern.proofs.Rows.{and_right}
use Rattle.device.specs.Refusals.{unless, done, refused, ◌when◌}
use Rattle.device.specs.Stages.{unevaluated}
use Rattle.device.specs.declared.Mosfet1.{Mosfet1}
use Rattle.places.specs.Places.{missing_number}
use Rattle.assembly.specs.Assembly.{Pattern, all_there}
use Rattle.loading.specs.Loading.{nodes_outside, alpha_outside, jacobian_contributions}
use Rattle.loading.specs.declared.LoadKind.{LoadKind}
use Rattle.resolved_rows.specs.LoadResolved.{cells_held}
use Rattle.resolved_loads.proofs.ResolvedLoads.{rows, sizes, held}
use Rattle.from_record.specs.Devices.{device_from}
use Rattle.record_words.specs.Words.{record_of}
use Rattle.bridge.specs.Runs.{any_of, bridge_refused}
use Rattle.bridge.specs.Bridge.{bridge_of}
use Rattle.device_bank.specs.Bank.{devices_of}
use Rattle.bank_resolved.specs.Resolved.{Celled, celled_of, bridge_celled_of}
use Rattle.resolved_bridges.specs.ResolvedBridges.{LookedUpFor, LookedUp}

-- row 14 is asked of the bank's length
length_devices : (bank : List (List Float)) → length (devices_of bank) ≡ length bank
unfolding devices_of
length_devices [] = refl
length_devices (w ∷ ws) = ap suc (length_devices ws)

-- a condition that is the same of every device with cells that were looked up for it
any_same : (P : Pattern) (p : Celled → Bool) (q : Mosfet1 → Bool) → ((d : Mosfet1) (w : List ℕ) → LookedUpFor P d w → p (record { device = d; cells = w }) ≡ q d)
    → (ws : List (List Float)) (cs : List (List ℕ)) → LookedUp P ws cs → any_of p (celled_of ws cs) ≡ any_of q (devices_of ws)
unfolding any_of celled_of devices_of LookedUp
any_same P p q same [] cs l = refl
any_same P p q same (w ∷ ws) [] l = absurd l
any_same P p q same (w ∷ ws) (c ∷ cs) l =
    ap (λ (b : Bool). b || any_of p (celled_of ws cs)) (same (device_from (record_of w)) c l.0)
    ∙ ap (λ (b : Bool). q (device_from (record_of w)) || b) (any_same P p q same ws cs l.1)

-- a condition that does not depend on the device
none_false : (ds : List Mosfet1) → any_of (λ (d : Mosfet1). false) ds ≡ false
unfolding any_of
none_false [] = refl
none_false (d ∷ ds) = none_false ds

any_constant : (b : Bool) (bank : List (List Float)) → 1 ≤ length bank → any_of (λ (d : Mosfet1). b) (devices_of bank) ≡ b
unfolding any_of devices_of
any_constant b [] h = absurd (not-suc-le-zero h)
any_constant true (w ∷ ws) h = refl
any_constant false (w ∷ ws) h = none_false (devices_of ws)

-- every device has a list of cells
enough : (P : Pattern) (ws : List (List Float)) (cs : List (List ℕ)) → LookedUp P ws cs → length ws ≤ length cs
unfolding LookedUp
enough P [] cs l = omega arith
enough P (w ∷ ws) [] l = absurd l
enough P (w ∷ ws) (c ∷ cs) l = omega (arith, enough P ws cs l.1)

or_false : (x b : Bool) → b ≡ false → (x || b) ≡ x
or_false true b e = refl
or_false false b e = e

and_true : (x b : Bool) → b ≡ true → (x && b) ≡ x
and_true true b e = e
and_true false b e = refl

-- rows that agree but for the last, which counts only where the one before it does not apply
last_row : {A : Type 0} (z : A) (o a b c e x y : Bool) → (e ≡ false → x ≡ y)
    → unless ((14 when o) ∷ (8 when a) ∷ (10 when b) ∷ (11 when c) ∷ (12 when e) ∷ (13 when x) ∷ []) refused (done z)
    ≡ unless ((14 when o) ∷ (8 when a) ∷ (10 when b) ∷ (11 when c) ∷ (12 when e) ∷ (13 when y) ∷ []) refused (done z)
last_row z true a b c e x y h = refl
last_row z false true b c e x y h = refl
last_row z false false true c e x y h = refl
last_row z false false false true e x y h = refl
last_row z false false false false true x y h = refl
last_row z false false false false false x y h = rw (h refl) refl

-- and so where the other rows are equal by proof
same_rows : {A : Type 0} (z : A) {o o' a a' b b' c c' e e' x y : Bool} → o ≡ o' → a ≡ a' → b ≡ b' → c ≡ c' → e ≡ e' → (e' ≡ false → x ≡ y)
    → unless ((14 when o) ∷ (8 when a) ∷ (10 when b) ∷ (11 when c) ∷ (12 when e) ∷ (13 when x) ∷ []) refused (done z)
    ≡ unless ((14 when o') ∷ (8 when a') ∷ (10 when b') ∷ (11 when c') ∷ (12 when e') ∷ (13 when y) ∷ []) refused (done z)
same_rows z {o} {o'} {a} {a'} {b} {b'} {c} {c'} {e} {e'} {x} {y} p14 p8 p10 p11 p12 p13 = rw (p14, p8, p10, p11, p12) (last_row z o' a' b' c' e' x y p13)

module _ (bank : List (List Float)) (starts counts : List ℕ) (k : LoadKind) (P : Pattern) (cells : List (List ℕ)) (rhs values : List Float)
    (some : 1 ≤ length bank) (looked : LookedUp P bank cells) (room : length P.columns ≤ missing_number) where
  abbrev ls : List Celled
  ls = celled_of bank cells

  abbrev ds : List Mosfet1
  ds = devices_of bank

  stored : (d : Mosfet1) (w : List ℕ) → LookedUpFor P d w → (get_or w 6 0 ≡ length P.offsets) × (get_or w 7 0 ≡ length P.columns)
  stored d w l = sizes l.made d k P w rhs values l.answered l.nodes room

  row_14 : bridge_refused starts counts (length rhs) (length bank) ≡ bridge_refused starts counts (length rhs) (length ds)
  row_14 = ap (bridge_refused starts counts (length rhs)) (sym (length_devices bank))

  row_8 : any_of (λ (l : Celled). nodes_outside l.device.stage l.device.terminals (length rhs) (get_or l.cells 6 0)) ls
      ≡ any_of (λ (d : Mosfet1). nodes_outside d.stage d.terminals (length rhs) (length P.offsets)) ds
  row_8 = any_same P _ _ (λ d w l. ap (nodes_outside d.stage d.terminals (length rhs)) (stored d w l).0) bank cells looked

  row_10 : any_of (λ (l : Celled). unevaluated l.device.stage) ls ≡ any_of (λ (d : Mosfet1). unevaluated d.stage) ds
  row_10 = any_same P _ _ (λ d w l. refl) bank cells looked

  row_11 : any_of (λ (l : Celled). alpha_outside l.device.disc k) ls ≡ any_of (λ (d : Mosfet1). alpha_outside d.disc k) ds
  row_11 = any_same P _ _ (λ d w l. refl) bank cells looked

  -- an accepted lookup has tested that the pairs fit
  fit : pairs_fit P.columns 0 P.offsets P.lengths ≡ true
  unfolding LookedUp well_formed
  fit = first bank cells some looked
    where
      first : (ws : List (List Float)) (cs : List (List ℕ)) → 1 ≤ length ws → LookedUp P ws cs → pairs_fit P.columns 0 P.offsets P.lengths ≡ true
      first [] cs h l = absurd (not-suc-le-zero h)
      first (w ∷ ws) [] h l = absurd l
      first (w ∷ ws) (c ∷ cs) h l =
          and_right (eqb (length P.columns) (length P.columns)) (pairs_fit P.columns 0 P.offsets P.lengths)
          (rows l.0.made (device_from (record_of w)) k P c rhs values l.0.answered l.0.nodes room).0

  row_12 : any_of (λ (l : Celled). not (eqb (length values) (get_or l.cells 7 0))) ls ≡ not (well_formed P.columns P.offsets P.lengths (length values))
  unfolding well_formed
  row_12 =
      any_same P _ (λ (d : Mosfet1). not (eqb (length values) (length P.columns))) (λ d w l. ap (λ (n : ℕ). not (eqb (length values) n)) (stored d w l).1) bank cells looked
      ∙ any_constant (not (eqb (length values) (length P.columns))) bank some
      ∙ ap not (sym (and_true (eqb (length values) (length P.columns)) _ fit))

  row_13 : not (well_formed P.columns P.offsets P.lengths (length values)) ≡ false
      → (any_of (λ (l : Celled). not (cells_held l.cells l.device k (length values))) ls || ltb (length cells) (length bank))
      ≡ any_of (λ (d : Mosfet1). not (all_there P (jacobian_contributions d k))) ds
  unfolding well_formed
  row_13 e =
      let counted : eqb (length values) (length P.columns) ≡ true = sym (and_true (eqb (length values) (length P.columns)) _ fit) ∙ not-false _ e in
      or_false _ (ltb (length cells) (length bank)) (le-ltb (length cells) (length bank) (enough P bank cells looked))
      ∙ any_same P _ _ (λ d w l. ap not (held l.made d k P w rhs values l.answered l.nodes room counted)) bank cells looked

  pub same_answer : bridge_celled_of bank starts counts k cells rhs values ≡ bridge_of ds starts counts k P rhs values
  unfolding bridge_celled_of bridge_of
  same_answer = same_rows tt row_14 row_8 row_10 row_11 row_12 row_13
