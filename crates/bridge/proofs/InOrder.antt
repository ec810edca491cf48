-- Devices whose rows were all asked: each load in its turn is accepted, since a load's rows read the slices by their lengths alone.
use mathlib.Core.Path.{◌≡◌, sym, ap, ◌∙◌}
use mathlib.Core.Bool.{Bool, false, not}
use mathlib.Core.List.{List, ◌∷◌}
use Prim.Native.Nat.{ℕ}
use lib.ListN.{length}
use lib.Ieee.{Float}
use Rattle.pattern.specs.Pattern.{well_formed}
use Rattle.device.specs.Refusals.{Outcome, done, refused, row_number}
use Rattle.device.specs.Stages.{unevaluated}
use Rattle.device.proofs.Rows.{number_0, none_applies}
use Rattle.device.specs.declared.Mosfet1.{Mosfet1}
use Rattle.assembly.specs.Assembly.{Pattern, all_there, add_cells, add_sources}
use Rattle.loading.specs.Loading.{nodes_outside, alpha_outside, jacobian_contributions, rhs_contributions, load_rows, load_of, if_done, Loaded}
use Rattle.loading.specs.declared.LoadKind.{LoadKind}
use Rattle.bridge.specs.Runs.{any_of}
use Rattle.bridge.proofs.Runs.{neither}
use Rattle.bridge.specs.Bridge.{devices_rows, load_one}

-- no row applies to any of the devices
pub record Passed (ds : List Mosfet1) (k : LoadKind) (P : Pattern) (rows values : ℕ) : Type 0 where
  pub row_8 : any_of (λ (d : Mosfet1). nodes_outside d.stage d.terminals rows (length P.offsets)) ds ≡ false
  pub row_10 : any_of (λ (d : Mosfet1). unevaluated d.stage) ds ≡ false
  pub row_11 : any_of (λ (d : Mosfet1). alpha_outside d.disc k) ds ≡ false
  pub row_12 : not (well_formed P.columns P.offsets P.lengths values) ≡ false
  pub row_13 : any_of (λ (d : Mosfet1). not (all_there P (jacobian_contributions d k))) ds ≡ false

pub number_passed : (ds : List Mosfet1) (k : LoadKind) (P : Pattern) (rows values : ℕ) → row_number (devices_rows ds k P rows values) ≡ 0 → Passed ds k P rows values
number_passed ds k P rows values e =
    let p = number_0 (devices_rows ds k P rows values) tt e in
    record { row_8 = p.0; row_10 = p.1.0; row_11 = p.1.1.0; row_12 = p.1.1.1.0; row_13 = p.1.1.1.1.0 }

split : {A : Type 0} (p : A → Bool) (x : A) (xs : List A) → any_of p (x ∷ xs) ≡ false → (p x ≡ false) × (any_of p xs ≡ false)
unfolding any_of
split p x xs e = neither (p x) (any_of p xs) e

module _ (d : Mosfet1) (ds : List Mosfet1) (k : LoadKind) (P : Pattern) (rows values : ℕ) (h : Passed (d ∷ ds) k P rows values) where
  -- the first device's own rows
  pub first_accepted : (rhs held : List Float) → length rhs ≡ rows → length held ≡ values → load_of d k P rhs held ≡ done tt
  unfolding load_of
  first_accepted rhs held er ev =
      none_applies (load_rows d k P rhs held) refused (done tt) (
        ap (λ (n : ℕ). nodes_outside d.stage d.terminals n (length P.offsets)) er ∙ (split _ d ds h.row_8).0,
        (
          (split _ d ds h.row_10).0,
          (
            (split _ d ds h.row_11).0,
            (
              ap (λ (n : ℕ). not (well_formed P.columns P.offsets P.lengths n)) ev ∙ h.row_12,
              (
                (split _ d ds h.row_13).0,
                tt,
              ),
            ),
          ),
        ),
      )

  pub rest_passed : Passed ds k P rows values
  rest_passed = record {
    row_8 = (split _ d ds h.row_8).1;
    row_10 = (split _ d ds h.row_10).1;
    row_11 = (split _ d ds h.row_11).1;
    row_12 = h.row_12;
    row_13 = (split _ d ds h.row_13).1;
  }

-- an accepted load leaves what the definition of a load in its turn does
pub loaded_one : (d : Mosfet1) (k : LoadKind) (P : Pattern) (rhs values rhs' values' : List Float) → Loaded d k P rhs values (done tt) rhs' values'
    → load_one k P d (record { side = rhs; matrix = values }) ≡ record { side = rhs'; matrix = values' }
unfolding load_one
loaded_one d k P rhs values rhs' values' l = λ i. record {
  side = (ap (λ (r : Outcome Unit). if_done r (add_sources (rhs_contributions d k) rhs) rhs) (sym l.answer) ∙ sym l.side) i;
  matrix = (ap (λ (r : Outcome Unit). if_done r (add_cells P (jacobian_contributions d k) values) values) (sym l.answer) ∙ sym l.matrix) i;
}
