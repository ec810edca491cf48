-- The loads of a bank's devices by their cells, one after the other, are their loads on the pattern: each leaves the same two slices, and keeps
-- the number of values.
use mathlib.Core.Path.{◌≡◌, refl, ap, ◌∙◌}
use mathlib.Core.List.{List, [], ◌∷◌}
use Prim.Native.Nat.{ℕ, suc, ◌≤◌}
use native.Mathlib.Omega.{arith}
use lib.ListN.{length}
use lib.Ieee.{Float}
use Rattle.device.specs.Refusals.{Outcome, done, refused}
use Rattle.device.specs.declared.Mosfet1.{Mosfet1}
use Rattle.places.specs.Places.{missing_number}
use Rattle.assembly.specs.Assembly.{Pattern, add_cells, add_sources}
use Rattle.assembly.proofs.Cells.{length_cells}
use Rattle.loading.specs.Loading.{jacobian_contributions, rhs_contributions, load_of, if_done}
use Rattle.loading.specs.declared.LoadKind.{LoadKind}
use Rattle.resolved_rows.specs.LoadResolved.{load_resolved_of}
use Rattle.resolved_loads.proofs.ResolvedLoads.{resolved_load_is_load}
use Rattle.from_record.specs.Devices.{device_from}
use Rattle.record_words.specs.Words.{record_of}
use Rattle.bridge.specs.Bridge.{Slices, load_one, load_in_order, zeroed, bridge_slices}
use Rattle.device_bank.specs.Bank.{devices_of}
use Rattle.bank_resolved.specs.Resolved.{celled_of, load_celled, load_celled_in_order, bridge_celled_slices}
use Rattle.resolved_bridges.specs.ResolvedBridges.{LookedUpFor, LookedUp}

length_zeroed : (xs : List Float) → length (zeroed xs) ≡ length xs
unfolding zeroed
length_zeroed [] = refl
length_zeroed (x ∷ xs) = ap suc (length_zeroed xs)

module _ (k : LoadKind) (P : Pattern) (room : length P.columns ≤ missing_number) where
  -- one device
  one_same : (d : Mosfet1) (w : List ℕ) → LookedUpFor P d w → (s : Slices) → length s.matrix ≤ missing_number
      → load_celled k (record { device = d; cells = w }) s ≡ load_one k P d s
  unfolding load_celled load_one
  one_same d w l s small =
      let j =
      resolved_load_is_load l.made d k P w s.side s.matrix l.answered l.nodes room (load_resolved_of d k w s.side s.matrix) _ _ small
      (record { answer = refl; side = refl; matrix = refl }) in
      λ i. record {
        side = (j.side ∙ ap (λ (r : Outcome Unit). if_done r (add_sources (rhs_contributions d k) s.side) s.side) j.answer) i;
        matrix = (j.matrix ∙ ap (λ (r : Outcome Unit). if_done r (add_cells P (jacobian_contributions d k) s.matrix) s.matrix) j.answer) i;
      }

  kept : (r : Outcome Unit) (xs ys : List Float) → length xs ≡ length ys → length (if_done r xs ys) ≡ length ys
  unfolding if_done
  kept (done u) xs ys e = e
  kept (refused n) xs ys e = refl

  count_kept : (d : Mosfet1) (s : Slices) → length (load_one k P d s).matrix ≡ length s.matrix
  unfolding load_one
  count_kept d s = kept (load_of d k P s.side s.matrix) _ _ (length_cells P (jacobian_contributions d k) s.matrix)

  -- all of them
  in_order : (ws : List (List Float)) (cs : List (List ℕ)) → LookedUp P ws cs → (s : Slices) → length s.matrix ≤ missing_number
      → load_celled_in_order k (celled_of ws cs) s ≡ load_in_order k P (devices_of ws) s
  unfolding LookedUp celled_of devices_of load_celled_in_order load_in_order
  in_order [] cs l s small = refl
  in_order (w ∷ ws) [] l s small = absurd l
  in_order (w ∷ ws) (c ∷ cs) l s small =
      ap (load_celled_in_order k (celled_of ws cs)) (one_same (device_from (record_of w)) c l.0 s small)
      ∙ in_order ws cs l.1 (load_one k P (device_from (record_of w)) s) (omega (arith, count_kept (device_from (record_of w)) s))

  pub same_slices : (bank : List (List Float)) (cells : List (List ℕ)) (rhs values : List Float) → LookedUp P bank cells → length values ≤ missing_number
      → bridge_celled_slices bank k cells rhs values ≡ bridge_slices (devices_of bank) k P rhs values
  unfolding bridge_celled_slices bridge_slices
  same_slices bank cells rhs values looked small =
      in_order bank cells looked (record { side = zeroed rhs; matrix = zeroed values }) (omega (arith, length_zeroed values))
