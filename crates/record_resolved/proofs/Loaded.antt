-- The three steps of a load together are the load: the row is its answer, and both slices after the second and third step are as it leaves them.
use Rattle.std.proofs.Common.{◌≡◌, ℕ, ◌^◌, ◌<◌, ◌≤◌, Bool, true, false, ◌&&◌, eqb, leb, List, length, refl, ap, ◌∙◌, arith, eq-eqb, ne_eqb, eqb-true, leb-true}
use mathlib.Core.Bool.{false≢true}
use lib.Ieee.{Float}
use borrow.Author.Tests.{eqb-false}
use Rattle.device.specs.Refusals.{Outcome, done, refused, number}
use Rattle.device.specs.declared.Mosfet1.{Mosfet1}
use Rattle.adding.specs.Adding.{add_sources}
use Rattle.loading.specs.Loading.{branches_of, jacobian_contributions, rhs_contributions, if_done}
use Rattle.loading.specs.declared.LoadKind.{LoadKind}
use Rattle.loading.specs.declared.LoadKind.TheVariants.{DirectCurrent, Transient}
use Rattle.resolved_rows.specs.LoadResolved.{add_stored, stored_places, resolved_row_of, LoadedResolved}
use Rattle.load_resolved.proofs.Parts.{refused_row, accepted_row, nodes_back, static_matrix_lem, static_side_lem, transient_matrix, transient_side}
use Rattle.record.specs.declared.DeviceRecord.{DeviceRecord}
use Rattle.from_record.specs.Devices.{device_from}
use Rattle.from_record.specs.Tags.{good_tags}
use Rattle.record_loading.specs.Load.{kind_from, good_load}
use Rattle.record_resolved.specs.Resolved.{load_resolved_call, resolved_side, resolved_matrix}
use Rattle.record_resolved.specs.Steps.{resolved_number, static_sources, static_values, charge_sources, charge_values, static_side, static_matrix, charged_side, charged_matrix}

second_holds : (a b : Bool) → (a && b) ≡ true → b ≡ true
second_holds true b e = e
second_holds false b e = absurd (false≢true e)

module _ (r : DeviceRecord) (t : ℕ) (alpha : Float) (w : List ℕ) (rhs values : List Float) where
  abbrev d : Mosfet1
  d = device_from r

  abbrev kind : LoadKind
  kind = kind_from t alpha

  abbrev row : ℕ
  row = resolved_row_of d kind w (length rhs) (length values)

  abbrev answer : ℕ
  answer = resolved_number r t alpha w (length rhs) (length values)

  -- the answer and both slices are the call's
  abbrev Loads : ℕ → List Float → List Float → Type 0
  Loads n ys zs = (n ≡ load_resolved_call r t alpha w rhs values) × ((ys ≡ resolved_side r t alpha w rhs values) × (zs ≡ resolved_matrix r t alpha w rhs values))

  -- the slices after both steps, where the answer is n
  abbrev side_after : ℕ → List Float
  side_after n = charged_side n r t alpha (static_side n r rhs)

  abbrev matrix_after : ℕ → List Float
  matrix_after n = charged_matrix n r t alpha w (static_matrix n r w values)

  -- a tag is unknown
  unknown : good_load r t ≡ false → Loads answer (side_after answer) (matrix_after answer)
  unfolding resolved_number static_side static_matrix charged_side charged_matrix load_resolved_call resolved_side resolved_matrix
  unknown g = (rw g, (rw g, rw g))

  -- none is: then the call is the device's
  device's : good_load r t ≡ true → (o : Outcome Unit) (ys zs : List Float) → row ≡ number o → LoadedResolved d kind w rhs values o ys zs → Loads row ys zs
  unfolding load_resolved_call resolved_side resolved_matrix
  device's g o ys zs e l = (
    rw g (e ∙ ap number l.answer),
    (
      rw g (l.side ∙ ap (λ (o : Outcome Unit). if_done o (add_sources (rhs_contributions d kind) rhs) rhs) l.answer),
      rw g (l.matrix ∙ ap (λ (o : Outcome Unit). if_done o (add_stored (jacobian_contributions d kind) (stored_places w (branches_of d kind)) values) values) l.answer),
    ),
  )

  module _ (room : length rhs < 2 ^ 64) (e : row ≡ 0) where
    at_direct_current : DirectCurrent ≡ kind → LoadedResolved d kind w rhs values (done tt) (static_sources d rhs) (static_values d w values)
    unfolding static_sources static_values
    at_direct_current is =
        let back = nodes_back d kind w rhs values (omega (arith, room)) e in
        accepted_row d kind w rhs values e _ _
        (static_side_lem d w back rhs ∙ ap (λ (k : LoadKind). add_sources (rhs_contributions d k) rhs) is)
        (static_matrix_lem d w back values ∙ ap (λ (k : LoadKind). add_stored (jacobian_contributions d k) (stored_places w (branches_of d k)) values) is)

    at_transient : Transient alpha ≡ kind → LoadedResolved d kind w rhs values (done tt) (charge_sources d alpha (static_sources d rhs)) (charge_values d alpha w (static_values d w values))
    unfolding static_sources static_values charge_sources charge_values
    at_transient is =
        let back = nodes_back d kind w rhs values (omega (arith, room)) e in
        accepted_row d kind w rhs values e _ _
        (transient_side d w back alpha rhs ∙ ap (λ (k : LoadKind). add_sources (rhs_contributions d k) rhs) is)
        (transient_matrix d w back alpha values ∙ ap (λ (k : LoadKind). add_stored (jacobian_contributions d k) (stored_places w (branches_of d k)) values) is)

  -- a row refuses
  refuses : good_load r t ≡ true → eqb row 0 ≡ false → Loads answer (side_after answer) (matrix_after answer)
  unfolding resolved_number static_side static_matrix charged_side charged_matrix
  refuses g h =
      rw (g, h) (device's g (refused row) rhs values refl (refused_row d kind w rhs values row refl (eqb-false row 0 h)))

  transient_kind : t ≡ 1 → Transient alpha ≡ kind
  unfolding kind_from
  transient_kind e = rw (ne_eqb t 0 (λ z. omega (arith, z, e)))

  direct_current_kind : t ≡ 0 → DirectCurrent ≡ kind
  unfolding kind_from
  direct_current_kind e = rw (eq-eqb t 0 e)

  -- none does
  accepts_transient : length rhs < 2 ^ 64 → good_load r t ≡ true → eqb row 0 ≡ true → eqb t 1 ≡ true → Loads answer (side_after answer) (matrix_after answer)
  unfolding resolved_number static_side static_matrix charged_side charged_matrix
  accepts_transient room g h one =
      let e = eqb-true row 0 h in
      rw (g, h, one) (device's g (done tt) _ _ e (at_transient room e (transient_kind (eqb-true t 1 one))))

  at_most_one : good_load r t ≡ true → t ≤ 1
  unfolding good_load
  at_most_one g = leb-true t 1 (second_holds (good_tags r) (leb t 1) g)

  accepts_static : length rhs < 2 ^ 64 → good_load r t ≡ true → eqb row 0 ≡ true → eqb t 1 ≡ false → Loads answer (side_after answer) (matrix_after answer)
  unfolding resolved_number static_side static_matrix charged_side charged_matrix
  accepts_static room g h other =
      let e = eqb-true row 0 h in
      rw (g, h, other) (device's g (done tt) _ _ e (at_direct_current room e (direct_current_kind (omega (arith, at_most_one g, eqb-false t 1 other)))))

  by_tests : length rhs < 2 ^ 64 → (good zero one : Bool) → good_load r t ≡ good → eqb row 0 ≡ zero → eqb t 1 ≡ one → Loads answer (side_after answer) (matrix_after answer)
  by_tests room false zero one g h i = unknown g
  by_tests room true false one g h i = refuses g h
  by_tests room true true true g h i = accepts_transient room g h i
  by_tests room true true false g h i = accepts_static room g h i

  -- the answer n of the first step, ys and zs after the second, ys' and zs' after the third
  pub loaded : (n : ℕ) (ys zs ys' zs' : List Float) → length rhs < 2 ^ 64 → n ≡ answer → ys ≡ static_side n r rhs → zs ≡ static_matrix n r w values
      → ys' ≡ charged_side n r t alpha ys → zs' ≡ charged_matrix n r t alpha w zs → Loads n ys' zs'
  loaded n ys zs ys' zs' room e f g h i =
      let all = by_tests room _ _ _ refl refl refl in (
        e ∙ all.0,
        (
          h ∙ ap (charged_side n r t alpha) f ∙ ap side_after e ∙ all.1.0,
          i ∙ ap (charged_matrix n r t alpha w) g ∙ ap matrix_after e ∙ all.1.1,
        ),
      )
