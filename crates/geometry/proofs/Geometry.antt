-- What the geometry's proofs share: one key more, a product's test, and the call's answers by the tests that lead to them.
use mathlib.Core.Path.{◌≡◌, refl, ◌∙◌}
use mathlib.Core.Bool.{Bool, true, false}
use mathlib.Core.List.{List, [], ◌∷◌}
use Prim.Native.Nat.{ℕ}
use lib.Ieee.{Float, nan, inf, fin}
use Rattle.std.specs.Float.{float_is_finite}
use lib.ListN.{length}
use lib.Seq.{sets}
use Rattle.device.specs.Refusals.{Row, unless, done, refused, ◌when◌}
use Rattle.device.specs.Stages.{before}
use Rattle.device.specs.declared.Mosfet1.{Mosfet1}
use Rattle.device.specs.declared.Stage.TheVariants.{Scaled}
use Rattle.device.proofs.Branches.{cond_yes, cond_no}
use Rattle.device.proofs.Rows.{NoneOf, later_decide}
use Rattle.keys.specs.declared.Table.TheVariants as Table
use Rattle.entries.specs.Entries.{entries_of, unknown_from, unknown_count, key_rows, keys_of}
use Rattle.entries.proofs.Rows.{refused_keys}
use Rattle.geometry.specs.Geometry.{finite, oxide_missing, sized_to, sizes_given, geometry_rows, geometry_of, geometry_list_of}

pub finite_is : (x : Float) → float_is_finite x ≡ finite x
unfolding float_is_finite
finite_is nan = refl
finite_is (inf s) = refl
finite_is (fin s m e) = refl

-- ---- the answer and the list, by the tests that lead to them

module _ (d : Mosfet1) (bytes offsets lengths : List ℕ) (values : List Float) (list : List ℕ) where
  abbrev pub no_oxide : Bool
  no_oxide =
      let s = sizes_given d bytes offsets lengths values in oxide_missing d.card.kf s.w s.l d.card.cox

  abbrev later : List Row
  later = (5 when no_oxide) ∷ (10 when before Scaled d.stage) ∷ []

  -- what a refusal answers
  abbrev pub Refuses : ℕ → Type 0
  Refuses n = (refused n ≡ geometry_of d bytes offsets lengths values (length list)) × (list ≡ geometry_list_of d bytes offsets lengths values list)

  pub at_keys : (n : ℕ) → keys_of Table.Geometry bytes offsets lengths values (length list) ≡ refused n → Refuses n
  unfolding geometry_of geometry_list_of
  at_keys n e =
      (refused_keys Table.Geometry bytes offsets lengths values (length list) n later refused _ e, refused_keys Table.Geometry bytes offsets lengths values (length list) n later (λ _. list) _ e)

  -- rows 1 to 4 do not apply
  module _ (h : NoneOf (key_rows Table.Geometry bytes offsets lengths values (length list))) where
    by_later : {A : Type 0} (refuse : ℕ → A) (x : A) → unless later refuse x ≡ unless (geometry_rows d bytes offsets lengths values (length list)) refuse x
    by_later refuse x =
        later_decide (key_rows Table.Geometry bytes offsets lengths values (length list)) later refuse x h

    pub at_5 : no_oxide ≡ true → Refuses 5
    unfolding geometry_of geometry_list_of
    at_5 t = (cond_yes _ _ t ∙ by_later refused _, cond_yes _ _ t ∙ by_later (λ _. list) _)

    module _ (five : no_oxide ≡ false) where
      pub at_10 : before Scaled d.stage ≡ true → Refuses 10
      unfolding geometry_of geometry_list_of
      at_10 t = (cond_yes _ _ t ∙ cond_no _ _ five ∙ by_later refused _, cond_yes _ _ t ∙ cond_no _ _ five ∙ by_later (λ _. list) _)

      pub accepted : before Scaled d.stage ≡ false → (done (record { device = sized_to d (sizes_given d bytes offsets lengths values); unknown = unknown_count Table.Geometry (entries_of bytes offsets lengths values) }) ≡ geometry_of d bytes offsets lengths values (length list)) × (sets list 0 (unknown_from Table.Geometry 0 (entries_of bytes offsets lengths values)) ≡ geometry_list_of d bytes offsets lengths values list)
      unfolding geometry_of geometry_list_of
      accepted t = (cond_no _ _ t ∙ cond_no _ _ five ∙ by_later refused _, cond_no _ _ t ∙ cond_no _ _ five ∙ by_later (λ _. list) _)
