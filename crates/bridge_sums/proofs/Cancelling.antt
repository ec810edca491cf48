-- Lists that cancel, one behind another, cancel; so the contributions of all devices do, whatever the devices are.
use mathlib.Core.Path.{◌≡◌, refl, ap}
use mathlib.Core.Bool.{Bool, true, false, cond, ◌&&◌}
use mathlib.Core.List.{List, [], ◌∷◌, ◌++◌}
use lib.Dec.{T}
use lib.Ieee.{Float}
use lib.Ieee.Scale.{finite}
use Rattle.exact.specs.Fraction.{nat, ◌+q◌, ◌≈q◌}
use Rattle.exact.specs.FloatValue.{value}
use Rattle.exact.proofs.FractionLaws.{≈_refl, ≈_sym, ≈_trans, +_cong, +_assoc, zero_+}
use Rattle.device.specs.declared.NodeId.{NodeId}
use Rattle.device.specs.declared.Mosfet1.{Mosfet1}
use Rattle.assembly.specs.Assembly.{Contribution, Source}
use Rattle.loading.specs.Loading.{jacobian_contributions, rhs_contributions}
use Rattle.loading.specs.declared.LoadKind.{LoadKind}
use Rattle.column_sums.specs.ColumnSums.{in_column, column, currents, sum, all_finite, SumsToZero}
use Rattle.column_sums.proofs.Contributions.{columns_cancel, sources_cancel}
use Rattle.bridge_sums.specs.BridgeSums.{all_cells, all_sources, BridgeCancels}

-- ---- sums of lists
sum_append : (xs ys : List Float) → sum (xs ++ ys) ≈q sum xs +q sum ys
unfolding sum
sum_append [] ys = ≈_sym (zero_+ (sum ys))
sum_append (x ∷ xs) ys = ≈_trans (+_cong (≈_refl (value x)) (sum_append xs ys)) (≈_sym (+_assoc (value x) (sum xs) (sum ys)))

one_more : (b p q r : Bool) → (T p → T q × T r) → T (b && p) → T (b && q) × T r
one_more true p q r f t = f t
one_more false p q r f t = absurd t

both_finite : (xs ys : List Float) → T (all_finite (xs ++ ys)) → T (all_finite xs) × T (all_finite ys)
unfolding all_finite
both_finite [] ys t = (tt, t)
both_finite (x ∷ xs) ys t = one_more (finite x) (all_finite (xs ++ ys)) (all_finite xs) (all_finite ys) (both_finite xs ys) t

zero_append : {xs ys : List Float} → SumsToZero xs → SumsToZero ys → SumsToZero (xs ++ ys)
zero_append {xs} {ys} u v = record {
  exactly = λ t.
      let f = both_finite xs ys t in
      ≈_trans (sum_append xs ys) (≈_trans (+_cong (u.exactly f.0) (v.exactly f.1)) (zero_+ (nat 0)));
}

zero_none : SumsToZero []
unfolding sum
zero_none = record { exactly = λ t. ≈_refl (nat 0) }

-- ---- columns and currents of lists
picked : (b : Bool) (x : Float) (xs ys zs : List Float) → xs ≡ ys ++ zs → cond b (x ∷ xs) xs ≡ cond b (x ∷ ys) ys ++ zs
picked true x xs ys zs e = ap (λ (l : List Float). x ∷ l) e
picked false x xs ys zs e = e

column_append : (n : NodeId) (cs ds : List Contribution) → column n (cs ++ ds) ≡ column n cs ++ column n ds
unfolding column
column_append n [] ds = refl
column_append n (c ∷ cs) ds = picked (in_column n c) c.value (column n (cs ++ ds)) (column n cs) (column n ds) (column_append n cs ds)

currents_append : (ss ts : List Source) → currents (ss ++ ts) ≡ currents ss ++ currents ts
unfolding currents
currents_append [] ts = refl
currents_append (s ∷ ss) ts = ap (λ (xs : List Float). s.value ∷ xs) (currents_append ss ts)

-- ---- all devices
module _ (k : LoadKind) where
  column_cancels : (n : NodeId) (ds : List Mosfet1) → SumsToZero (column n (all_cells k ds))
  unfolding all_cells column
  column_cancels n [] = zero_none
  column_cancels n (d ∷ ds) = rw (column_append n (jacobian_contributions d k) (all_cells k ds)) (zero_append ((columns_cancel d k).column_of n) (column_cancels n ds))

  side_cancels : (ds : List Mosfet1) → SumsToZero (currents (all_sources k ds))
  unfolding all_sources currents
  side_cancels [] = zero_none
  side_cancels (d ∷ ds) = rw (currents_append (rhs_contributions d k) (all_sources k ds)) (zero_append (sources_cancel d k).side (side_cancels ds))

pub bridge_cancels : (ds : List Mosfet1) (k : LoadKind) → BridgeCancels ds k
bridge_cancels ds k = record { column_of = λ n. column_cancels k n ds; right_hand_side = side_cancels k ds }
