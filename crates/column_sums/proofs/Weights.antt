-- A column's sum as one polynomial: each contribution's value times 1 where it is to the column, times 0 where it is not.
use mathlib.Core.Path.{◌≡◌, refl}
use mathlib.Core.Bool.{Bool, true, false, cond}
use mathlib.Core.List.{List, [], ◌∷◌, ◌++◌}
use lib.Ieee.{Float, nan, inf, fin, neg}
use Rattle.exact.specs.Fraction.{ℚ, nat, ◌+q◌, negq, ◌*q◌, ◌≈q◌}
use Rattle.exact.specs.FloatValue.{value}
use Rattle.exact.proofs.FractionLaws.{≈_refl, ≈_sym, ≈_trans, +_cong, +_assoc, zero_+, zero_*, one_*}
use Rattle.device.specs.declared.NodeId.{NodeId}
use Rattle.assembly.specs.Assembly.{Contribution, Source}
use Rattle.column_sums.specs.ColumnSums.{in_column, column, currents, sum}

-- the negation of a float has the negated value, as data
pub value_negated : (x : Float) → value (neg x) ≡ negq (value x)
unfolding value neg negq nat
value_negated nan = refl
value_negated (inf s) = refl
value_negated (fin true m e) = refl
value_negated (fin false m e) = refl

-- 1 where a test holds
abbrev pub indicator : Bool → ℚ
indicator b = cond b (nat 1) (nat 0)

unfoldable pub weighted : NodeId → List Contribution → ℚ
weighted n [] = nat 0
weighted n (c ∷ cs) = indicator (in_column n c) *q value c.value +q weighted n cs

one_more : (b : Bool) (x : Float) (xs : List Float) (z : ℚ) → sum xs ≈q z → sum (cond b (x ∷ xs) xs) ≈q indicator b *q value x +q z
unfolding sum
one_more true x xs z e = +_cong (≈_sym (one_* (value x))) e
one_more false x xs z e = ≈_trans e (≈_sym (≈_trans (+_cong (zero_* (value x)) (≈_refl z)) (zero_+ z)))

pub column_weighted : (n : NodeId) (cs : List Contribution) → sum (column n cs) ≈q weighted n cs
unfolding sum column weighted
column_weighted n [] = ≈_refl (nat 0)
column_weighted n (c ∷ cs) = one_more (in_column n c) c.value (column n cs) (weighted n cs) (column_weighted n cs)

-- one list behind another
pub weighted_append : (n : NodeId) (cs ds : List Contribution) → weighted n (cs ++ ds) ≈q weighted n cs +q weighted n ds
unfolding weighted
weighted_append n [] ds = ≈_sym (zero_+ (weighted n ds))
weighted_append n (c ∷ cs) ds =
    let w = indicator (in_column n c) *q value c.value in
    ≈_trans (+_cong (≈_refl w) (weighted_append n cs ds)) (≈_sym (+_assoc w (weighted n cs) (weighted n ds)))

pub currents_append : (ss ts : List Source) → sum (currents (ss ++ ts)) ≈q sum (currents ss) +q sum (currents ts)
unfolding sum currents
currents_append [] ts = ≈_sym (zero_+ (sum (currents ts)))
currents_append (s ∷ ss) ts =
    ≈_trans (+_cong (≈_refl (value s.value)) (currents_append ss ts)) (≈_sym (+_assoc (value s.value) (sum (currents ss)) (sum (currents ts))))
