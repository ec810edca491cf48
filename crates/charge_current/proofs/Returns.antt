-- THE THEOREM: what a charge branch loads returns its method's exact current, for a branch whose history current is loaded and for one whose is not.
use mathlib.Core.Path.{◌≡◌, sym, subst}
use mathlib.Core.Bool.{Bool, true, false, not, cond}
use mathlib.Core.List.{List}
use lib.Dec.{T}
use lib.Ieee.{Float, binary64}
use lib.Ieee.Scale.{finite}
use Rattle.exact.specs.Fraction.{ℚ, nat, ◌+q◌, ◌-q◌, ◌*q◌, absq, ◌≤q◌, ◌≈q◌}
use Rattle.exact.specs.FloatValue.{value}
use Rattle.exact.specs.Float64.{◌⊗◌, ◌≠f◌, +0}
use Rattle.exact.proofs.Computing.{computing}
use Rattle.exact.proofs.Constants.{value_+0}
use Rattle.exact.proofs.Comparisons.{nne→≈}
use Rattle.exact.proofs.FractionLaws.{≈_refl, ≈_sym, ≈_trans, *_comm, *_cong_r, zero_*, ≤_refl}
use Rattle.exact.proofs.Closeness.{within_≈}
use Rattle.exact.proofs.Rounding.{mul_rounded}
use Rattle.exact.proofs.RoundingOrder.{rounded_zero}
use Rattle.device.specs.declared.NodeId.{NodeId}
use Rattle.device.specs.declared.Discretisation.{Discretisation}
use Rattle.device.specs.declared.ChargeHistory.{ChargeHistory}
use Rattle.reactive.specs.Charge.{scale_of, companion_of}
use Rattle.stamps.specs.Stamps.{branch_of}
use Rattle.stamps.specs.declared.ChargeBranch.{ChargeBranch}
use Rattle.charge_current.specs.ChargeCurrent.{exact_terms, total, sizes, loaded_conductance, loaded_history, loaded_current, charge_scale, ChargeReturns, ChargeSizes, MethodSizes, OnlyZeros}
use Rattle.charge_current.proofs.Currents.{method_of_lem}
use Rattle.charge_current.proofs.Errors.{conductance, history, current_close}
use Rattle.charge_current.proofs.Zeros.{zero_current, not_conducting, zero_close}

-- the loaded conductance is scale · C, also where C is zero
loaded_is : (g c : Float) → T (finite g) → T (finite c) → T (finite (g ⊗ c)) → cond (c ≠f +0) (value (g ⊗ c)) (nat 0) ≈q value (g ⊗ c)
unfolding computing
loaded_is g c f h t = go (c ≠f +0) (λ (n : T (not (c ≠f +0))). rounded_zero (mul_rounded binary64 g c f h) t (≈_trans (*_cong_r (value g) (≈_trans (nne→≈ c +0 h tt n) value_+0)) (≈_trans (*_comm (value g) (nat 0)) (zero_* (value g)))))
  where
    go : (b : Bool) → (T (not b) → value (g ⊗ c) ≈q nat 0) → cond b (value (g ⊗ c)) (nat 0) ≈q value (g ⊗ c)
    go true z = ≈_refl (value (g ⊗ c))
    go false z = ≈_sym (z tt)

module _ (m n : NodeId) (disc : Discretisation) (alpha c v q : Float) (past : ChargeHistory) where
  abbrev branch : Float → Bool → ChargeBranch
  branch cv remembers = branch_of m n c cv q remembers disc alpha past

  abbrev terms : List ℚ
  terms = exact_terms disc alpha q past

  -- what the matrix has of C
  abbrev G : ℚ
  G = cond (c ≠f +0) (value (scale_of disc alpha ⊗ c)) (nat 0)

  scale_is : (cv : Float) (remembers : Bool) → sizes terms +q absq (G *q value v) ≤q charge_scale (branch cv remembers) v terms
  unfolding branch_of loaded_conductance charge_scale
  scale_is cv remembers = ≤_refl (sizes terms +q absq (G *q value v))

  loaded_current_lem : (cv : Float) → G *q value v -q value (companion_of disc alpha q cv past) ≈q loaded_current (branch cv true) v
  unfolding branch_of loaded_conductance loaded_history loaded_current
  loaded_current_lem cv = ≈_refl (G *q value v -q value (companion_of disc alpha q cv past))

  unloaded_current : (cv : Float) → G *q value v -q nat 0 ≈q loaded_current (branch cv false) v
  unfolding branch_of loaded_conductance loaded_history loaded_current
  unloaded_current cv = ≈_refl (G *q value v -q nat 0)

  loaded_returns : ChargeSizes disc alpha c v q past → ChargeReturns (branch (c ⊗ v) true) v terms
  unfolding branch_of companion_of
  loaded_returns P =
      let M = method_of_lem disc P in
      let g = (conductance M P.capacitance P.voltage).est.fin in
      let h = (history M P.capacitance P.voltage).est.fin in
      let same = loaded_is (scale_of disc alpha) c M.matrix.near.fin P.capacitance.fin g in
      record {
        conductance = λ t. g;
        history = λ t. h;
        close = within_≈ (loaded_current_lem (c ⊗ v)) (≈_refl (total terms)) (current_close M P.capacitance P.voltage same (charge_scale (branch (c ⊗ v) true) v terms) (scale_is (c ⊗ v) true));
      }

  unloaded_returns : MethodSizes disc alpha → OnlyZeros c q past → ChargeReturns (branch (c ⊗ v) false) v terms
  unfolding branch_of
  unloaded_returns S Z = record {
    conductance = λ t. absurd (subst (λ (b : Bool). T b) (not_conducting c Z.capacitance) t);
    history = λ t. absurd t;
    close = within_≈ (unloaded_current (c ⊗ v)) (≈_refl (total terms))
        (zero_close terms c (value (scale_of disc alpha ⊗ c)) (value v) Z.capacitance (zero_current disc alpha c q past S Z) (charge_scale (branch (c ⊗ v) false) v terms) (scale_is (c ⊗ v) false));
  }

  by_history : (remembers : Bool) → MethodSizes disc alpha → (T remembers → ChargeSizes disc alpha c v q past) → (T (not remembers) → OnlyZeros c q past) → ChargeReturns (branch (c ⊗ v) remembers) v terms
  by_history true S P Z = loaded_returns (P tt)
  by_history false S P Z = unloaded_returns S (Z tt)

  -- cv is the rounded C v, which a gate has as its charge q; a junction's q is its own. `remembers`: the history current is loaded
  pub charge_returns : (remembers : Bool) {cv : Float} → cv ≡ c ⊗ v → MethodSizes disc alpha → (T remembers → ChargeSizes disc alpha c v q past) → (T (not remembers) → OnlyZeros c q past)
      → ChargeReturns (branch_of m n c cv q remembers disc alpha past) v (exact_terms disc alpha q past)
  charge_returns remembers e S P Z = subst (λ (cv : Float). ChargeReturns (branch cv remembers) v terms) (sym e) (by_history remembers S P Z)
