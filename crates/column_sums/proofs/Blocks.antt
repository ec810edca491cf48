-- Lists of contributions that cancel in every column, whichever of their nodes are one: the channel's eight, a conductance's four,
-- a branch's, and one such list behind another. The same of sources.
use mathlib.Core.Bool.{Bool, true, false, cond}
use mathlib.Core.List.{List, [], ◌∷◌, ◌++◌}
use lib.Ieee.{Float, neg}
use Rattle.exact.specs.Fraction.{ℚ, nat, ◌+q◌, ◌≈q◌}
use Rattle.exact.specs.FloatValue.{value}
use Rattle.exact.proofs.FractionLaws.{≈_refl, ≈_trans, +_cong, zero_+}
use Rattle.exact.proofs.FractionProver.{qv, ##, ◌⊞◌, ◌⊠◌, ⊝, req}
use Rattle.device.specs.declared.NodeId.{NodeId}
use Rattle.device.specs.declared.Terminals.{Terminals}
use Rattle.stamps.specs.Stamps.{position, pair_between, values_between}
use Rattle.stamps.specs.declared.Residual.{Residual}
use Rattle.stamps.specs.declared.ChargeBranch.{ChargeBranch}
use Rattle.assembly.specs.Assembly.{Contribution, Source, paired, conductance_pair, branch_cells, current_pair, branch_history, offset_sources}
use Rattle.column_sums.specs.ColumnSums.{same_node, in_column, currents, sum}
use Rattle.column_sums.proofs.Weights.{value_negated, indicator, weighted, weighted_append, currents_append}

pub record Cancels (cs : List Contribution) : Type 0 where
  pub weights : (n : NodeId) → weighted n cs ≈q nat 0

pub record SourcesBalance (ss : List Source) : Type 0 where
  pub total : sum (currents ss) ≈q nat 0

zeros : {x y z : ℚ} → z ≈q x +q y → x ≈q nat 0 → y ≈q nat 0 → z ≈q nat 0
zeros e f g = ≈_trans e (≈_trans (+_cong f g) (zero_+ (nat 0)))

-- ---- the matrix
pub cancels_none : Cancels []
unfolding weighted
cancels_none = record { weights = λ n. ≈_refl (nat 0) }

infixl 65 ◌then◌
pub ◌then◌ : {cs ds : List Contribution} → Cancels cs → Cancels ds → Cancels (cs ++ ds)
◌then◌ {cs} {ds} c d = record { weights = λ n. zeros (weighted_append n cs ds) (c.weights n) (d.weights n) }

-- the channel's eight: rows drain and source, columns gate, drain, source, bulk
module _ (drain gate source bulk : NodeId) (gm gds gms gmbs : Float) where
  abbrev pub channel_cells : List Contribution
  channel_cells =
      paired
      (position drain gate ∷ position drain drain ∷ position drain source ∷ position drain bulk
      ∷ position source gate ∷ position source drain ∷ position source source ∷ position source bulk ∷ [])
      (gm ∷ gds ∷ neg gms ∷ gmbs ∷ neg gm ∷ neg gds ∷ gms ∷ neg gmbs ∷ [])

  pub channel_cancels : Cancels channel_cells
  unfolding weighted in_column paired
  channel_cancels = record {
    weights = λ n.
        let G = qv 0 in let D = qv 1 in let S = qv 2 in let B = qv 3 in
        let m = qv 4 in let o = qv 5 in let s = qv 6 in let b = qv 7 in
        rw (value_negated gms, value_negated gm, value_negated gds, value_negated gmbs)
        (req (indicator (same_node n gate) ∷ indicator (same_node n drain) ∷ indicator (same_node n source) ∷ indicator (same_node n bulk) ∷ value gm ∷ value gds ∷ value gms ∷ value gmbs ∷ [])
        (G ⊠ m ⊞ (D ⊠ o ⊞ (S ⊠ (⊝ s) ⊞ (B ⊠ b ⊞ (G ⊠ (⊝ m) ⊞ (D ⊠ (⊝ o) ⊞ (S ⊠ s ⊞ (B ⊠ (⊝ b) ⊞ ## 0)))))))) (## 0) tt tt);
  }

-- a conductance's four, in the order of the 24 values and in that of `stamp_g_pair`
module _ (a b : NodeId) (g : Float) where
  abbrev pub between_cells : List Contribution
  between_cells = paired (pair_between a b []) (values_between g [])

  pub between_cancels : Cancels between_cells
  unfolding weighted in_column paired
  between_cancels = record {
    weights = λ n.
        let A = qv 0 in let B = qv 1 in let G = qv 2 in
        rw (value_negated g)
        (req (indicator (same_node n a) ∷ indicator (same_node n b) ∷ value g ∷ [])
        (A ⊠ G ⊞ (B ⊠ (⊝ G) ⊞ (A ⊠ (⊝ G) ⊞ (B ⊠ G ⊞ ## 0)))) (## 0) tt tt);
  }

  pub conductance_cancels : Cancels (conductance_pair a b g)
  unfolding weighted in_column conductance_pair
  conductance_cancels = record {
    weights = λ n.
        let A = qv 0 in let B = qv 1 in let G = qv 2 in
        rw (value_negated g)
        (req (indicator (same_node n a) ∷ indicator (same_node n b) ∷ value g ∷ [])
        (A ⊠ G ⊞ (B ⊠ (⊝ G) ⊞ (B ⊠ G ⊞ (A ⊠ (⊝ G) ⊞ ## 0)))) (## 0) tt tt);
  }

pub branch_cancels : (a b : NodeId) (br : ChargeBranch) → Cancels (branch_cells a b br)
unfolding branch_cells
branch_cancels a b br = go br.conducts
  where
    go : (loaded : Bool) → Cancels (cond loaded (conductance_pair a b br.conductance) [])
    go true = conductance_cancels a b br.conductance
    go false = cancels_none

-- ---- the right-hand side
pub balance_none : SourcesBalance []
unfolding sum currents
balance_none = record { total = ≈_refl (nat 0) }

infixl 65 ◌behind◌
pub ◌behind◌ : {ss ts : List Source} → SourcesBalance ss → SourcesBalance ts → SourcesBalance (ss ++ ts)
◌behind◌ {ss} {ts} s t = record { total = zeros (currents_append ss ts) s.total t.total }

pub offsets_balance : (t : Terminals) (o : Residual) → SourcesBalance (offset_sources t o)
unfolding sum currents offset_sources
offsets_balance t o =
    let j = qv 0 in let s = qv 1 in let d = qv 2 in
    record {
      total =
          rw (value_negated o.jeq, value_negated o.ibs_eq, value_negated o.ibd_eq)
          (req (value o.jeq ∷ value o.ibs_eq ∷ value o.ibd_eq ∷ [])
          (⊝ j ⊞ (j ⊞ (⊝ s ⊞ (s ⊞ (⊝ d ⊞ (d ⊞ ## 0)))))) (## 0) tt tt);
    }

pub current_balances : (a b : NodeId) (i : Float) → SourcesBalance (current_pair a b i)
unfolding sum currents current_pair
current_balances a b i = record { total = rw (value_negated i) (req (value i ∷ []) (qv 0 ⊞ (⊝ (qv 0) ⊞ ## 0)) (## 0) tt tt) }

pub history_balances : (a b : NodeId) (br : ChargeBranch) → SourcesBalance (branch_history a b br)
unfolding branch_history
history_balances a b br = go br.remembers
  where
    go : (loaded : Bool) → SourcesBalance (cond loaded (current_pair a b br.history) [])
    go true = current_balances a b br.history
    go false = balance_none
