-- A device's contributions, block by block, whatever the device and the kind of load.
use Rattle.exact.proofs.FractionLaws.{≈_trans}
use Rattle.device.specs.declared.Mosfet1.{Mosfet1}
use Rattle.stamps.specs.Stamps.{jac_pairs_of, series_of, gms_of, jac_values_of, residual_of}
use Rattle.assembly.specs.Assembly.{paired, matrix_contributions, source_contributions}
use Rattle.loading.specs.declared.LoadKind.{LoadKind}
use Rattle.loading.specs.Loading.{branches_of, jacobian_contributions, rhs_contributions}
use Rattle.column_sums.specs.ColumnSums.{ColumnsCancel, SourcesCancel}
use Rattle.column_sums.proofs.Weights.{column_weighted}
use Rattle.column_sums.proofs.Blocks.{Cancels, SourcesBalance, ◌then◌, channel_cancels, between_cancels, branch_cancels, ◌behind◌, offsets_balance, history_balances}

module _ (d : Mosfet1) where
  jacobian_cancels : Cancels (paired (jac_pairs_of d.terminals) (jac_values_of d))
  unfolding paired jac_pairs_of jac_values_of
  jacobian_cancels =
      let t = d.terminals in
      let p = d.point in
      channel_cancels t.drain t.gate t.source t.bulk p.gm p.gds (gms_of p) p.gmbs
      then between_cancels t.drain_ext t.drain (series_of d.geometry.rd)
      then between_cancels t.source_ext t.source (series_of d.geometry.rs)
      then between_cancels t.bulk t.source p.gbs
      then between_cancels t.bulk t.drain p.gbd

  module _ (k : LoadKind) where
    contributions_cancel : Cancels (jacobian_contributions d k)
    unfolding jacobian_contributions matrix_contributions
    contributions_cancel =
        let t = d.terminals in
        let b = branches_of d k in
        jacobian_cancels
        then branch_cancels t.gate t.source b.gs
        then branch_cancels t.gate t.drain b.gd
        then branch_cancels t.gate t.bulk b.gb
        then branch_cancels t.bulk t.source b.bs
        then branch_cancels t.bulk t.drain b.bd

    sources_balance : SourcesBalance (rhs_contributions d k)
    unfolding rhs_contributions source_contributions
    sources_balance =
        let t = d.terminals in
        let b = branches_of d k in
        offsets_balance t (residual_of d)
        behind history_balances t.gate t.source b.gs
        behind history_balances t.gate t.drain b.gd
        behind history_balances t.gate t.bulk b.gb
        behind history_balances t.bulk t.source b.bs
        behind history_balances t.bulk t.drain b.bd

    -- "the contributions to each column .. sum to exactly zero"
    pub columns_cancel : ColumnsCancel d k
    columns_cancel = record { column_of = λ n. record { exactly = λ _. ≈_trans (column_weighted n (jacobian_contributions d k)) (contributions_cancel.weights n) } }

    pub sources_cancel : SourcesCancel d k
    sources_cancel = record { side = record { exactly = λ _. sources_balance.total } }
