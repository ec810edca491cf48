-- The laws of the sums E, for the layers above. Each is proved in `series`.
pub use Rattle.series.proofs.Order.{E_cong, E_mono, E_nonneg, E_reciprocal, E_terms_above}
pub use Rattle.series.proofs.AtFractions.{E_above}
pub use Rattle.series.proofs.ProductLaws.{tails}
pub use Rattle.series.proofs.Shifts.{E_shift}
pub use Rattle.series.proofs.SmallArguments.{E_one_plus}
pub use Rattle.series.proofs.Sizes.{E_at_most, E_at_least, E_large}
-- the whole numbers of which a sum is made, and quotients of such
pub use Rattle.series.proofs.Product.{bot_pos}
unfoldable pub use Rattle.series.proofs.Bounds.{doubled}
pub use Rattle.series.proofs.Bounds.{up_doubled}
pub use Rattle.series.proofs.Quotients.{frac_≤, cross_≤, frac_nat}
