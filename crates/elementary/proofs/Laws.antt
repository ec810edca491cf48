-- The laws of the elementary functions in one place, for the layers above. Each is proved in the crate that holds its function.
-- sqrt: correctly rounded; the special cases; order, sizes and how close its square is
pub use Rattle.square_root.proofs.CorrectlyRounded.{correctly_rounded}
pub use Rattle.square_root.proofs.SpecialCases.{sqrt_of_zero, sqrt_of_infinity, sqrt_of_nan, sqrt_below_zero}
pub use Rattle.square_root.proofs.RootBounds.{root_non_negative, root_fits, root_positive, root_close, root_≤, root_≥, root_at_most, root_at_least, root_mono}
-- exp: within 2^-45 of E; the special cases; sizes
pub use Rattle.exponential.proofs.Accuracy.{exp_close, exp_special_cases}
pub use Rattle.exponential.proofs.Sizes.{exp_fits, exp_nonneg, exp_at_least_one, exp_at_most_2^1011, exp_at_least_2^_1011, exp_small_finite, exp_at_most_2^186, exp_at_least_2^_186}
-- ln and ln_1p: the number between E at the logarithm less and plus 2^-42; the special cases; sizes
pub use Rattle.logarithm.proofs.Accuracy.{ln_accurate, ln_1p_accurate}
pub use Rattle.logarithm.proofs.SpecialCases.{special_cases}
pub use Rattle.logarithm.proofs.Sizes.{ln_at_most, ln_at_least, ln_1p_at_least, ln_1p_at_most, ln_1p_at_most_k}
-- pow: between E at the enclosing fractions times the exponent; the special cases; sizes
pub use Rattle.power.proofs.Accuracy.{pow_between}
pub use Rattle.power.proofs.SpecialCases.{pow_special_cases}
pub use Rattle.power.proofs.Sizes.{pow_sized}
