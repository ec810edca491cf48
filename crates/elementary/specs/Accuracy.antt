-- What the functions are close to: the sums E of the exponential series, and the statements about a power. Each is the definition of the crate that holds it.
unfoldable pub use Rattle.series.specs.Series.{E, partial_sum, term, top, bot}
pub use Rattle.series.specs.Series.{Enough}
pub use Rattle.logarithm.specs.Logarithm.{least_normal}
pub use Rattle.power.specs.Accuracy.{AtLeast, least_relative, least_absolute, AtMost, most_relative, most_absolute, IsPower, Between, a_number, infinite}
