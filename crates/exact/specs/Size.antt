-- How large a float is: against powers of two, by its sign, and between two fractions. Each says that the float is finite, too.
use Rattle.std.specs.Prelude.{ℕ, ◌^◌, Bool, false, ◌&&◌, cond, T, leb, ℤ, pos, neg_ℤ, Float}
use Rattle.std.specs.Int.Signed.{le_z}
use Rattle.std.specs.Float.{binary64}
use Rattle.std.specs.Float.Ieee.{low, emax, up, down}
use Rattle.std.specs.Float.Ieee.Fits.{down_pos}
use Rattle.std.specs.Float.Ieee.Scale.{finite}
use Rattle.exact.specs.Fraction.{ℚ, nat, absq, ◌≤q◌, ◌<q◌}
use Rattle.exact.specs.FloatValue.{signed, value}

-- ---- exponents: `pos 10`, and `minus 30` for -30
abbrev pub minus : ℕ → ℤ
minus n = neg_ℤ (pos n)

abbrev pub larger : ℤ → ℤ → ℤ
larger a b = cond (le_z a b) b a

-- 2 ^ e
abbrev pub exp2 : ℤ → ℚ
exp2 e = signed false (up e) (down e) (down_pos e)

-- 2 ^ e is a value of binary64: e is from -1074 to 1023
abbrev pub held : ℤ → Bool
held e = leb (down e) (2 ^ low binary64) && leb (up e) (2 ^ emax binary64)

-- ---- |x| ≤ 2 ^ a, and 2 ^ b ≤ |x|
pub record AtMost (x : Float) (a : ℤ) : Type 0 where
  pub fin : T (finite x)
  pub size : absq (value x) ≤q exp2 a

pub record AtLeast (x : Float) (b : ℤ) : Type 0 where
  pub fin : T (finite x)
  pub size : exp2 b ≤q absq (value x)

-- ---- signs
pub record NonNegative (x : Float) : Type 0 where
  pub fin : T (finite x)
  pub sign : nat 0 ≤q value x

pub record Positive (x : Float) : Type 0 where
  pub fin : T (finite x)
  pub sign : nat 0 <q value x

-- ---- lo ≤ x ≤ hi
pub record Range (x : Float) (lo hi : ℚ) : Type 0 where
  pub fin : T (finite x)
  pub above : lo ≤q value x
  pub below : value x ≤q hi
