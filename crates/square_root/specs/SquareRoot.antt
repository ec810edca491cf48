-- The square root of a binary64 value, rounded once. That it is the nearest value is a law (`CorrectlyRounded`).
use Rattle.std.specs.Prelude.{ℕ, zero, suc, ◌+◌, ◌-◌, ◌*◌, ◌/◌, ◌^◌, true, false, cond, nat_le, nat_lt, Float}
use Rattle.std.specs.Float.{nan, inf, fin, binary64}
use Rattle.std.specs.Float.Ieee.{up, down, size, units}

-- the whole root of an n below 4 ^ f, one binary digit after another
unfoldable pub digit_root : ℕ → ℕ → ℕ
digit_root zero n = 0
digit_root (suc f) n =
    let s = 2 * digit_root f (n / 4) in
    cond (nat_le ((s + 1) * (s + 1)) n) (s + 1) s

-- the whole root: the largest s with s * s ≤ n
unfoldable pub isqrt : ℕ → ℕ
unfolding digit_root size
isqrt n = digit_root (size n) n

-- the whole number nearest to the root of n, which is never half way between two
unfoldable pub nearest_root : ℕ → ℕ
unfolding isqrt
nearest_root n = let s = isqrt n in cond (nat_lt (s * (s + 1)) n) (s + 1) s

-- The root of A / 2 ^ 2148. It is the root of A in units of 2 ^ -1074, the smallest value. Of that whole number's digits 53 are kept and k are dropped.
unfoldable pub root_of : ℕ → Float
unfolding nearest_root units size
root_of A =
    let k = size (isqrt A) - 53 in
    units binary64 false (nearest_root (A / 4 ^ k)) k

-- the root of x: a zero and the positive infinity are their own, a number below zero has none
unfoldable pub sqrt_of : Float → Float
unfolding root_of
sqrt_of nan = nan
sqrt_of (inf false) = inf false
sqrt_of (inf true) = nan
sqrt_of (fin s zero e) = fin s zero e
sqrt_of (fin true (suc m) e) = nan
sqrt_of (fin false (suc m) e) = root_of (suc m * up e * 2 ^ 2148 / down e)
