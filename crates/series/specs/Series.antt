-- E, the exponential as document 01 takes it: a partial sum of the series 1 + x + x^2/2! + x^3/3! + .. at an exact fraction.
use Rattle.std.specs.Prelude.{ℕ, zero, suc, ◌+◌, ◌*◌, ◌^◌, ◌≤◌, cond, leb}
use Rattle.exact.specs.Fraction.{ℚ, ◌//◌, nat, ◌+q◌, negq, ◌*q◌, ◌/q◌}

-- x^n / n!
unfoldable pub term : ℕ → ℚ → ℚ
term zero x = nat 1
term (suc n) x = term n x *q x *q (1 // suc n)

-- 1 + x + .. + x^N / N!, which has N + 1 terms
unfoldable pub partial_sum : ℕ → ℚ → ℚ
unfolding term
partial_sum zero x = term zero x
partial_sum (suc N) x = partial_sum N x +q term (suc N) x

-- the partial sum with N + 1 terms; a negative argument takes the reciprocal of the sum at its size
unfoldable pub E : ℕ → ℚ → ℚ
unfolding partial_sum
E N x = cond (leb x.q x.p) (partial_sum N x) (nat 1 /q partial_sum N (negq x))

-- the sum to the term N has 4,000 terms or more
abbrev pub Enough : ℕ → Type 0
Enough N = 4000 ≤ suc N

-- ---- the same sums over whole numbers: at a / b, with N + 1 terms, `top N a b / bot N b`
-- (1 + a/b + (a/b)^2/2! + .. + (a/b)^N/N!) * N! * b^N
unfoldable pub top : ℕ → ℕ → ℕ → ℕ
top zero a b = 1
top (suc N) a b = suc N * b * top N a b + a ^ suc N

-- N! * b^N
unfoldable pub bot : ℕ → ℕ → ℕ
bot zero b = 1
bot (suc N) b = suc N * b * bot N b
