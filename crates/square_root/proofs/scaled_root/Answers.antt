use Rattle.square_root.specs.SquareRoot.{nearest_root}
use Rattle.square_root.proofs.RootDigits.{words, upper_word}
use Rattle.square_root.proofs.scaled_root.Goals as goal
-- `square_root::scaled_root` meets its contract.
use Rattle.std.proofs.Common.{ℕ, ◌+◌, ◌*◌, ◌/◌, ◌^◌, ◌<◌, ◌≤◌, ap, ◌∙◌, arith}

short : (x : ℕ) → x < 2 ^ 64 → x / 2 ^ 9 < 2 ^ 58
short x h = omega arith

pub nearest_root-requires : goal.nearest_root-requires
nearest_root-requires c =
    let u = upper_word c.args.m c.requires.0 c.ranges.m.fits in
    (short _ c.wrapping_sub_u64-s.type_inv, u.0, u.1)

pub returns : goal.returns
returns c =
    let q = c.nearest_root.ensures in
    (ap (λ (n : ℕ). c.args.e * 2 ^ 52 + n) (q.0 ∙ ap nearest_root (words c.args.m)), below _ _ c.requires.1 q.1)
  where
    below : (e q : ℕ) → e ≤ 2000 → q ≤ 2 ^ 53 → e * 2 ^ 52 + q < 2047 * 2 ^ 52
    below e q h k = omega arith
