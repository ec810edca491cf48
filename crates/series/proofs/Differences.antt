-- Bounds on the sums at a difference of arguments, and e^d at least 1 + d. Assumes nothing.
use mathlib.Core.Path.{◌≡◌, sym, ap, ◌∙◌}
use Prim.Native.Nat.{ℕ, ◌+◌, ◌*◌, ◌≤◌, ◌<◌}
use native.Mathlib.Omega.{arith}
use native.Mathlib.Nat.{le_of_eq, mul-le-mul_left, one-mul, mul-one, mul-pos, le_of_mul-le-mul_right, pow-succ', pow-zero}
use Rattle.series.specs.Series.{top, bot}
use Rattle.series.proofs.Product.{sum_le_product, product_le_sum, bot_pos}
use Rattle.series.proofs.Bounds.{Up, Lo, chain}

-- e^x ≤ e^(x + y) / e^y
pub up_sub : {a c b u v u' v' : ℕ} → 0 < b → Up (a + c) b u v → Lo c b u' v' → Up a b (u * v') (v * u')
up_sub {a} {c} {b} {u} {v} {u'} {v'} h p q = record {
  bound = λ N.
      let m = q.terms in
      le_of_mul-le-mul_right {k = bot m b * bot (N + m) b}
      (omega (arith, mul-le-mul_left (top N a b * v * bot (N + m) b) q.bound, mul-le-mul_left (v * v') (product_le_sum a c b N m h), mul-le-mul_left (v' * (bot N b * bot m b)) (p.bound (N + m))))
      (mul-pos (bot_pos m b h) (bot_pos (N + m) b h));
}

-- e^(x + y) / e^y ≤ e^x
pub lo_sub : {a c b u v u' v' : ℕ} → 0 < b → Lo (a + c) b u v → Up c b u' v' → Lo a b (u * v') (v * u')
lo_sub {a} {c} {b} {u} {v} {u'} {v'} h p q =
    let n = p.terms in
    record {
      terms = n;
      bound =
          le_of_mul-le-mul_right {k = bot n b}
          (omega (arith, mul-le-mul_left (v' * bot n b) p.bound, mul-le-mul_left (v * v') (sum_le_product a c b n h), mul-le-mul_left (v * top n a b) (q.bound n)))
          (bot_pos n b h);
    }

pub one_two : (c b : ℕ) → (b + c) * bot 1 b ≡ top 1 c b * b
unfolding top bot
one_two c b = (λ i. (b + c) * (mul-one (1 * b) ∙ one-mul b) i) ∙ sym (λ i. ((mul-one (1 * b) ∙ one-mul b) i + (pow-succ' c 0 ∙ ap (λ (z : ℕ). c * z) (pow-zero c) ∙ mul-one c) i) * b)

-- 1 + d ≤ e^d
pub one_plus : (c b : ℕ) → Lo c b (b + c) b
one_plus c b = record { terms = 1; bound = le_of_eq (one_two c b) }

-- what some sum reaches is at most what bounds every sum
pub lo_le_up : {a b u v u' v' : ℕ} → 0 < b → Lo a b u v → Up a b u' v' → u * v' ≤ u' * v
lo_le_up {a} {b} {u} {v} {u'} {v'} h p q = chain u (top p.terms a b) u' v (bot p.terms b) v' (bot_pos p.terms b h) p.bound (q.bound p.terms)
