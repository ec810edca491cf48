-- The same fraction in larger numbers: bounds on the sums at a / b are bounds at any fraction that is not above, or not below, a / b. Assumes nothing.
use mathlib.Core.Path.{◌≡◌, sym, ap, ◌∙◌, subst}
use Prim.Native.Nat.{ℕ, zero, suc, ◌+◌, ◌*◌, ◌^◌, ◌≤◌, ◌<◌}
use native.Mathlib.Omega.{arith}
use native.Mathlib.Nat.{le_trans, le_of_eq, mul_assoc, mul_comm, mul_left_comm, mul-add, mul-le-mul_left, mul-pos, pow-zero, pow-succ', le_of_mul-le-mul_left}
use Rattle.series.specs.Series.{top, bot}
use Rattle.series.proofs.Bounds.{Up, Lo, up_mono, lo_mono}
use Rattle.series.proofs.Tail.{pow_product}

pub top_scale : (N a b s : ℕ) → top N (a * s) (b * s) ≡ s ^ N * top N a b
unfolding top
top_scale zero a b s = sym (ap (λ (z : ℕ). z * 1) (pow-zero s))
top_scale (suc N) a b s =
    (λ i. suc N * (b * s) * top_scale N a b s i + pow_product a s (suc N) i)
    ∙ (λ i. regroup (suc N) b s (s ^ N) (top N a b) i + mul_comm (a ^ suc N) (s ^ suc N) i)
    ∙ ap (λ (z : ℕ). z * (suc N * b * top N a b) + s ^ suc N * a ^ suc N) (sym (pow-succ' s N))
    ∙ sym (mul-add (s ^ suc N) (suc N * b * top N a b) (a ^ suc N))
  where
    regroup : (n b s p t : ℕ) → n * (b * s) * (p * t) ≡ s * p * (n * b * t)
    regroup n b s p t = omega arith

pub bot_scale : (N b s : ℕ) → bot N (b * s) ≡ s ^ N * bot N b
unfolding bot
bot_scale zero b s = sym (ap (λ (z : ℕ). z * 1) (pow-zero s))
bot_scale (suc N) b s =
    ap (λ (z : ℕ). suc N * (b * s) * z) (bot_scale N b s) ∙ regroup (suc N) b s (s ^ N) (bot N b)
    ∙ ap (λ (z : ℕ). z * (suc N * b * bot N b)) (sym (pow-succ' s N))
  where
    regroup : (n b s p t : ℕ) → n * (b * s) * (p * t) ≡ s * p * (n * b * t)
    regroup n b s p t = omega arith

pub power_pos : (s N : ℕ) → 0 < s → 0 < s ^ N
power_pos s zero h = le_of_eq (sym (pow-zero s))
power_pos s (suc N) h = subst (λ (z : ℕ). 0 < z) (sym (pow-succ' s N)) (mul-pos h (power_pos s N h))

up_larger : {a b u v : ℕ} (s : ℕ) → Up a b u v → Up (a * s) (b * s) u v
up_larger {a} {b} {u} {v} s p = record {
  bound = λ N.
      le_trans (le_of_eq (ap (λ (z : ℕ). z * v) (top_scale N a b s) ∙ mul_assoc (s ^ N) (top N a b) v))
      (le_trans (mul-le-mul_left (s ^ N) (p.bound N)) (le_of_eq (mul_left_comm (s ^ N) u (bot N b) ∙ ap (λ (z : ℕ). u * z) (sym (bot_scale N b s)))));
}

up_smaller : {a b u v : ℕ} (s : ℕ) → 0 < s → Up (a * s) (b * s) u v → Up a b u v
up_smaller {a} {b} {u} {v} s h p = record {
  bound = λ N.
      le_of_mul-le-mul_left {k = s ^ N}
      (le_trans (le_of_eq (sym (ap (λ (z : ℕ). z * v) (top_scale N a b s) ∙ mul_assoc (s ^ N) (top N a b) v)))
      (le_trans (p.bound N) (le_of_eq (sym (mul_left_comm (s ^ N) u (bot N b) ∙ ap (λ (z : ℕ). u * z) (sym (bot_scale N b s)))))))
      (power_pos s N h);
}

lo_larger : {a b u v : ℕ} (s : ℕ) → Lo a b u v → Lo (a * s) (b * s) u v
lo_larger {a} {b} {u} {v} s p = record {
  terms = p.terms;
  bound =
      le_trans (le_of_eq (ap (λ (z : ℕ). u * z) (bot_scale p.terms b s) ∙ mul_left_comm u (s ^ p.terms) (bot p.terms b)))
      (le_trans (mul-le-mul_left (s ^ p.terms) p.bound) (le_of_eq (sym (ap (λ (z : ℕ). z * v) (top_scale p.terms a b s) ∙ mul_assoc (s ^ p.terms) (top p.terms a b) v))));
}

lo_smaller : {a b u v : ℕ} (s : ℕ) → 0 < s → Lo (a * s) (b * s) u v → Lo a b u v
lo_smaller {a} {b} {u} {v} s h p = record {
  terms = p.terms;
  bound =
      le_of_mul-le-mul_left {k = s ^ p.terms}
      (le_trans (le_of_eq (sym (ap (λ (z : ℕ). u * z) (bot_scale p.terms b s) ∙ mul_left_comm u (s ^ p.terms) (bot p.terms b))))
      (le_trans p.bound (le_of_eq (ap (λ (z : ℕ). z * v) (top_scale p.terms a b s) ∙ mul_assoc (s ^ p.terms) (top p.terms a b) v))))
      (power_pos s p.terms h);
}

-- a / b ≤ c / d
pub up_at : {c d u v : ℕ} (a b : ℕ) → 0 < d → a * d ≤ c * b → Up c d u v → Up a b u v
up_at {c} {d} {u} {v} a b h l p = up_smaller d h (up_mono l (subst (λ (z : ℕ). Up (c * b) z u v) (mul_comm d b) (up_larger b p)))

pub lo_at : {c d u v : ℕ} (a b : ℕ) → 0 < d → c * b ≤ a * d → Lo c d u v → Lo a b u v
lo_at {c} {d} {u} {v} a b h l p = lo_smaller d h (lo_mono l (subst (λ (z : ℕ). Lo (c * b) z u v) (mul_comm d b) (lo_larger b p)))
