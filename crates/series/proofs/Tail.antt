-- From the term 3999 on, and at arguments up to 1000, the partial sums differ by less than one part in 2 ^ 1000. Assumes nothing.
use mathlib.Core.Path.{◌≡◌, sym, ap, ◌∙◌, subst}
use Prim.Native.Nat.{ℕ, zero, suc, ◌+◌, ◌*◌, ◌^◌, ◌≤◌, ◌<◌, suc-le-suc}
use native.Mathlib.Nat.{le_refl, le_trans, le_of_eq, le_dest, mul_assoc, mul_left_comm, mul-mul-mul_comm, mul-le-mul, mul-le-mul_left, mul-le-mul_right, le-add_right, suc-add, zero-add, one-mul, mul-one, mul-pos, zero-lt-suc, pow-zero, pow-succ', pow-le-pow_left, le_of_mul-le-mul_right}
use native.Mathlib.Omega.{arith}
use lib.Dec.{T, leb, leb→le, lit≤}
use Rattle.series.specs.Series.{top, bot}
use Rattle.series.proofs.Product.{bot_pos}
use Rattle.series.proofs.Bounds.{Lo, doubled, up_doubled, chain}

pub bot_split : (n b : ℕ) → bot n b ≡ bot n 1 * b ^ n
unfolding bot
bot_split zero b = sym (one-mul (b ^ zero) ∙ pow-zero b)
bot_split (suc n) b =
    ap (λ (x : ℕ). suc n * b * x) (bot_split n b) ∙ mul-mul-mul_comm (suc n) b (bot n 1) (b ^ n)
    ∙ (λ i. ap (λ (x : ℕ). x * bot n 1) (sym (mul-one (suc n))) i * sym (pow-succ' b n) i)

pub pow_product : (x y n : ℕ) → (x * y) ^ n ≡ x ^ n * y ^ n
pow_product x y zero = pow-zero (x * y) ∙ sym ((λ i. pow-zero x i * pow-zero y i) ∙ one-mul 1)
pow_product x y (suc n) =
    pow-succ' (x * y) n ∙ ap (λ (z : ℕ). x * y * z) (pow_product x y n) ∙ mul-mul-mul_comm x y (x ^ n) (y ^ n) ∙ sym (λ i. pow-succ' x n i * pow-succ' y n i)

-- 2 ^ 1001 * 1000 ^ 4000 ≤ 4000!, which antt computes
small : T (leb (2 ^ 1001 * 1000 ^ 4000) (bot 4000 1))
unfolding bot
small = tt

-- the term 4000 and each later one is below 2 ^ -1001
term_small : (a b d : ℕ) → a ≤ 1000 * b → 2 ^ 1001 * a ^ (d + 4000) ≤ bot (d + 4000) b
unfolding bot
term_small a b zero h =
    subst (λ (m : ℕ). 2 ^ 1001 * a ^ m ≤ bot m b) (sym (zero-add 4000))
    (le_trans (mul-le-mul_left (2 ^ 1001) (pow-le-pow_left h 4000))
    (le_trans (le_of_eq (ap (λ (x : ℕ). 2 ^ 1001 * x) (pow_product 1000 b 4000) ∙ sym (mul_assoc (2 ^ 1001) (1000 ^ 4000) (b ^ 4000))))
    (le_trans (mul-le-mul_right (b ^ 4000) (leb→le (2 ^ 1001 * 1000 ^ 4000) (bot 4000 1) small)) (le_of_eq (sym (bot_split 4000 b))))))
term_small a b (suc d) h =
    subst (λ (m : ℕ). 2 ^ 1001 * a ^ m ≤ bot m b) (sym (suc-add d 4000))
    (le_trans (le_of_eq (ap (λ (x : ℕ). 2 ^ 1001 * x) (pow-succ' a (d + 4000)) ∙ mul_left_comm (2 ^ 1001) a (a ^ (d + 4000))))
    (mul-le-mul (le_trans h (mul-le-mul_right b (most d))) (term_small a b d h)))
  where
    most : (d : ℕ) → 1000 ≤ suc (d + 4000)
    most d = omega arith

-- the first term is 1
pub one_le : (N a b : ℕ) → bot N b ≤ top N a b
unfolding top bot
one_le zero a b = le_refl 1
one_le (suc N) a b = le_trans (mul-le-mul_left (suc N * b) (one_le N a b)) (le-add_right (suc N * b * top N a b) (a ^ suc N))

close : (P s t x B u v : ℕ) → 0 < s → u * (s * B) ≤ (s * t + x + x) * v → 2 * P * x ≤ s * B → B ≤ t → u * P * B ≤ t * (v * (P + 1))
close P s t x B u v h f q o = le_of_mul-le-mul_right {k = s} (omega (arith, mul-le-mul_left P f, mul-le-mul_right v (le_trans q (mul-le-mul_left s o)))) h

unfold_bound : (N a b u v : ℕ) → u * bot (suc N) b ≤ doubled N a b * v → u * (suc N * b * bot N b) ≤ (suc N * b * top N a b + a ^ suc N + a ^ suc N) * v
unfolding doubled top bot
unfold_bound N a b u v f = f

unfold_small : (N a b : ℕ) → 2 ^ 1001 * a ^ suc N ≤ bot (suc N) b → 2 * 2 ^ 1000 * a ^ suc N ≤ suc N * b * bot N b
unfolding bot
unfold_small N a b q = q

shuffle : (d N : ℕ) → 3999 + d ≡ N → d + 4000 ≡ suc N
shuffle d N e = omega arith

-- what some partial sum reaches, each from the term 3999 on reaches but for a part in 2 ^ 1000
pub settle : {a b u v : ℕ} → 0 < b → a ≤ 1000 * b → Lo a b u v → (N : ℕ) → 3999 ≤ N → u * 2 ^ 1000 * bot N b ≤ top N a b * (v * (2 ^ 1000 + 1))
settle {a} {b} {u} {v} h l p N g =
    let n = p.terms in
    let w : 2 * a ≤ suc (suc N) * b = le_trans (mul-le-mul_left 2 l) (le_trans (le_of_eq (sym (mul_assoc 2 1000 b))) (mul-le-mul_right b (le_trans (lit≤ tt) (suc-le-suc (suc-le-suc g))))) in
    let first : u * bot (suc N) b ≤ doubled N a b * v = chain u (top n a b) (doubled N a b) v (bot n b) (bot (suc N) b) (bot_pos n b h) p.bound ((up_doubled N a b h w).bound n) in
    let d = le_dest g in
    let M : d.0 + 4000 ≡ suc N = shuffle d.0 N d.1 in
    let q : 2 ^ 1001 * a ^ suc N ≤ bot (suc N) b = subst (λ (m : ℕ). 2 ^ 1001 * a ^ m ≤ bot m b) M (term_small a b d.0 l) in
    close (2 ^ 1000) (suc N * b) (top N a b) (a ^ suc N) (bot N b) u v (mul-pos (zero-lt-suc N) h) (unfold_bound N a b u v first) (unfold_small N a b q) (one_le N a b)
