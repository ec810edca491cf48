-- `minus_one t` for t below 2^56: in units of 2^-63 it is at most e^(t / 2^64) - 1 to the term 5, and 5500 units more are at least that. Assumes nothing.
use Rattle.std.proofs.Common.{◌≡◌, ℕ, ◌+◌, ◌*◌, ◌/◌, ◌^◌, ◌<◌, ◌≤◌, [], ◌∷◌, sym, refl, ap, subst, le_trans, le_of_lt, mul-le-mul_right, mul-le-mul_left, lt_of_not-le, div-mul-le_self, arith, lit<, lit≤}
use native.Mathlib.Nat.{le_dest, lt-div-mul-add, pow-le-pow_left}
use native.Mathlib.Decide.{dec_le}
use Rattle.exact.proofs.NatProver.{Expr, ν, #, ◌⊹◌, ◌⋆◌, ◌↑◌, poly_le, poly_by, ◌≼◌by◌}
use Rattle.series.specs.Series.{top, bot}
use Rattle.series.proofs.Product.{bot_pos}
use Rattle.series.proofs.Bounds.{Up, Lo, doubled, up_doubled, up_weaken}
use Rattle.exponential.specs.Mantissa.{hi, cubic, quartic, minus_one}
use Rattle.exponential.proofs.Steps.{step_lt, sum_lt}

-- 0 ≤ (t - 7 g)^2
square : (t g : ℕ) → 14 * g * t ≤ t * t + 49 * (g * g)
square t g = either (dec_le (7 * g) t)
  where
    above : (g k : ℕ) → 14 * g * (7 * g + k) ≤ (7 * g + k) * (7 * g + k) + 49 * (g * g)
    above g k = omega arith

    below : (t k g : ℕ) → 7 * g ≡ t + k → 14 * g * t ≤ t * t + 49 * (g * g)
    below t k g e = omega (arith, ap (λ (z : ℕ). z * z) e, ap (λ (z : ℕ). z * t) e)

    either : Dec (7 * g ≤ t) → 14 * g * t ≤ t * t + 49 * (g * g)
    either (yes h) = let (k, e) = le_dest h in subst (λ (z : ℕ). 14 * g * z ≤ z * z + 49 * (g * g)) e (above g k)
    either (no f) = let (k, e) = le_dest (le_of_lt (lt_of_not-le f)) in below t k g (sym e)

-- `top 5` and `bot 5`
abbrev top₅ : Expr → Expr → Expr
top₅ t b = # 5 ⋆ b ⋆ (# 4 ⋆ b ⋆ (# 3 ⋆ b ⋆ (# 2 ⋆ b ⋆ (# 1 ⋆ b ⋆ # 1 ⊹ t ↑ 1) ⊹ t ↑ 2) ⊹ t ↑ 3) ⊹ t ↑ 4) ⊹ t ↑ 5

abbrev bot₅ : Expr → Expr
bot₅ b = # 5 ⋆ b ⋆ (# 4 ⋆ b ⋆ (# 3 ⋆ b ⋆ (# 2 ⋆ b ⋆ (# 1 ⋆ b ⋆ # 1))))

-- ---- the steps of `minus_one`, from the innermost: c is `cubic`, d `quartic`, d4, d3, s and d2 the whole parts of the products, f the half of t.
-- With g = 2^53: 2048 g is 2^64, 1024 g is 2^63, 512 g is 2^62, and 7 g is 7/8 of 1/256.
-- The series to the term 5 is the polynomial and t^3 (t - 7 g)^2
series_above : (t g c d d4 d3 s d2 f : ℕ) → d4 * (2048 * g) ≤ t * d → d3 * (2048 * g) ≤ t * (c + d4) → s * (2048 * g) ≤ t * t → d2 * (2048 * g) ≤ s * (512 * g + d3) → 2 * f ≤ t
    → 120 * c * (2048 * g * (2048 * g)) + 49 * (g * g) * (1024 * g) ≤ 20 * (2048 * g * (2048 * g)) * (1024 * g) → 120 * d * (2048 * g) ≤ (5 * (2048 * g) + 14 * g) * (1024 * g) → 14 * g * t ≤ t * t + 49 * (g * g)
    → (1024 * g + (f + d2)) * bot 5 (2048 * g) ≤ top 5 t (2048 * g) * (1024 * g)
unfolding top bot
series_above t g c d d4 d3 s d2 f =
    let T = ν 0 in let G = ν 1 in let C = ν 2 in let D = ν 3 in let D4 = ν 4 in let D3 = ν 5 in let S = ν 6 in let D2 = ν 7 in let F = ν 8 in
    let B = # 2048 ⋆ G in let H = # 1024 ⋆ G in let Q = # 512 ⋆ G ⊹ D3 in let N = # 120 ⋆ B in
    poly_by (t ∷ g ∷ c ∷ d ∷ d4 ∷ d3 ∷ s ∷ d2 ∷ f ∷ [])
    ((D4 ⋆ B ≼ T ⋆ D by N ⋆ T ↑ 3) ∷ (D3 ⋆ B ≼ T ⋆ (C ⊹ D4) by N ⋆ B ⋆ T ↑ 2) ∷ (S ⋆ B ≼ T ⋆ T by N ⋆ B ↑ 2 ⋆ Q) ∷ (D2 ⋆ B ≼ S ⋆ Q by N ⋆ B ↑ 3) ∷ (# 2 ⋆ F ≼ T by # 60 ⋆ B ↑ 5)
    ∷ (# 120 ⋆ C ⋆ (B ⋆ B) ⊹ # 49 ⋆ (G ⋆ G) ⋆ H ≼ # 20 ⋆ (B ⋆ B) ⋆ H by T ↑ 3) ∷ (# 120 ⋆ D ⋆ B ≼ (# 5 ⋆ B ⊹ # 14 ⋆ G) ⋆ H by T ↑ 4) ∷ (# 14 ⋆ G ⋆ T ≼ T ⋆ T ⊹ # 49 ⋆ (G ⋆ G) by H ⋆ T ↑ 3) ∷ [])
    (# 1) ((H ⊹ (F ⊹ D2)) ⋆ bot₅ B) (top₅ T B ⋆ H) tt

-- t^3 (t - 7 g)^2 is at most 5/64 of (8 g)^5, where t is at most 8 g: with 8 g = t + y it is t^3 (t - 7 y)^2 / 64
deviation : (t g : ℕ) → t ≤ 8 * g → 64 * t ^ 5 + 49 * ((8 * g) ^ 2 * t ^ 3) ≤ 112 * (8 * g * t ^ 4) + 5 * (8 * g) ^ 5
deviation t g h = let (y, e) = le_dest h in subst (λ (z : ℕ). 64 * t ^ 5 + 49 * (z ^ 2 * t ^ 3) ≤ 112 * (z * t ^ 4) + 5 * z ^ 5) e (parts y)
  where
    parts : (y : ℕ) → 64 * t ^ 5 + 49 * ((t + y) ^ 2 * t ^ 3) ≤ 112 * ((t + y) * t ^ 4) + 5 * (t + y) ^ 5
    parts y = let T = ν 0 in let Z = ν 0 ⊹ ν 1 in poly_le (t ∷ y ∷ []) (# 64 ⋆ T ↑ 5 ⊹ # 49 ⋆ (Z ↑ 2 ⋆ T ↑ 3)) (# 112 ⋆ (Z ⋆ T ↑ 4) ⊹ # 5 ⋆ Z ↑ 5) tt

-- the cuts are 3 units
cuts : (t g c d d4 d3 s d2 : ℕ) → t * d ≤ d4 * (2048 * g) + 2048 * g → t * (c + d4) ≤ d3 * (2048 * g) + 2048 * g → t * t ≤ s * (2048 * g) + 2048 * g → s * (512 * g + d3) ≤ d2 * (2048 * g) + 2048 * g → 512 * g + d3 ≤ 2048 * g → t ≤ 8 * g
    → 512 * g * (2048 * g) ^ 2 * t ^ 2 + c * (2048 * g) * t ^ 3 + d * t ^ 4 ≤ (d2 + 3) * (2048 * g) ^ 4
cuts t g c d d4 d3 s d2 =
    let T = ν 0 in let G = ν 1 in let C = ν 2 in let D = ν 3 in let D4 = ν 4 in let D3 = ν 5 in let S = ν 6 in let D2 = ν 7 in
    let B = # 2048 ⋆ G in let Q = # 512 ⋆ G ⊹ D3 in
    poly_by (t ∷ g ∷ c ∷ d ∷ d4 ∷ d3 ∷ s ∷ d2 ∷ [])
    ((T ⋆ D ≼ D4 ⋆ B ⊹ B by T ↑ 3) ∷ (T ⋆ (C ⊹ D4) ≼ D3 ⋆ B ⊹ B by B ⋆ T ↑ 2) ∷ (T ⋆ T ≼ S ⋆ B ⊹ B by B ↑ 2 ⋆ Q) ∷ (S ⋆ Q ≼ D2 ⋆ B ⊹ B by B ↑ 3) ∷ (Q ≼ B by B ↑ 3)
    ∷ (T ≼ # 8 ⋆ G by B ⋆ T ↑ 2 ⊹ # 8 ⋆ G ⋆ B ⋆ T ⊹ # 64 ⋆ G ↑ 2 ⋆ B ⊹ B ↑ 2 ⋆ T ⊹ # 8 ⋆ G ⋆ B ↑ 2) ∷ [])
    (# 1) (# 512 ⋆ G ⋆ B ↑ 2 ⋆ T ↑ 2 ⊹ C ⋆ B ⋆ T ↑ 3 ⊹ D ⋆ T ↑ 4) ((D2 ⊹ # 3) ⋆ B ↑ 4) tt

-- 5/64 of (8 g)^5 is below 5462 units
series_below : (t g c d d2 f : ℕ) → 512 * g * (2048 * g) ^ 2 * t ^ 2 + c * (2048 * g) * t ^ 3 + d * t ^ 4 ≤ (d2 + 3) * (2048 * g) ^ 4 → t ≤ 2 * f + 1 → t ≤ 8 * g → g ≤ 2 ^ 53
    → 20 * (2048 * g * (2048 * g)) * (1024 * g) ≤ 120 * (c + 1) * (2048 * g * (2048 * g)) + 49 * (g * g) * (1024 * g) → (5 * (2048 * g) + 14 * g) * (1024 * g) ≤ 120 * (d + 1) * (2048 * g)
    → 64 * t ^ 5 + 49 * ((8 * g) ^ 2 * t ^ 3) ≤ 112 * (8 * g * t ^ 4) + 5 * (8 * g) ^ 5
    → top 5 t (2048 * g) * (1024 * g) ≤ (1024 * g + (f + d2) + 5500) * bot 5 (2048 * g)
unfolding top bot
series_below t g c d d2 f =
    let T = ν 0 in let G = ν 1 in let C = ν 2 in let D = ν 3 in let D2 = ν 4 in let F = ν 5 in
    let B = # 2048 ⋆ G in let H = # 1024 ⋆ G in let Z = # 8 ⋆ G in
    poly_by (t ∷ g ∷ c ∷ d ∷ d2 ∷ f ∷ [])
    ((# 512 ⋆ G ⋆ B ↑ 2 ⋆ T ↑ 2 ⊹ C ⋆ B ⋆ T ↑ 3 ⊹ D ⋆ T ↑ 4 ≼ (D2 ⊹ # 3) ⋆ B ↑ 4 by # 120 ⋆ B) ∷ (T ≼ # 2 ⋆ F ⊹ # 1 by # 60 ⋆ B ↑ 5)
    ∷ (T ≼ Z by # 120 ⋆ (B ↑ 2 ⋆ (T ↑ 2 ⊹ Z ⋆ T ⊹ Z ↑ 2) ⊹ B ⋆ (T ↑ 3 ⊹ Z ⋆ T ↑ 2 ⊹ Z ↑ 2 ⋆ T ⊹ Z ↑ 3))) ∷ (G ≼ # (2 ^ 53) by # 2621440 ⋆ G ↑ 5)
    ∷ (# 20 ⋆ (B ⋆ B) ⋆ H ≼ # 120 ⋆ (C ⊹ # 1) ⋆ (B ⋆ B) ⊹ # 49 ⋆ (G ⋆ G) ⋆ H by T ↑ 3) ∷ ((# 5 ⋆ B ⊹ # 14 ⋆ G) ⋆ H ≼ # 120 ⋆ (D ⊹ # 1) ⋆ B by T ↑ 4)
    ∷ (# 64 ⋆ T ↑ 5 ⊹ # 49 ⋆ (Z ↑ 2 ⋆ T ↑ 3) ≼ # 112 ⋆ (Z ⋆ T ↑ 4) ⊹ # 5 ⋆ Z ↑ 5 by # 16 ⋆ G) ∷ [])
    (# 1) (top₅ T B ⋆ H) ((H ⊹ (F ⊹ D2) ⊹ # 5500) ⋆ bot₅ B) tt

abbrev B : ℕ
B = 2 ^ 64

abbrev S : ℕ
S = 2 ^ 63

next : (a : ℕ) → a ≤ a / B * B + B
next a = le_of_lt (lt-div-mul-add {a = a} {b = B} (lit< tt))

minus_one_lo : (t : ℕ) → (S + minus_one t) * bot 5 B ≤ top 5 t B * S
unfolding minus_one
minus_one_lo t =
    let d4 = hi t quartic in let d3 = hi t (cubic + d4) in let s = hi t t in
    series_above t (2 ^ 53) cubic quartic d4 d3 s (hi s (2 ^ 62 + d3)) (t / 2)
    (div-mul-le_self (t * quartic) B) (div-mul-le_self (t * (cubic + d4)) B) (div-mul-le_self (t * t) B) (div-mul-le_self (s * (2 ^ 62 + d3)) B) (omega arith)
    (lit≤ tt) (lit≤ tt) (square t (2 ^ 53))

-- the factor of x^2 fits a word
factor_lt : (t : ℕ) → t < 2 ^ 56 → 2 ^ 62 + hi t (cubic + hi t quartic) < B
factor_lt t h = step_lt (2 ^ 62) t (cubic + hi t quartic) _ (lit≤ tt) h (step_lt cubic t quartic _ (lit≤ tt) h (lit< tt) refl) refl

minus_one_up : (t : ℕ) → t < 2 ^ 56 → top 5 t B * S ≤ (S + minus_one t + 5500) * bot 5 B
unfolding minus_one
minus_one_up t h =
    let d4 = hi t quartic in let d3 = hi t (cubic + d4) in let s = hi t t in let d2 = hi s (2 ^ 62 + d3) in
    series_below t (2 ^ 53) cubic quartic d2 (t / 2)
    (cuts t (2 ^ 53) cubic quartic d4 d3 s d2 (next (t * quartic)) (next (t * (cubic + d4))) (next (t * t)) (next (s * (2 ^ 62 + d3))) (le_of_lt (factor_lt t h)) (le_of_lt h))
    (omega arith) (le_of_lt h) (lit≤ tt) (lit≤ tt) (lit≤ tt) (deviation t (2 ^ 53) (le_of_lt h))

pub minus_one_lt : (t : ℕ) → t < 2 ^ 56 → minus_one t < 2 ^ 57
unfolding minus_one
minus_one_lt t h = sum_lt t (hi t t) _ _ h (factor_lt t h) refl refl

pub small_lo : (t : ℕ) → Lo t B (S + minus_one t) S
small_lo t = record { terms = 5; bound = minus_one_lo t }

-- the later terms are below 100 units
tail_units : (t : ℕ) → t ≤ 2 ^ 56 → 2 * t ^ 6 * S ≤ 100 * bot 6 B
unfolding bot
tail_units t h = le_trans (mul-le-mul_right S (mul-le-mul_left 2 (pow-le-pow_left h 6))) (lit≤ tt)

pub small_up : (t : ℕ) → t < 2 ^ 56 → Up t B (S + minus_one t + 5600) S
unfolding doubled top bot
small_up t h =
    up_weaken (bot_pos 6 B (lit< tt)) (sums (6 * B) (top 5 t B) (t ^ 6) S (S + minus_one t) (bot 5 B) (minus_one_up t h) (tail_units t (le_of_lt h))) (up_doubled 5 t B (lit< tt) (few t h))
  where
    few : (t : ℕ) → t < 2 ^ 56 → 2 * t ≤ 7 * 2 ^ 64
    few t h = omega arith

    sums : (b T x s p W : ℕ) → T * s ≤ (p + 5500) * W → 2 * x * s ≤ 100 * (b * W) → (b * T + x + x) * s ≤ (p + 5600) * (b * W)
    sums b T x s p W h k = omega (arith, mul-le-mul_left b h)
