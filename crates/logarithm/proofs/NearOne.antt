-- The polynomial `near_one` is ln(1 + z), within 2^-50. Assumes nothing.
-- With y the rest of z to 1/128, each polynomial in z is one in z and y of the same degree, whose orders hold coefficient by coefficient.
use Rattle.std.proofs.Common.{◌≡◌, ℕ, zero, suc, ◌+◌, ◌-◌, ◌*◌, ◌^◌, ◌<◌, ◌≤◌, [], ◌∷◌, sym, refl, ap, ◌∙◌, subst, zero-le, le_trans, le_of_eq, le_refl, le_of_lt, add-le-add, mul-le-mul_right, mul-le-mul, lt_of_not-le, mul-zero, mul-add, sub-add_cancel, div-mul-le_self, sub-le, arith, lit<, lit≤}
use native.Mathlib.Nat.{lt-div-mul-add}
use native.Mathlib.Decide.{dec_le}
use Rattle.exact.proofs.NatProver.{Expr, ν, #, ◌⊹◌, ◌⋆◌, ◌↑◌, poly_eq, poly_le, poly_by, ◌≼◌by◌}
use Rattle.series.specs.Series.{top, bot}
use Rattle.series.proofs.Product.{bot_pos}
use Rattle.series.proofs.Bounds.{Up, Lo, doubled, up_doubled, up_weaken}
use Rattle.series.proofs.Scaling.{up_at, lo_at}
use Rattle.exponential.specs.Mantissa.{hi}
use Rattle.logarithm.specs.FixedPoint.{third, fourth, fifth, near_one}
use Rattle.logarithm.proofs.Words.{hi_le, under, sum_lt}

-- ---- the series at the polynomial
abbrev top_e : ℕ → Expr → Expr → Expr
top_e zero a b = # 1
top_e (suc N) a b = # (suc N) ⋆ b ⋆ top_e N a b ⊹ a ↑ suc N

abbrev bot_e : ℕ → Expr → Expr
bot_e zero b = # 1
bot_e (suc N) b = # (suc N) ⋆ b ⋆ bot_e N b

abbrev Z : Expr
Z = ν 0

abbrev Y : Expr
Y = ν 1

-- 1, which is 2^64 units
abbrev b_e : Expr
b_e = # 128 ⋆ (Z ⊹ Y)

-- the polynomial times 2^64 b^4, and that factor times b
abbrev p_e : Expr
p_e = # (2 ^ 63) ⋆ Z ⋆ b_e ↑ 3 ⋆ (# 255 ⋆ Z ⊹ # 256 ⋆ Y) ⊹ Z ↑ 3 ⋆ b_e ⋆ (# (128 * third - fourth) ⋆ Z ⊹ # (128 * third) ⋆ Y) ⊹ # fifth ⋆ Z ↑ 5

abbrev d_e : Expr
d_e = # (2 ^ 64) ⋆ b_e ↑ 5

abbrev p : ℕ → ℕ → ℕ → ℕ
p z y b = 2 ^ 63 * z * b ^ 3 * (255 * z + 256 * y) + z ^ 3 * b * ((128 * third - fourth) * z + 128 * third * y) + fifth * z ^ 5

abbrev d : ℕ → ℕ
d b = 2 ^ 64 * b ^ 5

module _ (z y : ℕ) where
  abbrev b : ℕ
  b = 128 * (z + y)

  sum_lo : (b + z) * (2 ^ 50 - 1) * bot 5 (d b) ≤ top 5 (p z y b) (d b) * (b * 2 ^ 50)
  unfolding top bot
  sum_lo = poly_le (z ∷ y ∷ []) ((b_e ⊹ Z) ⋆ # (2 ^ 50 - 1) ⋆ bot_e 5 d_e) (top_e 5 p_e d_e ⋆ (b_e ⋆ # (2 ^ 50))) tt

  sum_up : doubled 5 (p z y b) (d b) * (b * 2 ^ 50) ≤ (b + z) * (2 ^ 50 + 1) * bot 6 (d b)
  unfolding doubled top bot
  sum_up = poly_le (z ∷ y ∷ []) ((top_e 6 p_e d_e ⊹ p_e ↑ 6) ⋆ (b_e ⋆ # (2 ^ 50))) ((b_e ⊹ Z) ⋆ # (2 ^ 50 + 1) ⋆ bot_e 6 d_e) tt

  small : 2 * p z y b ≤ 7 * d b
  small = poly_le (z ∷ y ∷ []) (# 2 ⋆ p_e) (# 7 ⋆ d_e) tt

  is_polynomial : p z y b + (2 ^ 63 * z ^ 2 * b ^ 3 + fourth * z ^ 4 * b) ≡ 2 ^ 64 * b ^ 4 * z + (third * z ^ 3 * b ^ 2 + fifth * z ^ 5)
  is_polynomial =
      poly_eq (z ∷ y ∷ []) (p_e ⊹ (# (2 ^ 63) ⋆ Z ↑ 2 ⋆ b_e ↑ 3 ⊹ # fourth ⋆ Z ↑ 4 ⋆ b_e))
      (# (2 ^ 64) ⋆ b_e ↑ 4 ⋆ Z ⊹ (# third ⋆ Z ↑ 3 ⋆ b_e ↑ 2 ⊹ # fifth ⋆ Z ↑ 5)) tt tt

-- ---- the same in units of 2^-64, where b is 2^64
abbrev Q : ℕ
Q = 2 ^ 64

record At (z y b : ℕ) : Type 0 where
  lo : Lo (p z y b) (d b) ((b + z) * (2 ^ 50 - 1)) (b * 2 ^ 50)
  up : Up (p z y b) (d b) ((b + z) * (2 ^ 50 + 1)) (b * 2 ^ 50)
  is : p z y b + (2 ^ 63 * z ^ 2 * b ^ 3 + fourth * z ^ 4 * b) ≡ 2 ^ 64 * b ^ 4 * z + (third * z ^ 3 * b ^ 2 + fifth * z ^ 5)

at_units : (z : ℕ) → z < 2 ^ 57 → At z (2 ^ 57 - z) Q
at_units z h = subst (λ (b : ℕ). At z (2 ^ 57 - z) b) (whole z h) (record {
  lo = record { terms = 5; bound = sum_lo z (2 ^ 57 - z) };
  up = up_weaken (bot_pos 6 (d (b z (2 ^ 57 - z))) positive) (sum_up z (2 ^ 57 - z)) (up_doubled 5 (p z (2 ^ 57 - z) (b z (2 ^ 57 - z))) (d (b z (2 ^ 57 - z))) positive (small z (2 ^ 57 - z)));
  is = is_polynomial z (2 ^ 57 - z);
})
  where
    whole : (z : ℕ) → z < 2 ^ 57 → 128 * (z + (2 ^ 57 - z)) ≡ 2 ^ 64
    whole z h = omega arith

    positive : 0 < d (b z (2 ^ 57 - z))
    positive = subst (λ (x : ℕ). 0 < d x) (sym (whole z h)) (lit< tt)

-- ---- what is cut off: less than two units
low : (a c : ℕ) → hi a c * Q ≤ a * c
low a c = div-mul-le_self (a * c) Q

high : (a c : ℕ) → a * c ≤ hi a c * Q + Q
high a c = le_of_lt (lt-div-mul-add {a = a * c} {b = Q} (lit< tt))

module _ (z : ℕ) (h : z < 2 ^ 57) where
  abbrev w : ℕ
  w = hi z z

  abbrev k : ℕ
  k = hi z third

  abbrev o : ℕ
  o = hi z fifth

  abbrev s : ℕ
  s = hi w (fourth - o)

  abbrev t : ℕ
  t = hi w (2 ^ 63 - k + s)

  z_le : z * 128 ≤ Q
  z_le = omega arith

  w_le_z : w ≤ z
  w_le_z = hi_le (below z h) refl
    where
      below : (z : ℕ) → z < 2 ^ 57 → z < 2 ^ 64
      below z h = omega arith

  w_le : w * 2 ^ 14 ≤ Q
  w_le = few w (z * z) (low z z) (mul-le-mul (le_of_lt h) (le_of_lt h))
    where
      few : (w s : ℕ) → w * 2 ^ 64 ≤ s → s ≤ 2 ^ 57 * 2 ^ 57 → w * 2 ^ 14 ≤ 2 ^ 64
      few w s h k = omega arith

  k_le : k ≤ 2 ^ 63
  k_le = le_trans (hi_le (lit< tt) refl) (le_trans (le_of_lt h) (lit≤ tt))

  o_le : o ≤ fourth
  o_le = le_trans (hi_le (lit< tt) refl) (le_trans (le_of_lt h) (lit≤ tt))

  -- w times a difference, and w times what is taken away
  whole : (a d : ℕ) → d ≤ a → w * (a - d) + w * d ≡ w * a
  whole a d l = sym (mul-add w (a - d) d) ∙ ap (λ (x : ℕ). w * x) (sub-add_cancel l)

  s_parts : w * (fourth - o) + w * o ≡ w * fourth
  s_parts = whole fourth o o_le

  t_parts : w * (2 ^ 63 - k + s) + w * k ≡ w * (2 ^ 63 + s)
  t_parts = sym (mul-add w (2 ^ 63 - k + s) k) ∙ ap (λ (x : ℕ). w * x) (back k s k_le)
    where
      back : (k s : ℕ) → k ≤ 2 ^ 63 → 2 ^ 63 - k + s + k ≡ 2 ^ 63 + s
      back k s h = omega arith

  s_low : s * Q + w * o ≤ w * fourth
  s_low = le_trans (add-le-add (low w (fourth - o)) (le_refl (w * o))) (le_of_eq s_parts)

  s_high : w * fourth ≤ s * Q + Q + w * o
  s_high = le_trans (le_of_eq (sym s_parts)) (add-le-add (high w (fourth - o)) (le_refl (w * o)))

  t_low : t * Q + w * k ≤ w * (2 ^ 63 + s)
  t_low = le_trans (add-le-add (low w (2 ^ 63 - k + s)) (le_refl (w * k))) (le_of_eq t_parts)

  t_high : w * (2 ^ 63 + s) ≤ t * Q + Q + w * k
  t_high = le_trans (le_of_eq (sym t_parts)) (add-le-add (high w (2 ^ 63 - k + s)) (le_refl (w * k)))

  abbrev minus : ℕ
  minus = 2 ^ 63 * z ^ 2 * Q ^ 3 + fourth * z ^ 4 * Q

  abbrev plus : ℕ
  plus = third * z ^ 3 * Q ^ 2 + fifth * z ^ 5

  cut_lo : Q ^ 5 * t + plus ≤ Q ^ 5 + minus
  cut_lo =
      let Q = # (2 ^ 64) in let W = ν 1 in let K = ν 2 in let O = ν 3 in let S = ν 4 in let T = ν 5 in
      poly_by (z ∷ w ∷ k ∷ o ∷ s ∷ t ∷ [])
      ((T ⋆ Q ⊹ W ⋆ K ≼ W ⋆ (# (2 ^ 63) ⊹ S) by Q ↑ 4)
      ∷ (S ⋆ Q ⊹ W ⋆ O ≼ W ⋆ # fourth by Q ↑ 3 ⋆ W)
      ∷ (W ⋆ Q ≼ Z ⋆ Z by # (2 ^ 63) ⋆ Q ↑ 3 ⊹ # fourth ⋆ Q ⋆ (W ⋆ Q ⊹ Z ⋆ Z))
      ∷ (Z ⋆ # third ≼ K ⋆ Q ⊹ Q by Q ↑ 3 ⋆ W)
      ∷ (Z ⋆ # fifth ≼ O ⋆ Q ⊹ Q by Q ↑ 2 ⋆ W ⋆ W)
      ∷ (Z ⋆ Z ≼ W ⋆ Q ⊹ Q by # third ⋆ Q ↑ 2 ⋆ Z ⊹ # fifth ⋆ Z ⋆ (W ⋆ Q ⊹ Z ⋆ Z))
      ∷ (Z ⋆ # 128 ≼ Q by # (2 ^ 57) ⋆ Q ⋆ Z ⋆ Z ⊹ # (2 ^ 50) ⋆ Q ↑ 2 ⋆ Z ⊹ # (2 ^ 57) ⋆ Q ↑ 2 ⋆ W ⊹ # (2 ^ 57) ⋆ Q ↑ 3)
      ∷ (W ⋆ # (2 ^ 14) ≼ Q by # (2 ^ 50) ⋆ Q ↑ 2 ⋆ W ⊹ # (2 ^ 51) ⋆ Q ↑ 3) ∷ [])
      (# 1) (Q ↑ 5 ⋆ T ⊹ (# third ⋆ Z ↑ 3 ⋆ Q ↑ 2 ⊹ # fifth ⋆ Z ↑ 5)) (Q ↑ 5 ⊹ (# (2 ^ 63) ⋆ Z ↑ 2 ⋆ Q ↑ 3 ⊹ # fourth ⋆ Z ↑ 4 ⋆ Q)) tt
      t_low s_low (low z z) (high z third) (high z fifth) (high z z) z_le w_le

  cut_up : minus ≤ Q ^ 5 * (t + 2) + plus
  cut_up =
      let Q = # (2 ^ 64) in let W = ν 1 in let K = ν 2 in let O = ν 3 in let S = ν 4 in let T = ν 5 in
      poly_by (z ∷ w ∷ k ∷ o ∷ s ∷ t ∷ [])
      ((W ⋆ (# (2 ^ 63) ⊹ S) ≼ T ⋆ Q ⊹ Q ⊹ W ⋆ K by Q ↑ 4)
      ∷ (W ⋆ # fourth ≼ S ⋆ Q ⊹ Q ⊹ W ⋆ O by Q ↑ 3 ⋆ W)
      ∷ (Z ⋆ Z ≼ W ⋆ Q ⊹ Q by # (2 ^ 63) ⋆ Q ↑ 3 ⊹ # fourth ⋆ Q ⋆ (W ⋆ Q ⊹ Z ⋆ Z))
      ∷ (K ⋆ Q ≼ Z ⋆ # third by Q ↑ 3 ⋆ W)
      ∷ (O ⋆ Q ≼ Z ⋆ # fifth by Q ↑ 2 ⋆ W ⋆ W)
      ∷ (W ⋆ Q ≼ Z ⋆ Z by # third ⋆ Q ↑ 2 ⋆ Z ⊹ # fifth ⋆ Z ⋆ (W ⋆ Q ⊹ Z ⋆ Z))
      ∷ (Z ⋆ # 128 ≼ Q by # (2 ^ 57) ⋆ Q ↑ 2 ⋆ Z ⊹ # (2 ^ 50) ⋆ Q ↑ 3)
      ∷ (W ⋆ # (2 ^ 14) ≼ Q by # (2 ^ 51) ⋆ Q ↑ 3) ∷ [])
      (# 1) (# (2 ^ 63) ⋆ Z ↑ 2 ⋆ Q ↑ 3 ⊹ # fourth ⋆ Z ↑ 4 ⋆ Q) (Q ↑ 5 ⋆ (T ⊹ # 2) ⊹ (# third ⋆ Z ↑ 3 ⋆ Q ↑ 2 ⊹ # fifth ⋆ Z ↑ 5)) tt
      t_high s_high (high z z) (low z third) (low z fifth) (low z z) z_le w_le

  t_le : t ≤ z
  t_le = le_trans (hi_le (sum_lt k s w z (hi_le (under o) refl) w_le_z h) refl) w_le_z

-- p times 2^64 b^4 between the neighbours of z - t; F for 2^64 b^4
join_lo : (p X Y F B t u z : ℕ) → u + t ≡ z → p + X ≡ F * z + Y → F * t + Y ≤ F + X → p * B ≤ (u + 1) * (B * F)
join_lo p X Y F B t u z e f h = le_trans (mul-le-mul_right B (plain p X Y F t u (f ∙ ap (λ (x : ℕ). F * x + Y) (sym e)) h)) (le_of_eq (sorted F B u))
  where
    plain : (p X Y F t u : ℕ) → p + X ≡ F * (u + t) + Y → F * t + Y ≤ F + X → p ≤ F * (u + 1)
    plain p X Y F t u f h = omega arith

    sorted : (F B u : ℕ) → F * (u + 1) * B ≡ (u + 1) * (B * F)
    sorted F B u = omega arith

join_up : (p X Y F B t u z : ℕ) → u + t ≡ z → p + X ≡ F * z + Y → X ≤ F * (t + 2) + Y → (u - 2) * (B * F) ≤ p * B
join_up p X Y F B t u z e f h = le_trans (le_of_eq (sorted F B (u - 2))) (mul-le-mul_right B (either (dec_le 2 u)))
  where
    sorted : (F B v : ℕ) → v * (B * F) ≡ F * v * B
    sorted F B v = omega arith

    plain : (p X Y F t v : ℕ) → p + X ≡ F * (v + 2 + t) + Y → X ≤ F * (t + 2) + Y → F * v ≤ p
    plain p X Y F t v f h = omega arith

    none : u < 2 → u - 2 ≡ 0
    none l = omega arith

    either : Dec (2 ≤ u) → F * (u - 2) ≤ p
    either (yes l) = plain p X Y F t (u - 2) (f ∙ ap (λ (x : ℕ). F * x + Y) (sym e ∙ ap (λ (x : ℕ). x + t) (sym (sub-add_cancel l)))) h
    either (no g) = le_trans (le_of_eq (ap (λ (x : ℕ). F * x) (none (lt_of_not-le g)) ∙ mul-zero F)) zero-le

module _ (z : ℕ) (h : z < 2 ^ 57) where
  abbrev u : ℕ
  u = near_one z

  made : u + t z h ≡ z
  unfolding near_one
  made = sub-add_cancel (t_le z h)

  abbrev P : ℕ
  P = p z (2 ^ 57 - z) Q

  abbrev at : At z (2 ^ 57 - z) Q
  at = at_units z h

  -- (1 + z) (1 - 2^-50) ≤ e^(u + 1 unit)
  pub near_lo : Lo (near_one z + 1) (2 ^ 64) ((2 ^ 64 + z) * (2 ^ 50 - 1)) (2 ^ 64 * 2 ^ 50)
  near_lo = lo_at (u + 1) Q (lit< tt) (join_lo P (minus z h) (plus z h) (Q ^ 5) Q (t z h) u z made at.is (cut_lo z h)) at.lo

  -- e^(u - 2 units) ≤ (1 + z) (1 + 2^-50)
  pub near_up : Up (near_one z - 2) (2 ^ 64) ((2 ^ 64 + z) * (2 ^ 50 + 1)) (2 ^ 64 * 2 ^ 50)
  near_up = up_at (u - 2) Q (lit< tt) (join_up P (minus z h) (plus z h) (Q ^ 5) Q (t z h) u z made at.is (cut_up z h)) at.up

  pub near_le : near_one z ≤ z
  unfolding near_one
  near_le = sub-le z (t z h)
