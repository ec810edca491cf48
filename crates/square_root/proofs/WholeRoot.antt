-- The whole root and the nearest one: the bounds that each has, and that the bounds fix it.
use Rattle.std.proofs.Common.{◌≡◌, ℕ, zero, suc, ◌+◌, ◌-◌, ◌*◌, ◌/◌, ◌%◌, ◌^◌, ◌<◌, ◌≤◌, Bool, cond, ltb, leb, sym, ap, ◌∙◌, subst, le_trans, le_of_eq, le_refl, lt_of_lt_of_le, lt_of_le_of_lt, mul-le-mul, le_antisymm, lt_of_not-le, not-le_of_lt, arith, le-ltb, lt-ltb, le-leb}
use native.Mathlib.Nat.{pow-zero, pow-succ'}
use native.Mathlib.Decide.{dec_le}
use lib.Ieee.{size}
use lib.Ieee.Digits.{size-lt}
use borrow.Author.Tests.{lt-leb}
use Rattle.square_root.specs.SquareRoot.{digit_root, isqrt, nearest_root}

pub record Root (n s : ℕ) : Type 0 where
  pub low : s * s ≤ n
  pub high : n < (s + 1) * (s + 1)

-- of two numbers the one with the smaller square is the smaller
pub less : (s t : ℕ) → s * s < t * t → s < t
less s t h = either (dec_le t s)
  where
    either : Dec (t ≤ s) → s < t
    either (yes g) = absurd (not-le_of_lt h (mul-le-mul g g))
    either (no f) = lt_of_not-le f

-- ---- digit by digit
step : (n x : ℕ) → Root (n / 4) x → Root n (cond (leb ((2 * x + 1) * (2 * x + 1)) n) (2 * x + 1) (2 * x))
step n x p = either (dec_le ((2 * x + 1) * (2 * x + 1)) n)
  where
    below : (n y : ℕ) → y ≤ n / 4 → 4 * y ≤ n
    below n y h = omega arith

    above : (n y : ℕ) → n / 4 < y → n < 4 * y
    above n y h = omega arith

    either : Dec ((2 * x + 1) * (2 * x + 1) ≤ n) → Root n (cond (leb ((2 * x + 1) * (2 * x + 1)) n) (2 * x + 1) (2 * x))
    either (yes h) =
        subst (λ (b : Bool). Root n (cond b (2 * x + 1) (2 * x))) (sym (le-leb ((2 * x + 1) * (2 * x + 1)) n h))
        (record { low = h; high = let g = above n ((x + 1) * (x + 1)) p.high in omega arith })
    either (no f) =
        subst (λ (b : Bool). Root n (cond b (2 * x + 1) (2 * x))) (sym (lt-leb ((2 * x + 1) * (2 * x + 1)) n (lt_of_not-le f)))
        (record { low = let g = below n (x * x) p.low in omega arith; high = lt_of_not-le f })

digits : (f n : ℕ) → n < 4 ^ f → Root n (digit_root f n)
unfolding digit_root
digits zero n h = let g : n < 1 = subst (λ (z : ℕ). n < z) (pow-zero 4) h in record { low = omega arith; high = omega arith }
digits (suc f) n h = step n (digit_root f (n / 4)) (digits f (n / 4) (quarter n (4 ^ f) (subst (λ (z : ℕ). n < z) (pow-succ' 4 f) h)))
  where
    quarter : (n p : ℕ) → n < 4 * p → n / 4 < p
    quarter n p h = omega arith

power_le : (f : ℕ) → 2 ^ f ≤ 4 ^ f
power_le zero = le_of_eq (pow-zero 2 ∙ sym (pow-zero 4))
power_le (suc f) = le_trans (le_of_eq (pow-succ' 2 f)) (le_trans (mul-le-mul (two) (power_le f)) (le_of_eq (sym (pow-succ' 4 f))))
  where
    two : 2 ≤ 4
    two = omega arith

pub isqrt_root : (n : ℕ) → Root n (isqrt n)
unfolding isqrt
isqrt_root n = digits (size n) n (lt_of_lt_of_le (size-lt n) (power_le (size n)))

-- ---- the nearest whole number: (q - 1/2) ^ 2 < n < (q + 1/2) ^ 2
pub record Nearest (n q : ℕ) : Type 0 where
  pub low : q * q < n + q
  pub high : n ≤ q * q + q

not_above : (n p q : ℕ) → Nearest n p → Nearest n q → p ≤ q
not_above n p q a b = either (dec_le (q + 1) p)
  where
    out : (p q : ℕ) → p < q + 1 → p ≤ q
    out p q h = omega arith

    clash : q + 1 ≤ p → ⊥
    clash g =
        let h = a.low in
        let i = b.high in
        let j : (q + 1) * p ≤ p * p = mul-le-mul g (le_refl p) in
        let k : q * (q + 1) ≤ q * p = mul-le-mul (le_refl q) g in
        omega arith

    either : Dec (q + 1 ≤ p) → p ≤ q
    either (yes g) = absurd (clash g)
    either (no f) = out p q (lt_of_not-le f)

pub nearest_unique : {n p q : ℕ} → Nearest n p → Nearest n q → p ≡ q
nearest_unique {n} {p} {q} a b = le_antisymm (not_above n p q a b) (not_above n q p b a)

pub nearest_root_lem : (n : ℕ) → 0 < n → Nearest n (nearest_root n)
unfolding nearest_root
nearest_root_lem n N = go (isqrt n) (isqrt_root n)
  where
    positive : (s : ℕ) → n < (s + 1) * (s + 1) → 0 < n → s * s ≤ n → s * s < n + s
    positive zero h i l = omega arith
    positive (suc s) h i l = omega arith

    either : (s : ℕ) → Root n s → Dec (n ≤ s * (s + 1)) → Nearest n (cond (ltb (s * (s + 1)) n) (s + 1) s)
    either s r (yes h) =
        subst (λ (b : Bool). Nearest n (cond b (s + 1) s)) (sym (le-ltb (s * (s + 1)) n h))
        (record { low = positive s r.high N r.low; high = omega arith })
    either s r (no f) =
        let h : s * (s + 1) < n = lt_of_not-le f in
        let g = r.high in
        subst (λ (b : Bool). Nearest n (cond b (s + 1) s)) (sym (lt-ltb (s * (s + 1)) n h))
        (record { low = omega arith; high = omega arith })

    go : (s : ℕ) → Root n s → Nearest n (cond (ltb (s * (s + 1)) n) (s + 1) s)
    go s r = either s r (dec_le n (s * (s + 1)))

-- of a number of 105 or 106 digits it has 53, or is 2 ^ 53
pub nearest_lo : (n q : ℕ) → Nearest n q → 2 ^ 104 ≤ n → 2 ^ 52 ≤ q
nearest_lo n q r h = either (dec_le (q + 1) (2 ^ 52))
  where
    clash : q + 1 ≤ 2 ^ 52 → ⊥
    clash g = let i = r.high in let j : (q + 1) * (q + 1) ≤ 2 ^ 52 * 2 ^ 52 = mul-le-mul g g in omega arith

    out : (q : ℕ) → 2 ^ 52 < q + 1 → 2 ^ 52 ≤ q
    out q h = omega arith

    either : Dec (q + 1 ≤ 2 ^ 52) → 2 ^ 52 ≤ q
    either (yes g) = absurd (clash g)
    either (no f) = out q (lt_of_not-le f)

pub nearest_hi : (n q : ℕ) → Nearest n q → n < 2 ^ 106 → q ≤ 2 ^ 53
nearest_hi n zero r h = omega arith
nearest_hi n (suc p) r h = less p (2 ^ 53) (let i = r.low in omega arith)

-- ---- the steps of the search for it
pub below_cap : (q H L : ℕ) → H < 2 ^ 42 → L < 2 ^ 64 → q * (q + 1) < H * 2 ^ 64 + L → q < 2 ^ 53
below_cap q H L h k l = less q (2 ^ 53) (lt_of_le_of_lt (wider q) (lt_of_lt_of_le l (number_le H L h k)))
  where
    wider : (q : ℕ) → q * q ≤ q * (q + 1)
    wider q = omega arith

    number_le : (H L : ℕ) → H < 2 ^ 42 → L < 2 ^ 64 → H * 2 ^ 64 + L ≤ 2 ^ 53 * 2 ^ 53
    number_le H L h k = omega arith

pub above_zero : (n q : ℕ) → 0 < n → n ≤ q * (q + 1) → 1 ≤ q
above_zero n zero N h = omega arith
above_zero n (suc q) N h = omega arith

pred_add : (q : ℕ) → 1 ≤ q → q ≡ q - 1 + 1
pred_add q Q = omega arith

pub step_down : (n q : ℕ) → 0 < n → 1 ≤ q → n ≤ (q - 1) * q → (1 ≤ q - 1) × (n ≤ (q - 1) * (q - 1 + 1))
step_down n q N Q h = let l = subst (λ (z : ℕ). n ≤ (q - 1) * z) (pred_add q Q) h in (above_zero n (q - 1) N l, l)

pub is_nearest : (n q : ℕ) → 0 < n → 1 ≤ q → (q - 1) * q < n → n ≤ q * (q + 1) → q ≡ nearest_root n
is_nearest n q N Q a b = nearest_unique (record { low = low (q - 1) q (pred_add q Q) a; high = omega arith }) (nearest_root_lem n N)
  where
    low : (p q : ℕ) → q ≡ p + 1 → p * q < n → q * q < n + q
    low p q e a = omega (arith, ap (λ (t : ℕ). t * q) e)

-- ---- the nearest root from a square below n and what is left of n
pub rest_is : (n H L : ℕ) → n / 2 ^ 64 ≡ H → n % 2 ^ 64 ≤ L → H * 2 ^ 64 + L ≡ n + (L - n % 2 ^ 64)
rest_is n H L e h = omega arith

pub nearest_from_below : (n s d : ℕ) → 0 < n → n ≡ s * s + d → d ≤ s → s ≡ nearest_root n
nearest_from_below n s d N e h = nearest_unique (record { low = low s e h; high = omega arith }) (nearest_root_lem n N)
  where
    low : (s : ℕ) → n ≡ s * s + d → d ≤ s → s * s < n + s
    low zero e h = omega arith
    low (suc s) e h = omega arith

pub nearest_above : (n s d : ℕ) → 0 < n → n ≡ s * s + d → s < d → d ≤ 3 * s → s + 1 ≡ nearest_root n
nearest_above n s d N e h k = nearest_unique (record { low = omega arith; high = omega arith }) (nearest_root_lem n N)

pub nearest_of_words : (H L : ℕ) → 0 < H → H < 2 ^ 42 → L < 2 ^ 64 → nearest_root (H * 2 ^ 64 + L) ≤ 2 ^ 53
nearest_of_words H L h k l = let n = H * 2 ^ 64 + L in nearest_hi n (nearest_root n) (nearest_root_lem n (positive H L h)) (number_lt H L k l)
  where
    positive : (H L : ℕ) → 0 < H → 0 < H * 2 ^ 64 + L
    positive H L h = omega arith

    number_lt : (H L : ℕ) → H < 2 ^ 42 → L < 2 ^ 64 → H * 2 ^ 64 + L < 2 ^ 106
    number_lt H L h k = omega arith
