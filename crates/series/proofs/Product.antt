-- The exponential series' partial sums and products: with e N a for the sum to the term N at a / b,  e N (a + c) ≤ e N a * e N c, and e N a * e M c ≤ e (N + M) (a + c). Assumes nothing.
use mathlib.Core.Path.{◌≡◌, refl, sym, ap, ◌∙◌, subst}
use mathlib.Core.Logic.{◌⊎◌, inl, inr}
use Prim.Native.Nat.{ℕ, zero, suc, ◌+◌, ◌*◌, ◌^◌, ◌≤◌, ◌<◌, suc-le-suc}
use native.Mathlib.Nat.{le_refl, le_trans, le_of_eq, le_of_lt, lt_of_le_of_lt, lt_irrefl, zero-lt-suc, eq-or-lt_of_le, le_of_suc-le-suc, add_comm, mul_assoc, mul_comm, mul_left_comm, mul-add, add-mul, mul-le-mul_right, le-add_left, suc-add, zero-mul, mul-zero, add-zero, zero-add, mul-pos, pow-zero, pow-succ', eq_of_mul-eq-mul_left, le_of_mul-le-mul_right}
use native.Mathlib.Omega.{arith}
use Rattle.series.specs.Series.{top, bot}
use Rattle.series.proofs.Sums.{Seq, sum, conv, conv_back, conv_left, conv_right, conv_scale_left, conv_scale_right, weigh, tri, tri_le_square, rectangle_le_tri}

-- the term i of the series, over the common denominator K! * b^K: K!/i! * a^i * b^(K-i). `last K i x` is x where i is K, and 0 elsewhere.
unfoldable pub last : ℕ → ℕ → ℕ → ℕ
last zero zero x = x
last zero (suc i) x = 0
last (suc K) zero x = 0
last (suc K) (suc i) x = last K i x

unfoldable pub term : ℕ → ℕ → ℕ → ℕ → ℕ
unfolding last
term a b zero i = last zero i 1
term a b (suc K) i = suc K * b * term a b K i + last (suc K) i (a ^ suc K)

last_self : (K x : ℕ) → last K K x ≡ x
unfolding last
last_self zero x = refl
last_self (suc K) x = last_self K x

last_below : (K i x : ℕ) → i < K → last K i x ≡ 0
unfolding last
last_below (suc K) zero x h = refl
last_below (suc K) (suc i) x h = last_below K i x (le_of_suc-le-suc h)
last_below zero i x h = absurd (no i h)
  where
    no : (i : ℕ) → i < zero → ⊥
    no i h = omega arith

last_above : (K i x : ℕ) → K < i → last K i x ≡ 0
unfolding last
last_above zero zero x h = absurd (lt_irrefl zero h)
last_above zero (suc i) x h = refl
last_above (suc K) zero x h = refl
last_above (suc K) (suc i) x h = last_above K i x (le_of_suc-le-suc h)

term_above : (a b K i : ℕ) → K < i → term a b K i ≡ 0
unfolding term
term_above a b zero i h = last_above zero i 1 h
term_above a b (suc K) i h =
    ap (λ (x : ℕ). suc K * b * x + last (suc K) i (a ^ suc K)) (term_above a b K i (lt_of_le_of_lt (less K) h))
    ∙ ap (λ (x : ℕ). suc K * b * 0 + x) (last_above (suc K) i (a ^ suc K) h) ∙ add-zero (suc K * b * 0) ∙ mul-zero (suc K * b)
  where
    less : (K : ℕ) → K ≤ suc K
    less K = omega arith

-- below the last the terms of K + 1 are those of K, times (K + 1) * b
term_below : (a b K i : ℕ) → i ≤ K → term a b (suc K) i ≡ suc K * b * term a b K i
unfolding term
term_below a b K i h = ap (λ (x : ℕ). suc K * b * term a b K i + x) (last_below (suc K) i (a ^ suc K) (suc-le-suc h)) ∙ add-zero (suc K * b * term a b K i)

term_last : (a b K : ℕ) → term a b K K ≡ a ^ K
unfolding term
term_last a b zero = last_self zero 1 ∙ sym (pow-zero a)
term_last a b (suc K) =
    ap (λ (x : ℕ). suc K * b * x + last (suc K) (suc K) (a ^ suc K)) (term_above a b K (suc K) (le_refl (suc K)))
    ∙ ap (λ (x : ℕ). x + last (suc K) (suc K) (a ^ suc K)) (mul-zero (suc K * b)) ∙ zero-add (last (suc K) (suc K) (a ^ suc K)) ∙ last_self (suc K) (a ^ suc K)

swap : (x y z w : ℕ) → x * y * (z * w) ≡ z * (x * y * w)
swap x y z w = omega arith

-- each term but the last, from the one before it
term_step : (a b K i : ℕ) → i < K → suc i * b * term a b K (suc i) ≡ a * term a b K i
term_step a b (suc K) i h = step (λ l. term_step a b K i l) (eq-or-lt_of_le (le_of_suc-le-suc h))
  where
    step : (i < K → suc i * b * term a b K (suc i) ≡ a * term a b K i) → (i ≡ K) ⊎ (i < K) → suc i * b * term a b (suc K) (suc i) ≡ a * term a b (suc K) i
    step rec (inl e) =
        subst (λ (k : ℕ). suc i * b * term a b (suc k) (suc i) ≡ a * term a b (suc k) i) e
        (ap (λ (x : ℕ). suc i * b * x) (term_last a b (suc i) ∙ pow-succ' a i) ∙ mul_left_comm (suc i * b) a (a ^ i)
        ∙ ap (λ (x : ℕ). a * (suc i * b * x)) (sym (term_last a b i)) ∙ ap (λ (x : ℕ). a * x) (sym (term_below a b i i (le_refl i))))
    step rec (inr l) =
        ap (λ (x : ℕ). suc i * b * x) (term_below a b K (suc i) l) ∙ mul_left_comm (suc i * b) (suc K * b) (term a b K (suc i))
        ∙ ap (λ (x : ℕ). suc K * b * x) (rec l) ∙ mul_left_comm (suc K * b) a (term a b K i) ∙ ap (λ (x : ℕ). a * x) (sym (term_below a b K i (le_of_lt l)))
term_step a b zero i h = absurd (no i h)
  where
    no : (i : ℕ) → i < zero → ⊥
    no i h = omega arith

term_first : (a b K : ℕ) → term a b K zero ≡ bot K b
unfolding term bot last
term_first a b zero = refl
term_first a b (suc K) = add-zero (suc K * b * term a b K zero) ∙ ap (λ (x : ℕ). suc K * b * x) (term_first a b K)

-- ---- the convolution of the terms at a and at c is the term at a + c
module _ (a c b K : ℕ) where
  abbrev Z : Seq
  Z = term a b K

  abbrev W : Seq
  W = term c b K

  drop_zero : (u v : Seq) (n : ℕ) → conv (λ i. i * u i) v (suc n) ≡ conv (λ i. suc i * u (suc i)) v n
  unfolding conv
  drop_zero u v n = ap (λ (x : ℕ). x * v (suc n) + conv (λ i. suc i * u (suc i)) v n) (zero-mul (u zero)) ∙ ap (λ (x : ℕ). x + conv (λ i. suc i * u (suc i)) v n) (zero-mul (v (suc n))) ∙ zero-add (conv (λ i. suc i * u (suc i)) v n)

  drop_zero_right : (u v : Seq) (n : ℕ) → conv u (λ j. j * v j) (suc n) ≡ conv u (λ j. suc j * v (suc j)) n
  drop_zero_right u v n =
      conv_back u (λ j. j * v j) n ∙ ap (λ (x : ℕ). conv u (λ j. suc j * v (suc j)) n + u (suc n) * x) (zero-mul (v zero))
      ∙ ap (λ (x : ℕ). conv u (λ j. suc j * v (suc j)) n + x) (mul-zero (u (suc n))) ∙ add-zero (conv u (λ j. suc j * v (suc j)) n)

  turn : (x y z : ℕ) → y * (x * z) ≡ x * y * z
  turn x y z = omega arith

  left : (n : ℕ) → n < K → b * conv (λ i. i * Z i) W (suc n) ≡ a * conv Z W n
  left n h =
      ap (λ (x : ℕ). b * x) (drop_zero Z W n)
      ∙ sym (conv_scale_left b (λ i. suc i * Z (suc i)) W n)
      ∙ conv_left (λ i. b * (suc i * Z (suc i))) (λ i. a * Z i) W n (λ i g. turn (suc i) b (Z (suc i)) ∙ term_step a b K i (lt_of_le_of_lt g h))
      ∙ conv_scale_left a Z W n

  right : (n : ℕ) → n < K → b * conv Z (λ j. j * W j) (suc n) ≡ c * conv Z W n
  right n h =
      ap (λ (x : ℕ). b * x) (drop_zero_right Z W n)
      ∙ sym (conv_scale_right b Z (λ j. suc j * W (suc j)) n)
      ∙ conv_right Z (λ j. b * (suc j * W (suc j))) (λ j. c * W j) n (λ j g. turn (suc j) b (W (suc j)) ∙ term_step c b K j (lt_of_le_of_lt g h))
      ∙ conv_scale_right c Z W n

  conv_step : (n : ℕ) → n < K → suc n * b * conv Z W (suc n) ≡ (a + c) * conv Z W n
  conv_step n h =
      sym (turn (suc n) b (conv Z W (suc n)))
      ∙ ap (λ (x : ℕ). b * x)
      (ap (λ (m : ℕ). m * conv Z W (suc n)) (sym (zero-add (suc n))) ∙ weigh zero Z W (suc n)
      ∙ ap (λ (x : ℕ). x + conv Z (λ j. j * W j) (suc n)) (conv_left (λ i. (zero + i) * Z i) (λ i. i * Z i) W (suc n) (λ i g. ap (λ (m : ℕ). m * Z i) (zero-add i))))
      ∙ mul-add b (conv (λ i. i * Z i) W (suc n)) (conv Z (λ j. j * W j) (suc n))
      ∙ (λ i. left n h i + right n h i)
      ∙ sym (add-mul a c (conv Z W n))

  module _ (b_pos : 0 < b) where
    conv_is : (n : ℕ) → n ≤ K → conv Z W n ≡ bot K b * term (a + c) b K n
    unfolding conv
    conv_is zero h = (λ i. term_first a b K i * term_first c b K i) ∙ ap (λ (x : ℕ). bot K b * x) (sym (term_first (a + c) b K))
    conv_is (suc n) h =
        eq_of_mul-eq-mul_left (suc n * b) (mul-pos (zero-lt-suc n) b_pos) (conv Z W (suc n)) (bot K b * term (a + c) b K (suc n))
        (conv_step n h ∙ ap (λ (x : ℕ). (a + c) * x) (conv_is n (le_of_lt h)) ∙ mul_left_comm (a + c) (bot K b) (term (a + c) b K n)
        ∙ ap (λ (x : ℕ). bot K b * x) (sym (term_step (a + c) b K n h)) ∙ mul_left_comm (bot K b) (suc n * b) (term (a + c) b K (suc n)))

-- ---- the partial sums as sums of terms
sum_scale : (k : ℕ) (u : Seq) (n : ℕ) → sum (λ i. k * u i) n ≡ k * sum u n
unfolding sum
sum_scale k u zero = refl
sum_scale k u (suc n) = ap (λ (x : ℕ). x + k * u (suc n)) (sum_scale k u n) ∙ sym (mul-add k (sum u n) (u (suc n)))

sum_same : (u v : Seq) (n : ℕ) → ((i : ℕ) → i ≤ n → u i ≡ v i) → sum u n ≡ sum v n
unfolding sum
sum_same u v zero e = e zero (le_refl zero)
sum_same u v (suc n) e = (λ i. sum_same u v n (λ k h. e k (le_trans h (more n))) i + e (suc n) (le_refl (suc n)) i)
  where
    more : (n : ℕ) → n ≤ suc n
    more n = omega arith

sum_top : (a b n : ℕ) → sum (term a b n) n ≡ top n a b
unfolding sum top term last
sum_top a b zero = refl
sum_top a b (suc n) = (λ i. (sum_same (term a b (suc n)) (λ k. suc n * b * term a b n k) n (λ k h. term_below a b n k h) ∙ sum_scale (suc n * b) (term a b n) n ∙ ap (λ (x : ℕ). suc n * b * x) (sum_top a b n)) i + term_last a b (suc n) i)

-- the first n terms at d + n, in units of those at n
sum_at : (a b n d : ℕ) → sum (term a b (d + n)) n * bot n b ≡ top n a b * bot (d + n) b
unfolding bot
sum_at a b n zero = ap (λ (k : ℕ). sum (term a b k) n * bot n b) (zero-add n) ∙ ap (λ (x : ℕ). x * bot n b) (sum_top a b n) ∙ ap (λ (k : ℕ). top n a b * bot k b) (sym (zero-add n))
sum_at a b n (suc d) =
    ap (λ (k : ℕ). sum (term a b k) n * bot n b) (suc-add d n)
    ∙ ap (λ (x : ℕ). x * bot n b) (sum_same (term a b (suc (d + n))) (λ k. suc (d + n) * b * term a b (d + n) k) n (λ k h. term_below a b (d + n) k (le_trans h (le-add_left n d))) ∙ sum_scale (suc (d + n) * b) (term a b (d + n)) n)
    ∙ mul_assoc (suc (d + n) * b) (sum (term a b (d + n)) n) (bot n b)
    ∙ ap (λ (x : ℕ). suc (d + n) * b * x) (sum_at a b n d)
    ∙ mul_left_comm (suc (d + n) * b) (top n a b) (bot (d + n) b)
    ∙ ap (λ (k : ℕ). top n a b * bot k b) (sym (suc-add d n))

pub bot_pos : (n b : ℕ) → 0 < b → 0 < bot n b
unfolding bot
bot_pos zero b h = zero-lt-suc 0
bot_pos (suc n) b h = mul-pos (mul-pos (zero-lt-suc n) h) (bot_pos n b h)

tri_is : (a c b K : ℕ) → 0 < b → tri (term a b K) (term c b K) K ≡ bot K b * top K (a + c) b
tri_is a c b K h =
    sum_same (conv (term a b K) (term c b K)) (λ n. bot K b * term (a + c) b K n) K (λ n g. conv_is a c b K h n g)
    ∙ sum_scale (bot K b) (term (a + c) b K) K ∙ ap (λ (x : ℕ). bot K b * x) (sum_top (a + c) b K)

-- e^(x + y) ≤ e^x * e^y, of the sums to the same term: top N (a + c) / bot N ≤ (top N a / bot N) * (top N c / bot N)
pub sum_le_product : (a c b N : ℕ) → 0 < b → top N (a + c) b * bot N b ≤ top N a b * top N c b
sum_le_product a c b N h =
    le_trans (le_of_eq (mul_comm (top N (a + c) b) (bot N b) ∙ sym (tri_is a c b N h)))
    (le_trans (tri_le_square (term a b N) (term c b N) N) (le_of_eq (λ i. sum_top a b N i * sum_top c b N i)))

four : (x y z w : ℕ) → x * y * (z * w) ≡ x * z * (y * w)
four x y z w = omega arith

-- e^x * e^y ≤ e^(x + y), of sums to the terms N, M and N + M
pub product_le_sum : (a c b N M : ℕ) → 0 < b → top N a b * top M c b * bot (N + M) b ≤ top (N + M) (a + c) b * (bot N b * bot M b)
product_le_sum a c b N M h =
    let K = N + M in
    let B = bot K b in
    let u = sum (term a b K) N in
    let v = sum (term c b K) M in
    let eu : u * bot N b ≡ top N a b * B = subst (λ (k : ℕ). sum (term a b k) N * bot N b ≡ top N a b * bot k b) (add_comm M N) (sum_at a b N M) in
    let ev : v * bot M b ≡ top M c b * B = sum_at c b M N in
    le_of_mul-le-mul_right {k = B}
    (le_trans (le_of_eq (mul_assoc (top N a b * top M c b) B B ∙ four (top N a b) (top M c b) B B ∙ (λ i. sym eu i * sym ev i) ∙ four u (bot N b) v (bot M b)))
    (le_trans (mul-le-mul_right (bot N b * bot M b) (le_trans (rectangle_le_tri (term a b K) (term c b K) N M) (le_of_eq (tri_is a c b K h))))
    (le_of_eq (omega arith))))
    (bot_pos K b h)
