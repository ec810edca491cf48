-- Finite sums and convolutions of sequences of natural numbers. Assumes nothing.
use mathlib.Core.Path.{◌≡◌, refl, sym, ap, ◌∙◌, subst}
use Prim.Native.Nat.{ℕ, zero, suc, ◌+◌, ◌*◌, ◌≤◌, suc-le-suc, zero-le}
use native.Mathlib.Nat.{le_refl, le_trans, le_of_eq, add_assoc, mul_assoc, mul_left_comm, mul-add, add-mul, add-le-add, mul-le-mul_left, le-add_right, add-suc, suc-add, add-zero, zero-add}
use native.Mathlib.Omega.{arith}

abbrev pub Seq : Type 0
Seq = ℕ → ℕ

abbrev pub shift : Seq → Seq
shift u i = u (suc i)

-- u 0 + .. + u n
unfoldable pub sum : Seq → ℕ → ℕ
sum u zero = u zero
sum u (suc n) = sum u n + u (suc n)

-- u 0 * v n + .. + u n * v 0
unfoldable pub conv : Seq → Seq → ℕ → ℕ
conv u v zero = u zero * v zero
conv u v (suc n) = u zero * v (suc n) + conv (shift u) v n

pub sum_front : (u : Seq) (n : ℕ) → sum u (suc n) ≡ u zero + sum (shift u) n
unfolding sum
sum_front u zero = refl
sum_front u (suc n) = ap (λ (x : ℕ). x + u (suc (suc n))) (sum_front u n) ∙ add_assoc (u zero) (sum (shift u) n) (u (suc (suc n)))

-- the other end taken off
pub conv_back : (u v : Seq) (n : ℕ) → conv u v (suc n) ≡ conv u (shift v) n + u (suc n) * v zero
unfolding conv
conv_back u v zero = refl
conv_back u v (suc n) =
    ap (λ (x : ℕ). u zero * v (suc (suc n)) + x) (conv_back (shift u) v n)
    ∙ sym (add_assoc (u zero * v (suc (suc n))) (conv (shift u) (shift v) n) (u (suc (suc n)) * v zero))

-- equal up to n
pub conv_left : (u u' v : Seq) (n : ℕ) → ((i : ℕ) → i ≤ n → u i ≡ u' i) → conv u v n ≡ conv u' v n
unfolding conv
conv_left u u' v zero e = ap (λ (x : ℕ). x * v zero) (e zero (le_refl zero))
conv_left u u' v (suc n) e =
    ap (λ (x : ℕ). x * v (suc n) + conv (shift u) v n) (e zero zero-le)
    ∙ ap (λ (x : ℕ). u' zero * v (suc n) + x) (conv_left (shift u) (shift u') v n (λ i h. e (suc i) (suc-le-suc h)))

pub conv_right : (u v v' : Seq) (n : ℕ) → ((i : ℕ) → i ≤ n → v i ≡ v' i) → conv u v n ≡ conv u v' n
unfolding conv
conv_right u v v' zero e = ap (λ (x : ℕ). u zero * x) (e zero (le_refl zero))
conv_right u v v' (suc n) e =
    ap (λ (x : ℕ). u zero * x + conv (shift u) v n) (e (suc n) (le_refl (suc n)))
    ∙ ap (λ (x : ℕ). u zero * v' (suc n) + x) (conv_right (shift u) v v' n (λ i h. e i (omega arith)))

pub conv_scale_left : (k : ℕ) (u v : Seq) (n : ℕ) → conv (λ i. k * u i) v n ≡ k * conv u v n
unfolding conv
conv_scale_left k u v zero = mul_assoc k (u zero) (v zero)
conv_scale_left k u v (suc n) =
    ap (λ (x : ℕ). k * u zero * v (suc n) + x) (conv_scale_left k (shift u) v n)
    ∙ ap (λ (x : ℕ). x + k * conv (shift u) v n) (mul_assoc k (u zero) (v (suc n)))
    ∙ sym (mul-add k (u zero * v (suc n)) (conv (shift u) v n))

pub conv_scale_right : (k : ℕ) (u v : Seq) (n : ℕ) → conv u (λ i. k * v i) n ≡ k * conv u v n
unfolding conv
conv_scale_right k u v zero = mul_left_comm (u zero) k (v zero)
conv_scale_right k u v (suc n) =
    ap (λ (x : ℕ). u zero * (k * v (suc n)) + x) (conv_scale_right k (shift u) v n)
    ∙ ap (λ (x : ℕ). x + k * conv (shift u) v n) (mul_left_comm (u zero) k (v (suc n)))
    ∙ sym (mul-add k (u zero * v (suc n)) (conv (shift u) v n))

-- each product u i * v j of the convolution, times k + n = (k + i) + j
regroup : (k n x y p q : ℕ) → (k + suc n) * (x * y) + (p + q) ≡ k * x * y + p + (x * (suc n * y) + q)
regroup k n x y p q = omega arith

at_zero : (k x y : ℕ) → (k + zero) * (x * y) ≡ (k + zero) * x * y + x * (zero * y)
at_zero k x y = omega arith

pub weigh : (k : ℕ) (u v : Seq) (n : ℕ) → (k + n) * conv u v n ≡ conv (λ i. (k + i) * u i) v n + conv u (λ j. j * v j) n
unfolding conv
weigh k u v zero = at_zero k (u zero) (v zero)
weigh k u v (suc n) =
    mul-add (k + suc n) (u zero * v (suc n)) (conv (shift u) v n)
    ∙ ap (λ (x : ℕ). (k + suc n) * (u zero * v (suc n)) + x)
    (ap (λ (m : ℕ). m * conv (shift u) v n) (add-suc k n ∙ sym (suc-add k n)) ∙ weigh (suc k) (shift u) v n
    ∙ ap (λ (x : ℕ). x + conv (shift u) (λ j. j * v j) n) (conv_left (λ i. (suc k + i) * u (suc i)) (λ i. (k + suc i) * u (suc i)) v n (λ i h. ap (λ (m : ℕ). m * u (suc i)) (suc-add k i ∙ sym (add-suc k i)))))
    ∙ regroup k n (u zero) (v (suc n)) (conv (λ i. (k + suc i) * u (suc i)) v n) (conv (shift u) (λ j. j * v j) n)
    ∙ ap (λ (m : ℕ). m * u zero * v (suc n) + conv (λ i. (k + suc i) * u (suc i)) v n + (u zero * (suc n * v (suc n)) + conv (shift u) (λ j. j * v j) n)) (sym (add-zero k))

-- ---- the sum of the convolutions up to n: all products u i * v j with i + j ≤ n
abbrev pub tri : Seq → Seq → ℕ → ℕ
tri u v n = sum (conv u v) n

move : (a b c d : ℕ) → a + b + (c + d) ≡ a + c + (b + d)
move a b c d = omega arith

pub tri_front : (u v : Seq) (n : ℕ) → tri u v (suc n) ≡ u zero * sum v (suc n) + tri (shift u) v n
unfolding sum conv
tri_front u v zero = sym (add_assoc (u zero * v zero) (u zero * v 1) (u 1 * v zero)) ∙ ap (λ (x : ℕ). x + u 1 * v zero) (sym (mul-add (u zero) (v zero) (v 1)))
tri_front u v (suc n) =
    ap (λ (x : ℕ). x + conv u v (suc (suc n))) (tri_front u v n)
    ∙ move (u zero * sum v (suc n)) (tri (shift u) v n) (u zero * v (suc (suc n))) (conv (shift u) v (suc n))
    ∙ ap (λ (x : ℕ). x + tri (shift u) v (suc n)) (sym (mul-add (u zero) (sum v (suc n)) (v (suc (suc n)))))

-- the triangle lies in the square
pub tri_le_square : (u v : Seq) (n : ℕ) → tri u v n ≤ sum u n * sum v n
unfolding sum conv
tri_le_square u v zero = le_refl (u zero * v zero)
tri_le_square u v (suc n) =
    le_trans (le_of_eq (tri_front u v n))
    (le_trans (add-le-add (le_refl (u zero * sum v (suc n))) (le_trans (tri_le_square (shift u) v n) (mul-le-mul_left (sum (shift u) n) (le-add_right (sum v n) (v (suc n))))))
    (le_of_eq (sym (add-mul (u zero) (sum (shift u) n) (sum v (suc n))) ∙ ap (λ (x : ℕ). x * sum v (suc n)) (sym (sum_front u n)))))

pub sum_mono : (v : Seq) (m n : ℕ) → sum v m ≤ sum v (n + m)
unfolding sum
sum_mono v m zero = le_of_eq (ap (sum v) (sym (zero-add m)))
sum_mono v m (suc n) = le_trans (sum_mono v m n) (le_trans (le-add_right (sum v (n + m)) (v (suc (n + m)))) (le_of_eq (ap (sum v) (sym (suc-add n m)))))

first_row : (u v : Seq) (m : ℕ) → u zero * sum v m ≤ tri u v m
unfolding sum conv
first_row u v zero = le_refl (u zero * v zero)
first_row u v (suc m) = le_trans (le-add_right (u zero * sum v (suc m)) (tri (shift u) v m)) (le_of_eq (sym (tri_front u v m)))

-- a rectangle lies in a triangle
pub rectangle_le_tri : (u v : Seq) (n m : ℕ) → sum u n * sum v m ≤ tri u v (n + m)
unfolding sum
rectangle_le_tri u v zero m = subst (λ (k : ℕ). u zero * sum v m ≤ tri u v k) (sym (zero-add m)) (first_row u v m)
rectangle_le_tri u v (suc n) m =
    le_trans (le_of_eq (ap (λ (x : ℕ). x * sum v m) (sum_front u n) ∙ add-mul (u zero) (sum (shift u) n) (sum v m)))
    (le_trans (add-le-add (mul-le-mul_left (u zero) (sum_mono v m (suc n))) (rectangle_le_tri (shift u) v n m))
    (le_of_eq (ap (λ (k : ℕ). u zero * sum v k + tri (shift u) v (n + m)) (suc-add n m) ∙ sym (tri_front u v (n + m)) ∙ ap (tri u v) (sym (suc-add n m)))))
