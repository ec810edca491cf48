-- Bounds on the exponential series' partial sums at a fraction a / b: `Up a b u v`, every partial sum is at most u / v; `Lo a b u v`, some partial sum is at least u / v.
-- Both multiply as the arguments add. Assumes nothing.
use mathlib.Core.Path.{◌≡◌, refl, sym, ap, ◌∙◌, subst}
use Prim.Native.Nat.{ℕ, zero, suc, ◌+◌, ◌*◌, ◌^◌, ◌≤◌, ◌<◌, suc-le-suc}
use native.Mathlib.Nat.{le_refl, le_trans, le_of_eq, lt_of_not-le, le_dest, add_assoc, add_comm, mul_assoc, mul_left_comm, mul-add, add-le-add, mul-le-mul, mul-le-mul_left, mul-le-mul_right, le-add_right, le-add_left, add-suc, suc-add, zero-mul, suc-mul, add-zero, zero-add, one-mul, mul-one, mul-pos, pow-zero, pow-succ', pow-le-pow_left, le_of_mul-le-mul_right}
use native.Mathlib.Decide.{dec_le}
use native.Mathlib.Omega.{arith}
use Rattle.series.specs.Series.{top, bot}
use Rattle.series.proofs.Product.{sum_le_product, product_le_sum, bot_pos}

pub record Up (a b u v : ℕ) : Type 0 where
  pub bound : (N : ℕ) → top N a b * v ≤ u * bot N b

pub record Lo (a b u v : ℕ) : Type 0 where
  pub terms : ℕ
  pub bound : u * bot terms b ≤ top terms a b * v

-- e^(x + y) ≤ e^x * e^y
pub up_add : {a c b u v u' v' : ℕ} → 0 < b → Up a b u v → Up c b u' v' → Up (a + c) b (u * u') (v * v')
up_add {a} {c} {b} {u} {v} {u'} {v'} h p q = record { bound = λ N. le_of_mul-le-mul_right {k = bot N b} (omega (arith, mul-le-mul_right (v * v') (sum_le_product a c b N h), mul-le-mul (p.bound N) (q.bound N))) (bot_pos N b h) }

-- e^x * e^y ≤ e^(x + y)
pub lo_add : {a c b u v u' v' : ℕ} → 0 < b → Lo a b u v → Lo c b u' v' → Lo (a + c) b (u * u') (v * v')
lo_add {a} {c} {b} {u} {v} {u'} {v'} h p q =
    let n = p.terms in
    let m = q.terms in
    record {
      terms = n + m;
      bound =
          le_of_mul-le-mul_right {k = bot n b * bot m b}
          (omega (arith, mul-le-mul_right (bot (n + m) b) (mul-le-mul p.bound q.bound), mul-le-mul_right (v * v') (product_le_sum a c b n m h)))
          (mul-pos (bot_pos n b h) (bot_pos m b h));
    }

-- x / p ≤ y / q ≤ z / r
pub chain : (x y z p q r : ℕ) → 0 < q → x * q ≤ y * p → y * r ≤ z * q → x * r ≤ z * p
chain x y z p q r h f g = le_of_mul-le-mul_right {k = q} (omega (arith, mul-le-mul_right r f, mul-le-mul_right p g)) h

-- a bound may be loosened
pub up_weaken : {a b u v u' v' : ℕ} → 0 < v → u * v' ≤ u' * v → Up a b u v → Up a b u' v'
up_weaken {a} {b} {u} {v} {u'} {v'} h w p = record { bound = λ N. chain (top N a b) u u' (bot N b) v v' h (p.bound N) w }

pub lo_weaken : {a b u v u' v' : ℕ} → 0 < v → u' * v ≤ u * v' → Lo a b u v → Lo a b u' v'
lo_weaken {a} {b} {u} {v} {u'} {v'} h w p = record { terms = p.terms; bound = chain u' u (top p.terms a b) v' v (bot p.terms b) h w p.bound }

-- a larger argument
pub top_mono : (N a c b : ℕ) → a ≤ c → top N a b ≤ top N c b
unfolding top
top_mono zero a c b h = le_refl 1
top_mono (suc N) a c b h = add-le-add (mul-le-mul_left (suc N * b) (top_mono N a c b h)) (pow-le-pow_left h (suc N))

pub up_mono : {a c b u v : ℕ} → a ≤ c → Up c b u v → Up a b u v
up_mono {a} {c} {b} {u} {v} h p = record { bound = λ N. le_trans (mul-le-mul_right v (top_mono N a c b h)) (p.bound N) }

pub lo_mono : {a c b u v : ℕ} → a ≤ c → Lo a b u v → Lo c b u v
lo_mono {a} {c} {b} {u} {v} h p = record { terms = p.terms; bound = le_trans p.bound (mul-le-mul_right v (top_mono p.terms a c b h)) }

-- ---- powers: e^(k x) and (e^x)^k
-- at the argument 0 each partial sum is 1
pub top_zero : (N b : ℕ) → top N zero b ≡ bot N b
unfolding top bot
top_zero zero b = refl
top_zero (suc N) b = ap (λ (x : ℕ). suc N * b * top N zero b + x) (pow-succ' zero N ∙ zero-mul (zero ^ N)) ∙ add-zero (suc N * b * top N zero b) ∙ ap (λ (x : ℕ). suc N * b * x) (top_zero N b)

pub up_zero : (b : ℕ) → Up zero b 1 1
up_zero b = record { bound = λ N. le_of_eq (mul-one (top N zero b) ∙ top_zero N b ∙ sym (one-mul (bot N b))) }

pub lo_zero : (b : ℕ) → Lo zero b 1 1
lo_zero b = record { terms = zero; bound = le_of_eq (one-mul (bot zero b) ∙ sym (top_zero zero b) ∙ sym (mul-one (top zero zero b))) }

suc_mul' : (k a : ℕ) → suc k * a ≡ a + k * a
suc_mul' k a = suc-mul k a ∙ add_comm (k * a) a

pub up_pow : {a b u v : ℕ} → 0 < b → Up a b u v → (k : ℕ) → Up (k * a) b (u ^ k) (v ^ k)
up_pow {a} {b} {u} {v} h p zero = subst (λ (z : ℕ × ℕ × ℕ). Up z.0 b z.1 z.2) (λ i. (sym (zero-mul a) i, sym (pow-zero u) i, sym (pow-zero v) i)) (up_zero b)
up_pow {a} {b} {u} {v} h p (suc k) = subst (λ (z : ℕ × ℕ × ℕ). Up z.0 b z.1 z.2) (λ i. (sym (suc_mul' k a) i, sym (pow-succ' u k) i, sym (pow-succ' v k) i)) (up_add h p (up_pow h p k))

pub lo_pow : {a b u v : ℕ} → 0 < b → Lo a b u v → (k : ℕ) → Lo (k * a) b (u ^ k) (v ^ k)
lo_pow {a} {b} {u} {v} h p zero = subst (λ (z : ℕ × ℕ × ℕ). Lo z.0 b z.1 z.2) (λ i. (sym (zero-mul a) i, sym (pow-zero u) i, sym (pow-zero v) i)) (lo_zero b)
lo_pow {a} {b} {u} {v} h p (suc k) = subst (λ (z : ℕ × ℕ × ℕ). Lo z.0 b z.1 z.2) (λ i. (sym (suc_mul' k a) i, sym (pow-succ' u k) i, sym (pow-succ' v k) i)) (lo_add h p (lo_pow h p k))

-- ---- a bound on every partial sum from one of them: with its last term doubled, where each later term is at most half the one before
unfoldable pub doubled : ℕ → ℕ → ℕ → ℕ
unfolding top
doubled N a b = top (suc N) a b + a ^ suc N

doubled_step : (N a b : ℕ) → 2 * a ≤ suc (suc N) * b → doubled (suc N) a b ≤ suc (suc N) * b * doubled N a b
unfolding doubled top
doubled_step N a b h =
    le_trans (le_of_eq (add_assoc (suc (suc N) * b * top (suc N) a b) (a ^ suc (suc N)) (a ^ suc (suc N)) ∙ ap (λ (x : ℕ). suc (suc N) * b * top (suc N) a b + x) (twice (a ^ suc (suc N)) ∙ ap (λ (x : ℕ). 2 * x) (pow-succ' a (suc N)) ∙ sym (mul_assoc 2 a (a ^ suc N)))))
    (le_trans (add-le-add (le_refl (suc (suc N) * b * top (suc N) a b)) (mul-le-mul_right (a ^ suc N) h)) (le_of_eq (sym (mul-add (suc (suc N) * b) (top (suc N) a b) (a ^ suc N)))))
  where
    twice : (x : ℕ) → x + x ≡ 2 * x
    twice x = omega arith

-- doubled (n + d) over its denominator is at most doubled n over its
doubled_later : (n d a b : ℕ) → 2 * a ≤ suc (suc n) * b → doubled (d + n) a b * bot (suc n) b ≤ doubled n a b * bot (suc (d + n)) b
unfolding bot
doubled_later n zero a b h = subst (λ (k : ℕ). doubled k a b * bot (suc n) b ≤ doubled n a b * bot (suc k) b) (sym (zero-add n)) (le_refl (doubled n a b * bot (suc n) b))
doubled_later n (suc d) a b h =
    subst (λ (k : ℕ). doubled k a b * bot (suc n) b ≤ doubled n a b * bot (suc k) b) (sym (suc-add d n))
    (le_trans (mul-le-mul_right (bot (suc n) b) (doubled_step (d + n) a b (le_trans h (mul-le-mul_right b (suc-le-suc (suc-le-suc (le-add_left n d)))))))
    (le_trans (le_of_eq (mul_assoc (suc (suc (d + n)) * b) (doubled (d + n) a b) (bot (suc n) b)))
    (le_trans (mul-le-mul_left (suc (suc (d + n)) * b) (doubled_later n d a b h)) (le_of_eq (mul_left_comm (suc (suc (d + n)) * b) (doubled n a b) (bot (suc (d + n)) b))))))

-- more terms
pub top_later : (n d a b : ℕ) → top n a b * bot (d + n) b ≤ top (d + n) a b * bot n b
unfolding top bot
top_later n zero a b = subst (λ (k : ℕ). top n a b * bot k b ≤ top k a b * bot n b) (sym (zero-add n)) (le_refl (top n a b * bot n b))
top_later n (suc d) a b =
    subst (λ (k : ℕ). top n a b * bot k b ≤ top k a b * bot n b) (sym (suc-add d n))
    (le_trans (le_of_eq (mul_left_comm (top n a b) (suc (d + n) * b) (bot (d + n) b)))
    (le_trans (mul-le-mul_left (suc (d + n) * b) (top_later n d a b))
    (le_trans (le_of_eq (sym (mul_assoc (suc (d + n) * b) (top (d + n) a b) (bot n b)))) (mul-le-mul_right (bot n b) (le-add_right (suc (d + n) * b * top (d + n) a b) (a ^ suc (d + n)))))))

top_le_doubled : (n a b : ℕ) → top (suc n) a b ≤ doubled n a b
unfolding doubled
top_le_doubled n a b = le-add_right (top (suc n) a b) (a ^ suc n)

pub up_doubled : (n a b : ℕ) → 0 < b → 2 * a ≤ suc (suc n) * b → Up a b (doubled n a b) (bot (suc n) b)
up_doubled n a b h w = record { bound = λ N. either N (dec_le N (suc n)) }
  where
    either : (N : ℕ) → Dec (N ≤ suc n) → top N a b * bot (suc n) b ≤ doubled n a b * bot N b
    either N (yes l) =
        let d = le_dest l in
        let e : d.0 + N ≡ suc n = add_comm d.0 N ∙ d.1 in
        le_trans (subst (λ (k : ℕ). top N a b * bot k b ≤ top k a b * bot N b) e (top_later N d.0 a b)) (mul-le-mul_right (bot N b) (top_le_doubled n a b))
    either N (no f) =
        let d = le_dest (lt_of_not-le f) in
        let e : suc (d.0 + suc n) ≡ N = sym (add-suc d.0 (suc n)) ∙ add_comm d.0 (suc (suc n)) ∙ d.1 in
        let m = d.0 + suc n in
        subst (λ (k : ℕ). top k a b * bot (suc n) b ≤ doubled n a b * bot k b) e
        (chain (top (suc m) a b) (doubled m a b) (doubled n a b) (bot (suc m) b) (bot (suc m) b) (bot (suc n) b) (bot_pos (suc m) b h)
        (mul-le-mul_right (bot (suc m) b) (top_le_doubled m a b))
        (subst (λ (k : ℕ). doubled k a b * bot (suc n) b ≤ doubled n a b * bot (suc k) b) (suc-add d.0 n ∙ sym (add-suc d.0 n)) (doubled_later n (suc d.0) a b w)))
