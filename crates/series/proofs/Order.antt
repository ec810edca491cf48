-- E grows with its argument; with more terms it grows at arguments above zero and shrinks below. It is positive, 1 at 0, and E(x) E(-x) = 1. Assumes nothing.
use mathlib.Core.Path.{◌≡◌, refl, ap, ◌∙◌, subst}
use Prim.Native.Nat.{ℕ, ◌+◌, ◌*◌, ◌≤◌, ◌<◌, max}
use native.Mathlib.Nat.{mul-pos, mul_comm, le_trans, le_of_eq, zero-lt-suc, mul-le-mul, mul-le-mul_left, mul-le-mul_right, le_of_mul-le-mul_right, le_dest, add_comm}
use native.Mathlib.Omega.{arith}
use Rattle.exact.specs.Fraction.{ℚ, ◌//◌, nat, negq, ◌*q◌, ◌≤q◌, ◌<q◌, ◌≈q◌}
use Rattle.exact.proofs.FractionLaws.{≈_refl, ≈_sym, *_cong, zero_*, neg_cong, neg_mono, ≤_of_≈, ≤_trans, ≤_antisym}
use Rattle.exact.proofs.Rounding.{frac_nonneg}
use Rattle.exact.proofs.StrictOrder.{<_of_≤_not_≈}
use Rattle.series.specs.Series.{E, top, bot}
use Rattle.series.proofs.Product.{bot_pos}
use Rattle.series.proofs.Tail.{one_le}
use Rattle.series.proofs.Bounds.{top_mono, top_later, top_zero}
use Rattle.series.proofs.Quotients.{◌⟫◌, frac_≈, frac_≤, frac_≡, frac_nat, frac_one, frac_reciprocal, cross_≤, above_of, below_of, Sign, above, below, sign_of}
use Rattle.series.proofs.AtFractions.{top_pos, E_above, E_below}

pub sandwich : {x y u v : ℚ} → x ≈q u → y ≈q v → u ≤q v → x ≤q y
sandwich e f h = ≤_trans (≤_of_≈ e) (≤_trans h (≤_of_≈ (≈_sym f)))

pub neg_neg : (x : ℚ) → negq (negq x) ≈q x
unfolding negq
neg_neg x = ≈_refl x

-- -u ≤ -v
flip : {u v : ℚ} → negq u ≤q negq v → v ≤q u
flip {u} {v} h = ≤_trans (≤_of_≈ (≈_sym (neg_neg v))) (≤_trans (neg_mono h) (≤_of_≈ (neg_neg u)))

-- a / b ≤ -c / b only where both are 0
only_zero : (a c b : ℕ) → a // b ≤q negq (c // b) → (a ≡ 0) × (c ≡ 0)
unfolding ◌//◌ negq
only_zero a c b h = let k = le_of_mul-le-mul_right {m = a + c} {n = 0} {k = max b 1} (let l = h.le in omega arith) (omega arith) in (omega arith, omega arith)

module _ (N a c b : ℕ) (B : 0 < b) {x y : ℚ} where
  mono_above : x ≈q a // b → y ≈q c // b → a ≤ c → E N x ≤q E N y
  mono_above e f l = sandwich (E_above N a b B e) (E_above N c b B f) (frac_≤ _ _ (bot_pos N b B) (bot_pos N b B) (mul-le-mul_right (bot N b) (top_mono N a c b l)))

  mono_below : x ≈q negq (a // b) → y ≈q negq (c // b) → c ≤ a → E N x ≤q E N y
  mono_below e f l = sandwich (E_below N a b B e) (E_below N c b B f) (frac_≤ _ _ (top_pos N a b B) (top_pos N c b B) (mul-le-mul_left (bot N b) (top_mono N c a b l)))

  mono_through : x ≈q negq (a // b) → y ≈q c // b → E N x ≤q E N y
  mono_through e f = sandwich (E_below N a b B e) (E_above N c b B f) (frac_≤ _ _ (top_pos N a b B) (bot_pos N b B) (mul-le-mul (one_le N c b) (one_le N a b)))

pub E_mono : (N : ℕ) {x y : ℚ} → x ≤q y → E N x ≤q E N y
E_mono N {x} {y} h = go (sign_of x y.d y.d_pos) (subst (λ (b : ℕ). Sign y b) (mul_comm y.d x.d) (sign_of y x.d x.d_pos))
  where
    b : ℕ
    b = x.d * y.d

    B : 0 < x.d * y.d
    B = mul-pos x.d_pos y.d_pos

    between : {u v : ℚ} → x ≈q u → y ≈q v → u ≤q v
    between e f = ≤_trans (≤_of_≈ (≈_sym e)) (≤_trans h (≤_of_≈ f))

    tops : (a c : ℕ) → a // (x.d * y.d) ≤q c // (x.d * y.d) → a ≤ c
    tops a c l = le_of_mul-le-mul_right (cross_≤ a c B B l) B

    go : Sign x (x.d * y.d) → Sign y (x.d * y.d) → E N x ≤q E N y
    go (above a e) (above c f) = mono_above N a c (x.d * y.d) B e f (tops a c (between e f))
    go (below a e) (below c f) = mono_below N a c (x.d * y.d) B e f (tops c a (flip (between e f)))
    go (below a e) (above c f) = mono_through N a c (x.d * y.d) B e f
    go (above a e) (below c f) =
        let z = only_zero a c (x.d * y.d) (between e f) in
        sandwich (E_above N a (x.d * y.d) B e) (E_below N c (x.d * y.d) B f)
        (≤_of_≈ (frac_≈ _ _ (bot_pos N (x.d * y.d) B) (top_pos N c (x.d * y.d) B) (equal a c z.0 z.1)))
      where
        at_zero : (a : ℕ) → a ≡ 0 → top N a (x.d * y.d) ≡ bot N (x.d * y.d)
        at_zero a z = ap (λ (t : ℕ). top N t (x.d * y.d)) z ∙ top_zero N (x.d * y.d)

        equal : (a c : ℕ) → a ≡ 0 → c ≡ 0 → top N a (x.d * y.d) * top N c (x.d * y.d) ≡ bot N (x.d * y.d) * bot N (x.d * y.d)
        equal a c p q = (λ i. at_zero a p i * at_zero c q i)

-- E depends on the number alone
pub E_cong : (N : ℕ) {x y : ℚ} → x ≈q y → E N x ≈q E N y
E_cong N e = ≤_antisym (E_mono N (≤_of_≈ e)) (E_mono N (≤_of_≈ (≈_sym e)))

-- ---- more terms
later : (N M : ℕ) (a b : ℕ) → N ≤ M → top N a b * bot M b ≤ top M a b * bot N b
later N M a b l = let d = le_dest l in subst (λ (k : ℕ). top N a b * bot k b ≤ top k a b * bot N b) (add_comm d.0 N ∙ d.1) (top_later N d.0 a b)

pub E_terms_above : {N M : ℕ} {x : ℚ} → N ≤ M → nat 0 ≤q x → E N x ≤q E M x
E_terms_above {N} {M} {x} l h =
    let B = mul-pos x.d_pos (zero-lt-suc 0) in
    let r = above_of x 1 (zero-lt-suc 0) h in
    sandwich (E_above N r.0 (x.d * 1) B r.1) (E_above M r.0 (x.d * 1) B r.1)
    (frac_≤ _ _ (bot_pos N (x.d * 1) B) (bot_pos M (x.d * 1) B) (later N M r.0 (x.d * 1) l))

pub E_terms_below : {N M : ℕ} {x : ℚ} → N ≤ M → x ≤q nat 0 → E M x ≤q E N x
E_terms_below {N} {M} {x} l h =
    let B = mul-pos x.d_pos (zero-lt-suc 0) in
    let r = below_of x 1 (zero-lt-suc 0) h in
    sandwich (E_below M r.0 (x.d * 1) B r.1) (E_below N r.0 (x.d * 1) B r.1)
    (frac_≤ _ _ (top_pos M r.0 (x.d * 1) B) (top_pos N r.0 (x.d * 1) B)
    (le_trans (le_of_eq (mul_comm (bot M (x.d * 1)) (top N r.0 (x.d * 1)))) (le_trans (later N M r.0 (x.d * 1) l) (le_of_eq (mul_comm (top M r.0 (x.d * 1)) (bot N (x.d * 1)))))))

-- ---- at 0, and the reciprocal
pub E_zero : (N : ℕ) → E N (nat 0) ≈q nat 1
E_zero N = E_above N 0 1 (zero-lt-suc 0) zero_is ⟫ frac_≡ (top_zero N 1) refl ⟫ frac_one (bot N 1) (bot_pos N 1 (zero-lt-suc 0))
  where
    zero_is : nat 0 ≈q 0 // 1
    zero_is = ≈_sym (frac_nat 0)

pub E_reciprocal : (N : ℕ) (x : ℚ) → E N x *q E N (negq x) ≈q nat 1
E_reciprocal N x = go (sign_of x 1 (zero-lt-suc 0))
  where
    B : 0 < x.d * 1
    B = mul-pos x.d_pos (zero-lt-suc 0)

    go : Sign x (x.d * 1) → E N x *q E N (negq x) ≈q nat 1
    go (above a e) = *_cong (E_above N a (x.d * 1) B e) (E_below N a (x.d * 1) B (neg_cong e)) ⟫ frac_reciprocal (top N a (x.d * 1)) (bot N (x.d * 1)) (top_pos N a (x.d * 1) B) (bot_pos N (x.d * 1) B)
    go (below a e) =
        *_cong (E_below N a (x.d * 1) B e) (E_above N a (x.d * 1) B (neg_cong e ⟫ neg_neg (a // (x.d * 1))))
        ⟫ frac_reciprocal (bot N (x.d * 1)) (top N a (x.d * 1)) (bot_pos N (x.d * 1) B) (top_pos N a (x.d * 1) B)

pub E_at_least_one : (N : ℕ) {x : ℚ} → nat 0 ≤q x → nat 1 ≤q E N x
E_at_least_one N h = ≤_trans (≤_of_≈ (≈_sym (E_zero N))) (E_mono N h)

pub E_at_most_one : (N : ℕ) {x : ℚ} → x ≤q nat 0 → E N x ≤q nat 1
E_at_most_one N h = ≤_trans (E_mono N h) (≤_of_≈ (E_zero N))

-- ---- positive
pub E_nonneg : (N : ℕ) (x : ℚ) → nat 0 ≤q E N x
E_nonneg N x = go (sign_of x 1 (zero-lt-suc 0))
  where
    B : 0 < x.d * 1
    B = mul-pos x.d_pos (zero-lt-suc 0)

    go : Sign x (x.d * 1) → nat 0 ≤q E N x
    go (above a e) = ≤_trans (frac_nonneg (top N a (x.d * 1)) (bot N (x.d * 1))) (≤_of_≈ (≈_sym (E_above N a (x.d * 1) B e)))
    go (below a e) = ≤_trans (frac_nonneg (bot N (x.d * 1)) (top N a (x.d * 1))) (≤_of_≈ (≈_sym (E_below N a (x.d * 1) B e)))

pub E_not_zero : (N : ℕ) (x : ℚ) → ¬ (E N x ≈q nat 0)
unfolding nat
E_not_zero N x z = let h = (≈_sym (E_reciprocal N x) ⟫ *_cong z (≈_refl (E N (negq x))) ⟫ zero_* (E N (negq x))).eq in omega arith

pub E_pos : (N : ℕ) (x : ℚ) → nat 0 <q E N x
E_pos N x = <_of_≤_not_≈ (E_nonneg N x) (λ (z : nat 0 ≈q E N x). E_not_zero N x (≈_sym z))
