-- A prover for the exact fractions: `linq` proves L ≤ R from hypotheses a ≤ b, each taken so many times, by multiplying everything out.
-- It knows that the fractions are a commutative ring in order, and nothing of what a variable stands for: a product of two facts is handed to it as one more.
use Prim.Native.Nat.{ℕ, zero, suc, ◌*◌, ◌≤◌, ◌<◌, max, zero-le}
use mathlib.Core.Path.{◌≡◌, subst}
use mathlib.Core.List.{List, [], ◌∷◌}
use mathlib.Core.Bool.{Bool, ◌&&◌}
use native.Mathlib.Nat.{mul-pos, zero-lt-suc}
use native.Mathlib.Omega.{arith}
use lib.Dec.{T, leb, eqb, leb→le, eqb→eq}
use Rattle.exact.specs.Fraction.{ℚ, ◌//◌, nat, ◌+q◌, negq, ◌-q◌, ◌*q◌, ◌≤q◌, ◌≈q◌, one_or_more}
use Rattle.exact.proofs.NatProver.{Expr, ν, #, ◌⊹◌, ◌⋆◌, ◌↑◌, S, Poly, k, h, plus, scale, under, times, var, power, norm, and_l, and_r}
use Rattle.exact.proofs.FractionLaws.{≈_refl, ≈_sym, ≈_trans, +_comm, +_assoc, *_comm, *_assoc, *-+, +_cong, *_cong, zero_+, zero_*, one_*, nat_+, nat_*, neg_+, frac_is, ≤_of_≈, ≤_refl, ≤_trans, +_mono, +_cancel, nat_cancel, *_mono, ≤_antisym}

infixr 30 ◌⟫◌
◌⟫◌ : {x y z : ℚ} → x ≈q y → y ≈q z → x ≈q z
◌⟫◌ e f = ≈_trans e f

-- ---- stage 1: sums and products
abbrev pub nthq : List ℚ → ℕ → ℚ
nthq [] i = nat 0
nthq (x ∷ ρ) zero = x
nthq (x ∷ ρ) (suc i) = nthq ρ i

unfoldable pub powq : ℚ → ℕ → ℚ
powq x zero = nat 1
powq x (suc n) = powq x n *q x

abbrev val_e : Expr → List ℚ → ℚ
val_e (ν i) ρ = nthq ρ i
val_e (# c) ρ = nat c
val_e (a ⊹ b) ρ = val_e a ρ +q val_e b ρ
val_e (a ⋆ b) ρ = val_e a ρ *q val_e b ρ
val_e (a ↑ n) ρ = powq (val_e a ρ) n
val_e (S a) ρ = nat 1 +q val_e a ρ

abbrev evq : Poly → List ℚ → ℚ
evq (k c) ρ = nat c
evq (h p q) [] = evq p []
evq (h p q) (x ∷ ρ) = evq p ρ +q x *q evq q (x ∷ ρ)

+_zero : (x : ℚ) → x +q nat 0 ≈q x
+_zero x = +_comm x (nat 0) ⟫ zero_+ x

*_zero : (x : ℚ) → x *q nat 0 ≈q nat 0
*_zero x = *_comm x (nat 0) ⟫ zero_* x

swap4 : (p q r s : ℚ) → (p +q q) +q (r +q s) ≈q (p +q r) +q (q +q s)
swap4 p q r s =
    +_assoc p q (r +q s)
    ⟫ +_cong (≈_refl p) (≈_sym (+_assoc q r s) ⟫ +_cong (+_comm q r) (≈_refl s) ⟫ +_assoc r q s)
    ⟫ ≈_sym (+_assoc p r (q +q s))

tidy₁ : (c x s t : ℚ) → c *q s +q x *q (c *q t) ≈q c *q (s +q x *q t)
tidy₁ c x s t = +_cong (≈_refl (c *q s)) (≈_sym (*_assoc x c t) ⟫ *_cong (*_comm x c) (≈_refl t) ⟫ *_assoc c x t) ⟫ ≈_sym (*-+ c s (x *q t))

tidy₂ : (p x q r : ℚ) → p *q r +q x *q (q *q r) ≈q (p +q x *q q) *q r
tidy₂ p x q r = +_cong (*_comm p r) (≈_sym (*_assoc x q r) ⟫ *_comm (x *q q) r) ⟫ ≈_sym (*-+ r p (x *q q)) ⟫ *_comm r (p +q x *q q)

evq_plus : (p q : Poly) (ρ : List ℚ) → evq (plus p q) ρ ≈q evq p ρ +q evq q ρ
evq_plus (k a) (k b) ρ = nat_+ a b
evq_plus (k a) (h p q) [] = evq_plus (k a) p []
evq_plus (k a) (h p q) (x ∷ ρ) = +_cong (evq_plus (k a) p ρ) (≈_refl (x *q evq q (x ∷ ρ))) ⟫ +_assoc (nat a) (evq p ρ) (x *q evq q (x ∷ ρ))
evq_plus (h p q) (k b) [] = evq_plus p (k b) []
evq_plus (h p q) (k b) (x ∷ ρ) =
    +_cong (evq_plus p (k b) ρ) (≈_refl (x *q evq q (x ∷ ρ)))
    ⟫ +_cong (≈_refl (evq p ρ +q nat b)) (≈_sym (+_zero (x *q evq q (x ∷ ρ))))
    ⟫ swap4 (evq p ρ) (nat b) (x *q evq q (x ∷ ρ)) (nat 0)
    ⟫ +_cong (≈_refl (evq p ρ +q x *q evq q (x ∷ ρ))) (+_zero (nat b))
evq_plus (h p q) (h p' q') [] = evq_plus p p' []
evq_plus (h p q) (h p' q') (x ∷ ρ) =
    +_cong (evq_plus p p' ρ) (*_cong (≈_refl x) (evq_plus q q' (x ∷ ρ)) ⟫ *-+ x (evq q (x ∷ ρ)) (evq q' (x ∷ ρ)))
    ⟫ swap4 (evq p ρ) (evq p' ρ) (x *q evq q (x ∷ ρ)) (x *q evq q' (x ∷ ρ))

evq_scale : (c : ℕ) (p : Poly) (ρ : List ℚ) → evq (scale c p) ρ ≈q nat c *q evq p ρ
evq_scale zero r ρ = ≈_sym (zero_* (evq r ρ))
evq_scale (suc c) (k a) ρ = nat_* (suc c) a
evq_scale (suc c) (h p q) [] = evq_scale (suc c) p []
evq_scale (suc c) (h p q) (x ∷ ρ) = +_cong (evq_scale (suc c) p ρ) (*_cong (≈_refl x) (evq_scale (suc c) q (x ∷ ρ))) ⟫ tidy₁ (nat (suc c)) x (evq p ρ) (evq q (x ∷ ρ))

evq_under_nil : (f : Poly → Poly) (n : ℚ) → ((r : Poly) → evq (f r) [] ≈q n *q evq r []) → (r : Poly) → evq (under f r) [] ≈q n *q evq r []
evq_under_nil f n e (k b) = e (k b)
evq_under_nil f n e (h a b) = e a

evq_under : (f : Poly → Poly) (n x : ℚ) (ρ : List ℚ) → ((r : Poly) → evq (f r) ρ ≈q n *q evq r ρ) → (r : Poly) → evq (under f r) (x ∷ ρ) ≈q n *q evq r (x ∷ ρ)
evq_under f n x ρ e (k b) = +_cong (e (k b)) (*_zero x) ⟫ +_zero (n *q nat b)
evq_under f n x ρ e (h a b) = +_cong (e a) (*_cong (≈_refl x) (evq_under f n x ρ e b)) ⟫ tidy₁ n x (evq a ρ) (evq b (x ∷ ρ))

evq_times : (p r : Poly) (ρ : List ℚ) → evq (times p r) ρ ≈q evq p ρ *q evq r ρ
evq_times (k a) r ρ = evq_scale a r ρ
evq_times (h p q) r [] =
    evq_plus (under (times p) r) (h (k 0) (times q r)) [] ⟫ +_zero (evq (under (times p) r) []) ⟫ evq_under_nil (times p) (evq p []) (λ s. evq_times p s []) r
evq_times (h p q) r (x ∷ ρ) =
    evq_plus (under (times p) r) (h (k 0) (times q r)) (x ∷ ρ)
    ⟫ +_cong (evq_under (times p) (evq p ρ) x ρ (λ s. evq_times p s ρ) r) (zero_+ (x *q evq (times q r) (x ∷ ρ)) ⟫ *_cong (≈_refl x) (evq_times q r (x ∷ ρ)))
    ⟫ tidy₂ (evq p ρ) x (evq q (x ∷ ρ)) (evq r (x ∷ ρ))

evq_var : (i : ℕ) (ρ : List ℚ) → evq (var i) ρ ≈q nthq ρ i
evq_var zero [] = ≈_refl (nat 0)
evq_var zero (x ∷ ρ) = zero_+ (x *q nat 1) ⟫ *_comm x (nat 1) ⟫ one_* x
evq_var (suc i) [] = at_nil i
  where
    at_nil : (i : ℕ) → evq (var i) [] ≈q nat 0
    at_nil zero = ≈_refl (nat 0)
    at_nil (suc i) = at_nil i
evq_var (suc i) (x ∷ ρ) = +_cong (evq_var i ρ) (*_zero x) ⟫ +_zero (nthq ρ i)

evq_power : (p : Poly) (n : ℕ) (ρ : List ℚ) → evq (power p n) ρ ≈q powq (evq p ρ) n
unfolding powq
evq_power p zero ρ = ≈_refl (nat 1)
evq_power p (suc n) ρ = evq_times (power p n) p ρ ⟫ *_cong (evq_power p n ρ) (≈_refl (evq p ρ))

powq_cong : {x y : ℚ} (n : ℕ) → x ≈q y → powq x n ≈q powq y n
unfolding powq
powq_cong zero e = ≈_refl (nat 1)
powq_cong (suc n) e = *_cong (powq_cong n e) e

sound_e : (e : Expr) (ρ : List ℚ) → evq (norm e) ρ ≈q val_e e ρ
sound_e (ν i) ρ = evq_var i ρ
sound_e (# c) ρ = ≈_refl (nat c)
sound_e (a ⊹ b) ρ = evq_plus (norm a) (norm b) ρ ⟫ +_cong (sound_e a ρ) (sound_e b ρ)
sound_e (a ⋆ b) ρ = evq_times (norm a) (norm b) ρ ⟫ *_cong (sound_e a ρ) (sound_e b ρ)
sound_e (a ↑ n) ρ = evq_power (norm a) n ρ ⟫ powq_cong n (sound_e a ρ)
sound_e (S a) ρ = evq_plus (k 1) (norm a) ρ ⟫ +_cong (≈_refl (nat 1)) (sound_e a ρ)

-- the same polynomial; and one that is more by a constant
abbrev same : Poly → Poly → Bool
same (k a) (k b) = eqb a b
same (k a) (h p q) = same (k a) p && same (k 0) q
same (h p q) (k b) = same p (k b) && same q (k 0)
same (h p q) (h p' q') = same p p' && same q q'

abbrev lead : Poly → Poly → Bool
lead (k a) (k b) = leb a b
lead (k a) (h p q) = lead (k a) p && same (k 0) q
lead (h p q) (k b) = lead p (k b) && same q (k 0)
lead (h p q) (h p' q') = lead p p' && same q q'

pub nat_≡ : {a b : ℕ} → a ≡ b → nat a ≈q nat b
nat_≡ {a} e = subst (λ b. nat a ≈q nat b) e (≈_refl (nat a))

same_ev : (p q : Poly) (ρ : List ℚ) → T (same p q) → evq p ρ ≈q evq q ρ
same_ev (k a) (k b) ρ t = nat_≡ (eqb→eq a b t)
same_ev (k a) (h p q) [] t = same_ev (k a) p [] (and_l (same (k a) p) (same (k 0) q) t)
same_ev (k a) (h p q) (x ∷ ρ) t =
    ≈_sym (+_zero (nat a)) ⟫ +_cong (same_ev (k a) p ρ (and_l (same (k a) p) (same (k 0) q) t)) (≈_sym (*_zero x) ⟫ *_cong (≈_refl x) (same_ev (k 0) q (x ∷ ρ) (and_r (same (k a) p) (same (k 0) q) t)))
same_ev (h p q) (k b) [] t = same_ev p (k b) [] (and_l (same p (k b)) (same q (k 0)) t)
same_ev (h p q) (k b) (x ∷ ρ) t =
    +_cong (same_ev p (k b) ρ (and_l (same p (k b)) (same q (k 0)) t)) (*_cong (≈_refl x) (same_ev q (k 0) (x ∷ ρ) (and_r (same p (k b)) (same q (k 0)) t)) ⟫ *_zero x) ⟫ +_zero (nat b)
same_ev (h p q) (h p' q') [] t = same_ev p p' [] (and_l (same p p') (same q q') t)
same_ev (h p q) (h p' q') (x ∷ ρ) t = +_cong (same_ev p p' ρ (and_l (same p p') (same q q') t)) (*_cong (≈_refl x) (same_ev q q' (x ∷ ρ) (and_r (same p p') (same q q') t)))

pub nat_≤ : {a b : ℕ} → a ≤ b → nat a ≤q nat b
unfolding nat
nat_≤ e = record { le = omega arith }

lead_ev : (p q : Poly) (ρ : List ℚ) → T (lead p q) → evq p ρ ≤q evq q ρ
lead_ev (k a) (k b) ρ t = nat_≤ (leb→le a b t)
lead_ev (k a) (h p q) [] t = lead_ev (k a) p [] (and_l (lead (k a) p) (same (k 0) q) t)
lead_ev (k a) (h p q) (x ∷ ρ) t =
    ≤_trans (≤_of_≈ (≈_sym (+_zero (nat a)))) (+_mono (lead_ev (k a) p ρ (and_l (lead (k a) p) (same (k 0) q) t)) (≤_of_≈ (≈_sym (*_zero x) ⟫ *_cong (≈_refl x) (same_ev (k 0) q (x ∷ ρ) (and_r (lead (k a) p) (same (k 0) q) t)))))
lead_ev (h p q) (k b) [] t = lead_ev p (k b) [] (and_l (lead p (k b)) (same q (k 0)) t)
lead_ev (h p q) (k b) (x ∷ ρ) t =
    ≤_trans (+_mono (lead_ev p (k b) ρ (and_l (lead p (k b)) (same q (k 0)) t)) (≤_of_≈ (*_cong (≈_refl x) (same_ev q (k 0) (x ∷ ρ) (and_r (lead p (k b)) (same q (k 0)) t)) ⟫ *_zero x))) (≤_of_≈ (+_zero (nat b)))
lead_ev (h p q) (h p' q') [] t = lead_ev p p' [] (and_l (lead p p') (same q q') t)
lead_ev (h p q) (h p' q') (x ∷ ρ) t = +_mono (lead_ev p p' ρ (and_l (lead p p') (same q q') t)) (≤_of_≈ (*_cong (≈_refl x) (same_ev q q' (x ∷ ρ) (and_r (lead p p') (same q q') t))))

ringq : (ρ : List ℚ) (a b : Expr) → T (same (norm a) (norm b)) → val_e a ρ ≈q val_e b ρ
ringq ρ a b t = ≈_sym (sound_e a ρ) ⟫ same_ev (norm a) (norm b) ρ t ⟫ sound_e b ρ

-- ---- stage 2: signs and constant fractions
infixl 6 ◌⊞◌ ◌⊟◌
infixl 7 ◌⊠◌
infix 8 ◌÷◌
pub data QE : Type 0 where
  qv : ℕ → QE
  ## : ℕ → QE
  ◌÷◌ : ℕ → ℕ → QE
  ◌⊞◌ ◌⊟◌ ◌⊠◌ : QE → QE → QE
  ⊝ : QE → QE

abbrev pub valq : QE → List ℚ → ℚ
valq (qv i) ρ = nthq ρ i
valq (## n) ρ = nat n
valq (a ÷ b) ρ = a // b
valq (a ⊞ b) ρ = valq a ρ +q valq b ρ
valq (a ⊟ b) ρ = valq a ρ -q valq b ρ
valq (a ⊠ b) ρ = valq a ρ *q valq b ρ
valq (⊝ a) ρ = negq (valq a ρ)

-- (pp - pn) / dd
pub record Form : Type 0 where
  pub pp : Poly
  pub pn : Poly
  pub dd : ℕ

abbrev pub add_form : Form → Form → Form
add_form f g = record { pp = plus (scale g.dd f.pp) (scale f.dd g.pp); pn = plus (scale g.dd f.pn) (scale f.dd g.pn); dd = f.dd * g.dd }

abbrev pub neg_form : Form → Form
neg_form f = record { pp = f.pn; pn = f.pp; dd = f.dd }

abbrev pub mul_form : Form → Form → Form
mul_form f g = record { pp = plus (times f.pp g.pp) (times f.pn g.pn); pn = plus (times f.pp g.pn) (times f.pn g.pp); dd = f.dd * g.dd }

abbrev pub form : QE → Form
form (qv i) = record { pp = var i; pn = k 0; dd = 1 }
form (## n) = record { pp = k n; pn = k 0; dd = 1 }
form (a ÷ b) = record { pp = k a; pn = k 0; dd = max b 1 }
form (a ⊞ b) = add_form (form a) (form b)
form (a ⊟ b) = add_form (form a) (neg_form (form b))
form (a ⊠ b) = mul_form (form a) (form b)
form (⊝ a) = neg_form (form a)

abbrev Is : Form → ℚ → List ℚ → Type 0
Is f z ρ = nat f.dd *q z +q evq f.pn ρ ≈q evq f.pp ρ

dd_pos : (e : QE) → 0 < (form e).dd
dd_pos (qv i) = zero-lt-suc 0
dd_pos (## n) = zero-lt-suc 0
dd_pos (a ÷ b) = one_or_more b
dd_pos (a ⊞ b) = mul-pos (dd_pos a) (dd_pos b)
dd_pos (a ⊟ b) = mul-pos (dd_pos a) (dd_pos b)
dd_pos (a ⊠ b) = mul-pos (dd_pos a) (dd_pos b)
dd_pos (⊝ a) = dd_pos a

-- evq of a sum of two multiples
evq_mix : (c d : ℕ) (p q : Poly) (ρ : List ℚ) → evq (plus (scale c p) (scale d q)) ρ ≈q nat c *q evq p ρ +q nat d *q evq q ρ
evq_mix c d p q ρ = evq_plus (scale c p) (scale d q) ρ ⟫ +_cong (evq_scale c p ρ) (evq_scale d q ρ)

evq_two : (p q r s : Poly) (ρ : List ℚ) → evq (plus (times p q) (times r s)) ρ ≈q evq p ρ *q evq q ρ +q evq r ρ *q evq s ρ
evq_two p q r s ρ = evq_plus (times p q) (times r s) ρ ⟫ +_cong (evq_times p q ρ) (evq_times r s ρ)

add_is : (f g : Form) (z w : ℚ) (ρ : List ℚ) → Is f z ρ → Is g w ρ → Is (add_form f g) (z +q w) ρ
add_is f g z w ρ F G =
    let D = nat f.dd in let E = nat g.dd in let N = evq f.pn ρ in let M = evq g.pn ρ in
    +_cong (*_cong (nat_* f.dd g.dd) (≈_refl (z +q w))) (evq_mix g.dd f.dd f.pn g.pn ρ)
    ⟫ ringq (D ∷ E ∷ N ∷ M ∷ z ∷ w ∷ []) (ν 0 ⋆ ν 1 ⋆ (ν 4 ⊹ ν 5) ⊹ (ν 1 ⋆ ν 2 ⊹ ν 0 ⋆ ν 3)) (ν 1 ⋆ (ν 0 ⋆ ν 4 ⊹ ν 2) ⊹ ν 0 ⋆ (ν 1 ⋆ ν 5 ⊹ ν 3)) tt
    ⟫ +_cong (*_cong (≈_refl E) F) (*_cong (≈_refl D) G)
    ⟫ ≈_sym (evq_mix g.dd f.dd f.pp g.pp ρ)

neg_* : (a b : ℚ) → a *q negq b ≈q negq (a *q b)
unfolding negq ◌*q◌
neg_* a b = ≈_refl (negq (a *q b))

neg_is : (f : Form) (z : ℚ) (ρ : List ℚ) → Is f z ρ → Is (neg_form f) (negq z) ρ
neg_is f z ρ F =
    let A = nat f.dd *q z in let N = evq f.pn ρ in
    +_cong (neg_* (nat f.dd) z) (≈_sym F) ⟫ ≈_sym (+_assoc (negq A) A N) ⟫ +_cong (neg_+ A) (≈_refl N) ⟫ zero_+ N

mul_is : (f g : Form) (z w : ℚ) (ρ : List ℚ) → Is f z ρ → Is g w ρ → Is (mul_form f g) (z *q w) ρ
mul_is f g z w ρ F G =
    let D = nat f.dd in let E = nat g.dd in let N = evq f.pn ρ in let M = evq g.pn ρ in
    +_cong (*_cong (nat_* f.dd g.dd) (≈_refl (z *q w))) (evq_two f.pp g.pn f.pn g.pp ρ ⟫ +_cong (*_cong (≈_sym F) (≈_refl M)) (*_cong (≈_refl N) (≈_sym G)))
    ⟫ ringq (D ∷ E ∷ N ∷ M ∷ z ∷ w ∷ []) (ν 0 ⋆ ν 1 ⋆ (ν 4 ⋆ ν 5) ⊹ ((ν 0 ⋆ ν 4 ⊹ ν 2) ⋆ ν 3 ⊹ ν 2 ⋆ (ν 1 ⋆ ν 5 ⊹ ν 3))) ((ν 0 ⋆ ν 4 ⊹ ν 2) ⋆ (ν 1 ⋆ ν 5 ⊹ ν 3) ⊹ ν 2 ⋆ ν 3) tt
    ⟫ +_cong (*_cong F G) (≈_refl (N *q M))
    ⟫ ≈_sym (evq_two f.pp g.pp f.pn g.pn ρ)

sub_as : (z w : ℚ) → z -q w ≈q z +q negq w
unfolding ◌-q◌
sub_as z w = ≈_refl (z +q negq w)

sound_q : (e : QE) (ρ : List ℚ) → Is (form e) (valq e ρ) ρ
sound_q (qv i) ρ = +_cong (one_* (nthq ρ i)) (≈_refl (nat 0)) ⟫ +_zero (nthq ρ i) ⟫ ≈_sym (evq_var i ρ)
sound_q (## n) ρ = +_zero (nat 1 *q nat n) ⟫ one_* (nat n)
sound_q (a ÷ b) ρ = +_zero (nat (max b 1) *q (a // b)) ⟫ frac_is a b
sound_q (a ⊞ b) ρ = add_is (form a) (form b) (valq a ρ) (valq b ρ) ρ (sound_q a ρ) (sound_q b ρ)
sound_q (a ⊟ b) ρ =
    +_cong (*_cong (≈_refl (nat ((form a).dd * (form b).dd))) (sub_as (valq a ρ) (valq b ρ))) (≈_refl (evq (add_form (form a) (neg_form (form b))).pn ρ))
    ⟫ add_is (form a) (neg_form (form b)) (valq a ρ) (negq (valq b ρ)) ρ (sound_q a ρ) (neg_is (form b) (valq b ρ) ρ (sound_q b ρ))
sound_q (a ⊠ b) ρ = mul_is (form a) (form b) (valq a ρ) (valq b ρ) ρ (sound_q a ρ) (sound_q b ρ)
sound_q (⊝ a) ρ = neg_is (form a) (valq a ρ) ρ (sound_q a ρ)

-- a is less than b by a constant, or equal
abbrev pub formless : Form → Form → Bool
formless f g = lead (plus (scale g.dd f.pp) (scale f.dd g.pn)) (plus (scale f.dd g.pp) (scale g.dd f.pn))

-- E * (D z + N) + D * M ≤ D * (E w + M) + E * N, so D E z ≤ D E w
pub leq : (ρ : List ℚ) (a b : QE) → T (formless (form a) (form b)) → valq a ρ ≤q valq b ρ
leq ρ a b t =
    let f = form a in let g = form b in let z = valq a ρ in let w = valq b ρ in
    let D = nat f.dd in let E = nat g.dd in let N = evq f.pn ρ in let M = evq g.pn ρ in
    let lo : E *q (D *q z +q N) +q D *q M ≤q D *q (E *q w +q M) +q E *q N =
    ≤_trans (≤_of_≈ (+_cong (*_cong (≈_refl E) (sound_q a ρ)) (≈_refl (D *q M)) ⟫ ≈_sym (evq_mix g.dd f.dd f.pp g.pn ρ)))
    (≤_trans (lead_ev (plus (scale g.dd f.pp) (scale f.dd g.pn)) (plus (scale f.dd g.pp) (scale g.dd f.pn)) ρ t)
    (≤_of_≈ (evq_mix f.dd g.dd g.pp f.pn ρ ⟫ +_cong (*_cong (≈_refl D) (≈_sym (sound_q b ρ))) (≈_refl (E *q N))))) in
    nat_cancel (f.dd * g.dd) (mul-pos (dd_pos a) (dd_pos b))
    (+_cancel (E *q N +q D *q M)
    (≤_trans (≤_of_≈ (+_cong (≈_refl (E *q N +q D *q M)) (*_cong (nat_* f.dd g.dd) (≈_refl z)) ⟫ ringq (D ∷ E ∷ N ∷ M ∷ z ∷ []) (ν 1 ⋆ ν 2 ⊹ ν 0 ⋆ ν 3 ⊹ ν 0 ⋆ ν 1 ⋆ ν 4) (ν 1 ⋆ (ν 0 ⋆ ν 4 ⊹ ν 2) ⊹ ν 0 ⋆ ν 3) tt))
    (≤_trans lo
    (≤_of_≈ (≈_sym (+_cong (≈_refl (E *q N +q D *q M)) (*_cong (nat_* f.dd g.dd) (≈_refl w)) ⟫ ringq (D ∷ E ∷ N ∷ M ∷ w ∷ []) (ν 1 ⋆ ν 2 ⊹ ν 0 ⋆ ν 3 ⊹ ν 0 ⋆ ν 1 ⋆ ν 4) (ν 0 ⋆ (ν 1 ⋆ ν 4 ⊹ ν 3) ⊹ ν 1 ⋆ ν 2) tt))))))

pub req : (ρ : List ℚ) (a b : QE) → T (formless (form a) (form b)) → T (formless (form b) (form a)) → valq a ρ ≈q valq b ρ
req ρ a b t u = ≤_antisym (leq ρ a b t) (leq ρ b a u)

-- ---- from hypotheses, each taken so many times
infix 4 ◌⊑◌by◌
pub data QH : Type 0 where
  ◌⊑◌by◌ : QE → QE → ℕ → QH

abbrev pub QMeans : List ℚ → QH → Type 0
QMeans ρ (a ⊑ b by c) = valq a ρ ≤q valq b ρ

abbrev pub qlows : List QH → QE
qlows [] = ## 0
qlows ((a ⊑ b by c) ∷ hs) = ## c ⊠ a ⊞ qlows hs

abbrev pub qhighs : List QH → QE
qhighs [] = ## 0
qhighs ((a ⊑ b by c) ∷ hs) = ## c ⊠ b ⊞ qhighs hs

abbrev pub QImp : List ℚ → List QH → Type 0 → Type 0
QImp ρ [] G = G
QImp ρ (y ∷ hs) G = QMeans ρ y → QImp ρ hs G

abbrev QHolds : List ℚ → List QH → Type 0
QHolds ρ [] = Unit {0}
QHolds ρ (y ∷ hs) = QMeans ρ y × QHolds ρ hs

curry : (ρ : List ℚ) (hs : List QH) (G : Type 0) → (QHolds ρ hs → G) → QImp ρ hs G
curry ρ [] G f = f tt
curry ρ (y ∷ hs) G f = λ p. curry ρ hs G (λ ps. f (p, ps))

all_le : (ρ : List ℚ) (hs : List QH) → QHolds ρ hs → valq (qlows hs) ρ ≤q valq (qhighs hs) ρ
all_le ρ [] p = ≤_refl (nat 0)
all_le ρ ((a ⊑ b by c) ∷ hs) p = +_mono (*_mono (nat_≤ {a = 0} zero-le) p.0) (all_le ρ hs p.1)

-- THE RULE: (m + 1) L + Σ c b is (m + 1) R + Σ c a, or less by a constant; so where each a ≤ b holds, L ≤ R.
pub linq : (ρ : List ℚ) (hs : List QH) (m : ℕ) (L R : QE) → T (formless (form (## (suc m) ⊠ L ⊞ qhighs hs)) (form (## (suc m) ⊠ R ⊞ qlows hs))) → QImp ρ hs (valq L ρ ≤q valq R ρ)
linq ρ hs m L R t =
    curry ρ hs (valq L ρ ≤q valq R ρ) (λ p.
    nat_cancel (suc m) (zero-lt-suc m)
    (+_cancel (valq (qhighs hs) ρ)
    (≤_trans (≤_of_≈ (+_comm (valq (qhighs hs) ρ) (nat (suc m) *q valq L ρ)))
    (≤_trans (leq ρ (## (suc m) ⊠ L ⊞ qhighs hs) (## (suc m) ⊠ R ⊞ qlows hs) t)
    (≤_trans (+_mono (≤_refl (nat (suc m) *q valq R ρ)) (all_le ρ hs p)) (≤_of_≈ (+_comm (nat (suc m) *q valq R ρ) (valq (qhighs hs) ρ))))))))
