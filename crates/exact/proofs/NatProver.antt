-- Polynomials over the native ℕ, multiplied out by computation: equations, orders that hold coefficient by coefficient, and orders that
-- follow from hypotheses, each times a polynomial. Where `omega` stops (64 monomials, numbers of 38 digits, a hypothesis times a factor) this goes on.
use Prim.Native.Nat.{ℕ, zero, suc, ◌+◌, ◌*◌, ◌^◌, ◌≤◌, zero-le}
use mathlib.Core.Path.{◌≡◌, refl, sym, ◌∙◌, ap, ap₂, subst₂}
use mathlib.Core.List.{List, [], ◌∷◌}
use mathlib.Core.Bool.{Bool, true, false, ◌&&◌}
use native.Mathlib.Nat.{zero-add, add-zero, zero-mul, mul-zero, add_comm, mul-add, le_trans, le_of_eq, le_antisymm, add-le-add, mul-le-mul_left, lt_of_mul-lt-mul_left, le_of_suc-le-suc, pow-suc, pow-zero, mul-suc}
use native.Mathlib.Numerals.{add-one}
use native.Mathlib.Omega.{arith}
use lib.Dec.{T, leb, leb→le}

-- ---- expressions
infixl 6 ◌⊹◌
infixl 7 ◌⋆◌
infixr 8 ◌↑◌
pub data Expr : Type 0 where
  ν : ℕ → Expr
  # : ℕ → Expr
  ◌⊹◌ : Expr → Expr → Expr
  ◌⋆◌ : Expr → Expr → Expr
  ◌↑◌ : Expr → ℕ → Expr
  S : Expr → Expr

abbrev pub nth : List ℕ → ℕ → ℕ
nth [] i = 0
nth (x ∷ ρ) zero = x
nth (x ∷ ρ) (suc i) = nth ρ i

abbrev pub val : Expr → List ℕ → ℕ
val (ν i) ρ = nth ρ i
val (# k) ρ = k
val (a ⊹ b) ρ = val a ρ + val b ρ
val (a ⋆ b) ρ = val a ρ * val b ρ
val (a ↑ n) ρ = val a ρ ^ n
val (S a) ρ = suc (val a ρ)

-- ---- the normal form: a constant, or p + X * q, where X is the first variable, which p does not have
pub data Poly : Type 0 where
  k : ℕ → Poly
  h : Poly → Poly → Poly

abbrev pub ev : Poly → List ℕ → ℕ
ev (k c) ρ = c
ev (h p q) [] = ev p []
ev (h p q) (x ∷ ρ) = ev p ρ + x * ev q (x ∷ ρ)

abbrev pub plus : Poly → Poly → Poly
plus (k a) (k b) = k (a + b)
plus (k a) (h p q) = h (plus (k a) p) q
plus (h p q) (k b) = h (plus p (k b)) q
plus (h p q) (h p' q') = h (plus p p') (plus q q')

abbrev pub scale : ℕ → Poly → Poly
scale zero r = k 0
scale (suc c) (k a) = k (suc c * a)
scale (suc c) (h p q) = h (scale (suc c) p) (scale (suc c) q)

-- (zero times r is written `k 0`, not with r's shape: else the zeros make a product grow with the number of variables)
-- f multiplies by a polynomial that lacks the first variable
abbrev pub under : (Poly → Poly) → Poly → Poly
under f (k b) = h (f (k b)) (k 0)
under f (h a b) = h (f a) (under f b)

abbrev pub times : Poly → Poly → Poly
times (k a) r = scale a r
times (h p q) r = plus (under (times p) r) (h (k 0) (times q r))

abbrev pub var : ℕ → Poly
var zero = h (k 0) (k 1)
var (suc i) = h (var i) (k 0)

abbrev pub power : Poly → ℕ → Poly
power p zero = k 1
power p (suc n) = times (power p n) p

abbrev pub norm : Expr → Poly
norm (ν i) = var i
norm (# c) = k c
norm (a ⊹ b) = plus (norm a) (norm b)
norm (a ⋆ b) = times (norm a) (norm b)
norm (a ↑ n) = power (norm a) n
norm (S a) = plus (k 1) (norm a)

-- every coefficient of the one is at most that of the other
abbrev pub below : Poly → Poly → Bool
below (k a) (k b) = leb a b
below (k a) (h p q) = below (k a) p
below (h p q) (k b) = below p (k b) && below q (k 0)
below (h p q) (h p' q') = below p p' && below q q'

-- ---- the laws
swap4 : (p q r s : ℕ) → (p + q) + (r + s) ≡ (p + r) + (q + s)
swap4 p q r s = omega arith

ev_plus : (p q : Poly) (ρ : List ℕ) → ev (plus p q) ρ ≡ ev p ρ + ev q ρ
ev_plus (k a) (k b) ρ = refl
ev_plus (k a) (h p q) [] = ev_plus (k a) p []
ev_plus (k a) (h p q) (x ∷ ρ) = omega (arith, ev_plus (k a) p ρ)
ev_plus (h p q) (k b) [] = ev_plus p (k b) []
ev_plus (h p q) (k b) (x ∷ ρ) = omega (arith, ev_plus p (k b) ρ)
ev_plus (h p q) (h p' q') [] = ev_plus p p' []
ev_plus (h p q) (h p' q') (x ∷ ρ) = ap₂ (λ s t. s + x * t) (ev_plus p p' ρ) (ev_plus q q' (x ∷ ρ)) ∙ ap (λ t. ev p ρ + ev p' ρ + t) (mul-add x (ev q (x ∷ ρ)) (ev q' (x ∷ ρ))) ∙ swap4 (ev p ρ) (ev p' ρ) (x * ev q (x ∷ ρ)) (x * ev q' (x ∷ ρ))

ev_scale : (c : ℕ) (p : Poly) (ρ : List ℕ) → ev (scale c p) ρ ≡ c * ev p ρ
ev_scale zero r ρ = sym (zero-mul (ev r ρ))
ev_scale (suc c) (k a) ρ = refl
ev_scale (suc c) (h p q) [] = ev_scale (suc c) p []
ev_scale (suc c) (h p q) (x ∷ ρ) = ap₂ (λ s t. s + x * t) (ev_scale (suc c) p ρ) (ev_scale (suc c) q (x ∷ ρ)) ∙ tidy (suc c) x (ev p ρ) (ev q (x ∷ ρ))
  where
    tidy : (c x s t : ℕ) → c * s + x * (c * t) ≡ c * (s + x * t)
    tidy c x s t = omega arith

-- what `under f` does, where f multiplies by n at the shorter environment
ev_under_nil : (f : Poly → Poly) (n : ℕ) → ((r : Poly) → ev (f r) [] ≡ n * ev r []) → (r : Poly) → ev (under f r) [] ≡ n * ev r []
ev_under_nil f n e (k b) = e (k b)
ev_under_nil f n e (h a b) = e a

ev_under : (f : Poly → Poly) (n x : ℕ) (ρ : List ℕ) → ((r : Poly) → ev (f r) ρ ≡ n * ev r ρ) → (r : Poly) → ev (under f r) (x ∷ ρ) ≡ n * ev r (x ∷ ρ)
ev_under f n x ρ e (k b) = ap₂ ◌+◌ (e (k b)) (mul-zero x) ∙ add-zero (n * b)
ev_under f n x ρ e (h a b) = ap₂ (λ s t. s + x * t) (e a) (ev_under f n x ρ e b) ∙ tidy n x (ev a ρ) (ev b (x ∷ ρ))
  where
    tidy : (c x s t : ℕ) → c * s + x * (c * t) ≡ c * (s + x * t)
    tidy c x s t = omega arith

ev_times : (p r : Poly) (ρ : List ℕ) → ev (times p r) ρ ≡ ev p ρ * ev r ρ
ev_times (k a) r ρ = ev_scale a r ρ
ev_times (h p q) r [] =
    ev_plus (under (times p) r) (h (k 0) (times q r)) [] ∙ add-zero (ev (under (times p) r) []) ∙ ev_under_nil (times p) (ev p []) (λ s. ev_times p s []) r
ev_times (h p q) r (x ∷ ρ) =
    ev_plus (under (times p) r) (h (k 0) (times q r)) (x ∷ ρ)
    ∙ ap₂ ◌+◌ (ev_under (times p) (ev p ρ) x ρ (λ s. ev_times p s ρ) r) (zero-add (x * ev (times q r) (x ∷ ρ)) ∙ ap (λ t. x * t) (ev_times q r (x ∷ ρ)))
    ∙ tidy (ev p ρ) x (ev q (x ∷ ρ)) (ev r (x ∷ ρ))
  where
    tidy : (p x q r : ℕ) → p * r + x * (q * r) ≡ (p + x * q) * r
    tidy p x q r = omega arith

ev_var : (i : ℕ) (ρ : List ℕ) → ev (var i) ρ ≡ nth ρ i
ev_var zero [] = refl
ev_var zero (x ∷ ρ) = omega arith
ev_var (suc i) [] = ev_nil i
  where
    ev_nil : (i : ℕ) → ev (var i) [] ≡ 0
    ev_nil zero = refl
    ev_nil (suc i) = ev_nil i
ev_var (suc i) (x ∷ ρ) = omega (arith, ev_var i ρ)

ev_power : (p : Poly) (n : ℕ) (ρ : List ℕ) → ev (power p n) ρ ≡ ev p ρ ^ n
ev_power p zero ρ = sym (pow-zero (ev p ρ))
ev_power p (suc n) ρ = ev_times (power p n) p ρ ∙ ap (λ t. t * ev p ρ) (ev_power p n ρ) ∙ sym (pow-suc (ev p ρ) n)

pub sound : (e : Expr) (ρ : List ℕ) → ev (norm e) ρ ≡ val e ρ
sound (ν i) ρ = ev_var i ρ
sound (# c) ρ = refl
sound (a ⊹ b) ρ = ev_plus (norm a) (norm b) ρ ∙ ap₂ ◌+◌ (sound a ρ) (sound b ρ)
sound (a ⋆ b) ρ = ev_times (norm a) (norm b) ρ ∙ ap₂ ◌*◌ (sound a ρ) (sound b ρ)
sound (a ↑ n) ρ = ev_power (norm a) n ρ ∙ ap (λ t. t ^ n) (sound a ρ)
sound (S a) ρ = ev_plus (k 1) (norm a) ρ ∙ ap (λ t. 1 + t) (sound a ρ) ∙ add_comm 1 (val a ρ) ∙ add-one (val a ρ)

pub and_l : (a b : Bool) → T (a && b) → T a
and_l true b t = tt
and_l false b t = t

pub and_r : (a b : Bool) → T (a && b) → T b
and_r true b t = t
and_r false b t = absurd t

below_ev : (p q : Poly) (ρ : List ℕ) → T (below p q) → ev p ρ ≤ ev q ρ
below_ev (k a) (k b) ρ t = leb→le a b t
below_ev (k a) (h p q) [] t = below_ev (k a) p [] t
below_ev (k a) (h p q) (x ∷ ρ) t = omega (arith, below_ev (k a) p ρ t)
below_ev (h p q) (k b) [] t = below_ev p (k b) [] (and_l (below p (k b)) (below q (k 0)) t)
below_ev (h p q) (k b) (x ∷ ρ) t =
    le_trans (add-le-add (below_ev p (k b) ρ (and_l (below p (k b)) (below q (k 0)) t)) (mul-le-mul_left x (below_ev q (k 0) (x ∷ ρ) (and_r (below p (k b)) (below q (k 0)) t))))
    (le_of_eq (ap (λ s. b + s) (mul-zero x) ∙ add-zero b))
below_ev (h p q) (h p' q') [] t = below_ev p p' [] (and_l (below p p') (below q q') t)
below_ev (h p q) (h p' q') (x ∷ ρ) t =
    add-le-add (below_ev p p' ρ (and_l (below p p') (below q q') t)) (mul-le-mul_left x (below_ev q q' (x ∷ ρ) (and_r (below p p') (below q q') t)))

-- ---- what a proof calls
pub poly_le : (ρ : List ℕ) (a b : Expr) → T (below (norm a) (norm b)) → val a ρ ≤ val b ρ
poly_le ρ a b t = subst₂ ◌≤◌ (sound a ρ) (sound b ρ) (below_ev (norm a) (norm b) ρ t)

pub poly_eq : (ρ : List ℕ) (a b : Expr) → T (below (norm a) (norm b)) → T (below (norm b) (norm a)) → val a ρ ≡ val b ρ
poly_eq ρ a b t u = le_antisymm (poly_le ρ a b t) (poly_le ρ b a u)

-- a hypothesis, and the polynomial that it is multiplied by
infix 4 ◌≼◌by◌
pub data Hyp : Type 0 where
  ◌≼◌by◌ : Expr → Expr → Expr → Hyp

abbrev pub Means : List ℕ → Hyp → Type 0
Means ρ (a ≼ b by c) = val a ρ ≤ val b ρ

abbrev pub lows : List Hyp → Expr
lows [] = # 0
lows ((a ≼ b by c) ∷ hs) = c ⋆ a ⊹ lows hs

abbrev pub highs : List Hyp → Expr
highs [] = # 0
highs ((a ≼ b by c) ∷ hs) = c ⋆ b ⊹ highs hs

abbrev pub Holds : List ℕ → List Hyp → Type 0
Holds ρ [] = Unit {0}
Holds ρ (x ∷ hs) = Means ρ x × Holds ρ hs

abbrev pub Imp : List ℕ → List Hyp → Type 0 → Type 0
Imp ρ [] G = G
Imp ρ (x ∷ hs) G = Means ρ x → Imp ρ hs G

curry : (ρ : List ℕ) (hs : List Hyp) (G : Type 0) → (Holds ρ hs → G) → Imp ρ hs G
curry ρ [] G f = f tt
curry ρ (x ∷ hs) G f = λ p. curry ρ hs G (λ ps. f (p, ps))

all_le : (ρ : List ℕ) (hs : List Hyp) → Holds ρ hs → val (lows hs) ρ ≤ val (highs hs) ρ
all_le ρ [] p = zero-le
all_le ρ ((a ≼ b by c) ∷ hs) p = add-le-add (mul-le-mul_left (val c ρ) p.0) (all_le ρ hs p.1)

-- THE RULE. m * L + 1 + Σ c * b is below m * R + m + Σ c * a, coefficient by coefficient; so where every hypothesis a ≤ b holds, L ≤ R.
-- (m is a common factor to divide out; `# 1` where there is none. Where m is no numeral, list its 1 ≤ m too, by `# 1`.)
pub poly_by : (ρ : List ℕ) (hs : List Hyp) (m L R : Expr) → T (below (norm (m ⋆ L ⊹ # 1 ⊹ highs hs)) (norm (m ⋆ R ⊹ m ⊹ lows hs))) → Imp ρ hs (val L ρ ≤ val R ρ)
poly_by ρ hs m L R t = curry ρ hs (val L ρ ≤ val R ρ) (λ p. go (val m ρ) (val L ρ) (val R ρ) (val (lows hs) ρ) (val (highs hs) ρ) (all_le ρ hs p) (poly_le ρ (m ⋆ L ⊹ # 1 ⊹ highs hs) (m ⋆ R ⊹ m ⊹ lows hs) t))
  where
    go : (m L R lo hi : ℕ) → lo ≤ hi → m * L + 1 + hi ≤ m * R + m + lo → L ≤ R
    go m L R lo hi p q = le_of_suc-le-suc (lt_of_mul-lt-mul_left m (le_trans (omega arith) (le_of_eq (sym (mul-suc m R)))))
