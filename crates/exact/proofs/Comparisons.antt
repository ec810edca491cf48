-- What a comparison of two finite floats says of their exact values, both ways: `lt` is <, `le` is ≤, `eq` is being the same number, and so their negations.
use Prim.Native.Nat.{ℕ, ◌+◌, ◌*◌, ◌<◌}
use mathlib.Core.Path.{◌≡◌}
use mathlib.Core.Logic.{◌⊎◌, inl, inr}
use mathlib.Core.Bool.{Bool, true, false, not, ◌&&◌, ◌||◌, beq}
use native.Mathlib.Omega.{arith}
use lib.Dec.{T, eqb, ltb→lt, nltb→le, eqb→eq, T_not, not_T}
use lib.Ieee.{Float, nan, inf, fin, up, down, lt, le, eq, ne, below, level}
use lib.Ieee.Fits.{down_pos, and_i, and_l, eq→eqb}
use lib.Ieee.Scale.{finite}
use Rattle.exact.specs.Fraction.{◌≤q◌, ◌<q◌, ◌≈q◌}
use Rattle.exact.specs.FloatValue.{signed, value}
use Rattle.exact.proofs.FractionLaws.{≤_of_≈}
use Rattle.exact.proofs.StrictOrder.{≤_of_<, not_≤_of_<, <_of_not_≤}

-- ---- truth values
by_contradiction : (b : Bool) → (T (not b) → ⊥) → T b
by_contradiction true n = tt
by_contradiction false n = n tt

or_cases : (a b : Bool) → T (a || b) → T a ⊎ T b
or_cases true b t = inl tt
or_cases false b t = inr t

or_inl : (a b : Bool) → T a → T (a || b)
or_inl true b t = tt
or_inl false b t = absurd t

or_inr : (a b : Bool) → T b → T (a || b)
or_inr true b t = tt
or_inr false b t = t

-- ---- ±a / c and ±b / d, by the cross products
lt_signed : (s t : Bool) (a c b d : ℕ) (C : 0 < c) (D : 0 < d) → T (below s (a * d) t (b * c)) → signed s a c C <q signed t b d D
lt_signed false false a c b d C D h = let l = ltb→lt (a * d) (b * c) h in record { lt = omega arith }
lt_signed false true a c b d C D h = absurd h
lt_signed true false a c b d C D h = let l = ltb→lt 0 (a * d + b * c) h in record { lt = omega arith }
lt_signed true true a c b d C D h = let l = ltb→lt (b * c) (a * d) h in record { lt = omega arith }

nlt_signed : (s t : Bool) (a c b d : ℕ) (C : 0 < c) (D : 0 < d) → T (not (below s (a * d) t (b * c))) → signed t b d D ≤q signed s a c C
nlt_signed false false a c b d C D h = let l = nltb→le (a * d) (b * c) h in record { le = omega arith }
nlt_signed false true a c b d C D h = record { le = omega arith }
nlt_signed true false a c b d C D h = let l = nltb→le 0 (a * d + b * c) h in record { le = omega arith }
nlt_signed true true a c b d C D h = let l = nltb→le (b * c) (a * d) h in record { le = omega arith }

eq_signed : (s t : Bool) (a c b d : ℕ) (C : 0 < c) (D : 0 < d) → T (level s (a * d) t (b * c)) → signed s a c C ≈q signed t b d D
eq_signed s t a c b d C D h = go s t (eqb→eq (a * d) (b * c) (and_l (eqb (a * d) (b * c)) (beq s t || eqb (a * d) 0) h)) (second (eqb (a * d) (b * c)) (beq s t || eqb (a * d) 0) h)
  where
    second : (u v : Bool) → T (u && v) → T v
    second true v h = h
    second false v h = absurd h

    go : (s t : Bool) → a * d ≡ b * c → T (beq s t || eqb (a * d) 0) → signed s a c C ≈q signed t b d D
    go false false e z = record { eq = omega arith }
    go true true e z = record { eq = omega arith }
    go false true e z = let o = eqb→eq (a * d) 0 z in record { eq = omega arith }
    go true false e z = let o = eqb→eq (a * d) 0 z in record { eq = omega arith }

signed_eq : (s t : Bool) (a c b d : ℕ) (C : 0 < c) (D : 0 < d) → signed s a c C ≈q signed t b d D → T (level s (a * d) t (b * c))
signed_eq false false a c b d C D h = let e = h.eq in let i : a * d ≡ b * c = omega arith in and_i (eqb (a * d) (b * c)) true (eq→eqb i) tt
signed_eq true true a c b d C D h = let e = h.eq in let i : a * d ≡ b * c = omega arith in and_i (eqb (a * d) (b * c)) true (eq→eqb i) tt
signed_eq false true a c b d C D h = let e = h.eq in let i : a * d ≡ b * c = omega arith in let z : a * d ≡ 0 = omega arith in and_i (eqb (a * d) (b * c)) (eqb (a * d) 0) (eq→eqb i) (eq→eqb z)
signed_eq true false a c b d C D h = let e = h.eq in let i : a * d ≡ b * c = omega arith in let z : a * d ≡ 0 = omega arith in and_i (eqb (a * d) (b * c)) (eqb (a * d) 0) (eq→eqb i) (eq→eqb z)

-- ---- from the test to the values
pub lt→< : (x y : Float) → T (finite x) → T (finite y) → T (lt x y) → value x <q value y
unfolding lt value
lt→< nan y p q h = absurd p
lt→< (inf s) y p q h = absurd p
lt→< (fin s m e) nan p q h = absurd q
lt→< (fin s m e) (inf t) p q h = absurd q
lt→< (fin s m e) (fin t n d) p q h = lt_signed s t (m * up e) (down e) (n * up d) (down d) (down_pos e) (down_pos d) h

pub lt→≤ : (x y : Float) → T (finite x) → T (finite y) → T (lt x y) → value x ≤q value y
lt→≤ x y p q h = ≤_of_< (lt→< x y p q h)

pub nlt→≤ : (x y : Float) → T (finite x) → T (finite y) → T (not (lt x y)) → value y ≤q value x
unfolding lt value
nlt→≤ nan y p q h = absurd p
nlt→≤ (inf s) y p q h = absurd p
nlt→≤ (fin s m e) nan p q h = absurd q
nlt→≤ (fin s m e) (inf t) p q h = absurd q
nlt→≤ (fin s m e) (fin t n d) p q h = nlt_signed s t (m * up e) (down e) (n * up d) (down d) (down_pos e) (down_pos d) h

pub eq→≈ : (x y : Float) → T (finite x) → T (finite y) → T (eq x y) → value x ≈q value y
unfolding eq value
eq→≈ nan y p q h = absurd p
eq→≈ (inf s) y p q h = absurd p
eq→≈ (fin s m e) nan p q h = absurd q
eq→≈ (fin s m e) (inf t) p q h = absurd q
eq→≈ (fin s m e) (fin t n d) p q h = eq_signed s t (m * up e) (down e) (n * up d) (down d) (down_pos e) (down_pos d) h

pub ≈→eq : (x y : Float) → T (finite x) → T (finite y) → value x ≈q value y → T (eq x y)
unfolding eq value
≈→eq nan y p q h = absurd p
≈→eq (inf s) y p q h = absurd p
≈→eq (fin s m e) nan p q h = absurd q
≈→eq (fin s m e) (inf t) p q h = absurd q
≈→eq (fin s m e) (fin t n d) p q h = signed_eq s t (m * up e) (down e) (n * up d) (down d) (down_pos e) (down_pos d) h

-- ---- and the rest of the twelve
module _ (x y : Float) (p : T (finite x)) (q : T (finite y)) where
  pub <→lt : value x <q value y → T (lt x y)
  <→lt h = by_contradiction (lt x y) (λ (n : T (not (lt x y))). not_≤_of_< h (nlt→≤ x y p q n))

  pub ≤→nlt : value y ≤q value x → T (not (lt x y))
  ≤→nlt h = not_T (lt x y) (λ (t : T (lt x y)). not_≤_of_< (lt→< x y p q t) h)

  pub neq→≉ : T (not (eq x y)) → ¬ (value x ≈q value y)
  neq→≉ n h = T_not (eq x y) n (≈→eq x y p q h)

  pub ≉→neq : ¬ (value x ≈q value y) → T (not (eq x y))
  ≉→neq n = not_T (eq x y) (λ (t : T (eq x y)). n (eq→≈ x y p q t))

  pub ne→≉ : T (ne x y) → ¬ (value x ≈q value y)
  unfolding ne
  ne→≉ n = neq→≉ n

  pub ≉→ne : ¬ (value x ≈q value y) → T (ne x y)
  unfolding ne
  ≉→ne n = ≉→neq n

  pub nne→≈ : T (not (ne x y)) → value x ≈q value y
  unfolding ne
  nne→≈ n = eq→≈ x y p q (by_contradiction (eq x y) (λ (t : T (not (eq x y))). T_not (not (eq x y)) n t))

  pub le→≤ : T (le x y) → value x ≤q value y
  unfolding le
  le→≤ h = elim (or_cases (lt x y) (eq x y) h) [ inl t ↦ lt→≤ x y p q t | inr t ↦ ≤_of_≈ (eq→≈ x y p q t) ]

  pub ≤→le : value x ≤q value y → T (le x y)
  unfolding le
  ≤→le h = by_contradiction (lt x y || eq x y) (λ (n : T (not (lt x y || eq x y))). T_not (lt x y || eq x y) n (or_inr (lt x y) (eq x y) (≈→eq x y p q (record { eq = both n }))))
    where
      both : T (not (lt x y || eq x y)) → (value x).p * (value y).d + (value y).q * (value x).d ≡ (value y).p * (value x).d + (value x).q * (value y).d
      both n = let a = h.le in let b = (nlt→≤ x y p q (not_T (lt x y) (λ (t : T (lt x y)). T_not (lt x y || eq x y) n (or_inl (lt x y) (eq x y) t)))).le in omega arith

  pub nle→> : T (not (le x y)) → value y <q value x
  nle→> n = <_of_not_≤ (λ (h : value x ≤q value y). T_not (le x y) n (≤→le h))

  pub >→nle : value y <q value x → T (not (le x y))
  >→nle h = not_T (le x y) (λ (t : T (le x y)). not_≤_of_< h (le→≤ t))

-- ---- between two finite floats lie only finite ones
pub le_between_finite : (lo x hi : Float) → T (finite lo) → T (finite hi) → T (le lo x) → T (le x hi) → T (finite x)
unfolding le lt eq
le_between_finite lo (fin s m e) hi p q a b = tt
le_between_finite lo nan hi p q a b = absurd b
le_between_finite lo (inf s) nan p q a b = absurd q
le_between_finite lo (inf s) (inf t) p q a b = absurd q
le_between_finite nan (inf s) (fin t n d) p q a b = absurd p
le_between_finite (inf u) (inf s) (fin t n d) p q a b = absurd p
le_between_finite (fin u k c) (inf true) (fin t n d) p q a b = absurd a
le_between_finite (fin u k c) (inf false) (fin t n d) p q a b = absurd b
