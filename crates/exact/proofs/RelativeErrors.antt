-- Errors relative to a scale. `Rel x z B M k t` says that x is finite, that the exact value z that it stands for is at most B in size, that x is within k B + t of z, and that B ≤ M.
-- B is any fraction, such as a product of voltages; M, k and t are closed, so that each operation is one line with one test that computes: `rel_⊗ X Y M k t tt`. t takes the underflows.
use Prim.Native.Nat.{◌^◌}
use mathlib.Core.List.{List, [], ◌∷◌}
use lib.Dec.{T}
use lib.IntN.{ℤ}
use lib.Ieee.{Float, binary64, emax, prec, neg}
use lib.Ieee.Scale.{finite}
use Rattle.exact.specs.Fraction.{ℚ, nat, ◌+q◌, negq, ◌-q◌, ◌*q◌, ◌/q◌, absq, ◌≤q◌, ◌<q◌, ◌≈q◌, Within}
use Rattle.exact.specs.FloatValue.{value, eps, tiny}
use Rattle.exact.specs.Float64.{◌⊕◌, ◌⊖◌, ◌⊗◌, ◌⊘◌, absolute}
use Rattle.exact.specs.Size.{exp2, AtMost}
use Rattle.exact.proofs.Claims.{Claim, ◌≤?◌, all, Facts, facts}
use Rattle.exact.proofs.FractionLaws.{≈_refl, ≈_sym, ≈_trans, *_comm, ≤_of_≈, ≤_refl, ≤_trans, +_mono, *_mono}
use Rattle.exact.proofs.FractionProver.{qv, ##, ◌⊞◌, ◌⊟◌, ◌⊠◌, leq, req, linq, ◌⊑◌by◌}
use Rattle.exact.proofs.StrictOrder.{≤_of_<, <_≤_trans, <-≈, sub_pos, *_pos, *_nonneg, *_cancel_≤}
use Rattle.exact.proofs.AbsoluteValue.{abs_nonneg, not_zero_of_pos}
use Rattle.exact.proofs.Closeness.{*_mono₂, within_mono, within_refl}
use Rattle.exact.proofs.FractionDivision.{div_*, div_≤}
use Rattle.exact.proofs.Rounding.{frac_nonneg}
use Rattle.exact.proofs.ErrorCalculus.{Est, est_mul, est_add, est_sub, est_div, est_neg, est_absolute, est_≈, weaken}

pub record Rel (x : Float) (z B M k t : ℚ) : Type 0 where
  pub est : Est binary64 x z B (k *q B +q t)
  pub bound : B ≤q M

-- ---- given, weakened
pub rel_given : (x : Float) {M : ℚ} → T (finite x) → absq (value x) ≤q M → Rel x (value x) (absq (value x)) M (nat 0) (nat 0)
rel_given x h m = record {
  est = record { fin = h; size = ≤_refl (absq (value x)); close = within_mono (within_refl (value x)) (leq (absq (value x) ∷ []) (## 0) (## 0 ⊠ qv 0 ⊞ ## 0) tt) };
  bound = m;
}

pub rel_at_most : {x : Float} {a : ℤ} → AtMost x a → Rel x (value x) (absq (value x)) (exp2 a) (nat 0) (nat 0)
rel_at_most {x} X = rel_given x X.fin X.size

scale_nonneg : {x : Float} {z B M k t : ℚ} → Rel x z B M k t → nat 0 ≤q B
scale_nonneg {z = z} X = ≤_trans (abs_nonneg z) X.est.size

-- a larger scale, for a k that is not negative
pub rel_scale : {x : Float} {z B M C N k t : ℚ} → Rel x z B M k t → nat 0 ≤q k → B ≤q C → C ≤q N → Rel x z C N k t
rel_scale {t = t} X K h n = record { est = weaken X.est h (+_mono (*_mono K h) (≤_refl t)); bound = n }

-- larger errors
pub rel_weaken : {x : Float} {z B M k t l s : ℚ} → Rel x z B M k t → k ≤q l → t ≤q s → Rel x z B M l s
rel_weaken {B = B} {k = k} {l = l} X h g = record { est = weaken X.est (≤_refl B) (+_mono (≤_trans (≤_of_≈ (*_comm k B)) (≤_trans (*_mono (scale_nonneg X) h) (≤_of_≈ (*_comm B l)))) g); bound = X.bound }

pub rel_≈ : {x : Float} {z w B M k t : ℚ} → Rel x z B M k t → z ≈q w → Rel x w B M k t
rel_≈ X e = record { est = est_≈ X.est e; bound = X.bound }

-- in closed numbers
pub rel_est : {x : Float} {z B M k t : ℚ} → Rel x z B M k t → nat 0 ≤q k → Est binary64 x z M (k *q M +q t)
rel_est {M = M} X K = (rel_scale X K X.bound (≤_refl M)).est

pub rel_within : {x : Float} {z B M k t : ℚ} → Rel x z B M k t → Within (value x) z (k *q B +q t)
rel_within X = X.est.close

-- ---- the sum and the difference, of the scale B + C
-- nothing overflows; ((1 + u) k + u) B and ((1 + u) l + u) C are at most k' of their scale; (1 + u) (t + s) + tiny ≤ t'
abbrev pub sum_claims : (M N k l t s M' k' t' : ℚ) → List Claim
sum_claims M N k l t s M' k' t' =
    let u = eps binary64 in
    (nat 0 ≤? k)
    ∷ (nat 0 ≤? l)
    ∷ ((M +q (k *q M +q t)) +q (N +q (l *q N +q s)) ≤? nat (2 ^ emax binary64))
    ∷ ((nat 1 +q u) *q k +q u ≤? k')
    ∷ ((nat 1 +q u) *q l +q u ≤? k')
    ∷ ((nat 1 +q u) *q (t +q s) +q tiny binary64 ≤? t')
    ∷ (M +q N ≤? M')
    ∷ []

module _ {x y : Float} {z w B C M N k l t s : ℚ} (X : Rel x z B M k t) (Y : Rel y w C N l s) (M' k' t' : ℚ) where
  sum_size : Facts (sum_claims M N k l t s M' k' t') → (B +q (k *q B +q t)) +q (C +q (l *q C +q s)) ≤q nat (2 ^ emax binary64)
  sum_size p = ≤_trans (+_mono (+_mono X.bound (+_mono (*_mono p.0 X.bound) (≤_refl t))) (+_mono Y.bound (+_mono (*_mono p.1.0 Y.bound) (≤_refl s)))) p.1.1.0

  sum_error : Facts (sum_claims M N k l t s M' k' t') → eps binary64 *q ((B +q (k *q B +q t)) +q (C +q (l *q C +q s))) +q tiny binary64 +q ((k *q B +q t) +q (l *q C +q s)) ≤q k' *q (B +q C) +q t'
  sum_error p =
      linq (eps binary64 ∷ tiny binary64 ∷ B ∷ C ∷ k ∷ l ∷ t ∷ s ∷ k' ∷ t' ∷ [])
      ((qv 2 ⊠ ((## 1 ⊞ qv 0) ⊠ qv 4 ⊞ qv 0) ⊑ qv 2 ⊠ qv 8 by 1)
      ∷ (qv 3 ⊠ ((## 1 ⊞ qv 0) ⊠ qv 5 ⊞ qv 0) ⊑ qv 3 ⊠ qv 8 by 1)
      ∷ ((## 1 ⊞ qv 0) ⊠ (qv 6 ⊞ qv 7) ⊞ qv 1 ⊑ qv 9 by 1)
      ∷ [])
      0
      (qv 0 ⊠ ((qv 2 ⊞ (qv 4 ⊠ qv 2 ⊞ qv 6)) ⊞ (qv 3 ⊞ (qv 5 ⊠ qv 3 ⊞ qv 7))) ⊞ qv 1 ⊞ ((qv 4 ⊠ qv 2 ⊞ qv 6) ⊞ (qv 5 ⊠ qv 3 ⊞ qv 7)))
      (qv 8 ⊠ (qv 2 ⊞ qv 3) ⊞ qv 9)
      tt
      (*_mono (scale_nonneg X) p.1.1.1.0)
      (*_mono (scale_nonneg Y) p.1.1.1.1.0)
      p.1.1.1.1.1.0

  pub rel_⊕ : T (all (sum_claims M N k l t s M' k' t')) → Rel (x ⊕ y) (z +q w) (B +q C) M' k' t'
  rel_⊕ h = let p = facts (sum_claims M N k l t s M' k' t') h in record { est = weaken (est_add binary64 X.est Y.est (sum_size p)) (≤_refl (B +q C)) (sum_error p); bound = ≤_trans (+_mono X.bound Y.bound) p.1.1.1.1.1.1.0 }

  pub rel_⊖ : T (all (sum_claims M N k l t s M' k' t')) → Rel (x ⊖ y) (z -q w) (B +q C) M' k' t'
  rel_⊖ h = let p = facts (sum_claims M N k l t s M' k' t') h in record { est = weaken (est_sub binary64 X.est Y.est (sum_size p)) (≤_refl (B +q C)) (sum_error p); bound = ≤_trans (+_mono X.bound Y.bound) p.1.1.1.1.1.1.0 }

-- ---- the product, of the scale B C
-- nothing overflows; (1 + u) (1 + k) (1 + l) - 1 ≤ k'; (1 + u) ((1 + k) s M + t s + (1 + l) t N) + tiny ≤ t'
abbrev pub product_claims : (M N k l t s M' k' t' : ℚ) → List Claim
product_claims M N k l t s M' k' t' =
    let u = eps binary64 in
    (nat 0 ≤? k)
    ∷ (nat 0 ≤? l)
    ∷ ((M +q (k *q M +q t)) *q (N +q (l *q N +q s)) ≤? nat (2 ^ emax binary64))
    ∷ (nat 0 ≤? t)
    ∷ (nat 0 ≤? s)
    ∷ (nat 0 ≤? (nat 1 +q u) *q (nat 1 +q k) *q s)
    ∷ (nat 0 ≤? (nat 1 +q u) *q (nat 1 +q l) *q t)
    ∷ ((nat 1 +q u) *q (nat 1 +q k) *q (nat 1 +q l) -q nat 1 ≤? k')
    ∷ ((nat 1 +q u) *q (nat 1 +q k) *q s *q M +q (nat 1 +q u) *q (t *q s) +q (nat 1 +q u) *q (nat 1 +q l) *q t *q N +q tiny binary64 ≤? t')
    ∷ (M *q N ≤? M')
    ∷ []

-- B + k B + t is not negative
spread_nonneg : {B k t : ℚ} → nat 0 ≤q B → nat 0 ≤q k → nat 0 ≤q t → nat 0 ≤q B +q (k *q B +q t)
spread_nonneg {B} {k} {t} b h g = linq (B ∷ k ∷ t ∷ []) ((## 0 ⊑ qv 0 by 1) ∷ (## 0 ⊑ qv 1 ⊠ qv 0 by 1) ∷ (## 0 ⊑ qv 2 by 1) ∷ []) 0 (## 0) (qv 0 ⊞ (qv 1 ⊠ qv 0 ⊞ qv 2)) tt b (*_nonneg h b) g

module _ {x y : Float} {z w B C M N k l t s : ℚ} (X : Rel x z B M k t) (Y : Rel y w C N l s) (M' k' t' : ℚ) where
  product_size : Facts (product_claims M N k l t s M' k' t') → (B +q (k *q B +q t)) *q (C +q (l *q C +q s)) ≤q nat (2 ^ emax binary64)
  product_size p =
      ≤_trans (*_mono₂ (spread_nonneg (scale_nonneg X) p.0 p.1.1.1.0) (spread_nonneg (scale_nonneg Y) p.1.0 p.1.1.1.1.0)
      (+_mono X.bound (+_mono (*_mono p.0 X.bound) (≤_refl t))) (+_mono Y.bound (+_mono (*_mono p.1.0 Y.bound) (≤_refl s)))) p.1.1.0

  product_error : Facts (product_claims M N k l t s M' k' t') → eps binary64 *q ((B +q (k *q B +q t)) *q (C +q (l *q C +q s))) +q tiny binary64 +q ((B +q (k *q B +q t)) *q (l *q C +q s) +q C *q (k *q B +q t)) ≤q k' *q (B *q C) +q t'
  product_error p =
      linq (eps binary64 ∷ tiny binary64 ∷ B ∷ C ∷ k ∷ l ∷ t ∷ s ∷ k' ∷ t' ∷ M ∷ N ∷ [])
      ((qv 2 ⊠ qv 3 ⊠ ((## 1 ⊞ qv 0) ⊠ (## 1 ⊞ qv 4) ⊠ (## 1 ⊞ qv 5) ⊟ ## 1) ⊑ qv 2 ⊠ qv 3 ⊠ qv 8 by 1)
      ∷ ((## 1 ⊞ qv 0) ⊠ (## 1 ⊞ qv 4) ⊠ qv 7 ⊠ qv 2 ⊑ (## 1 ⊞ qv 0) ⊠ (## 1 ⊞ qv 4) ⊠ qv 7 ⊠ qv 10 by 1)
      ∷ ((## 1 ⊞ qv 0) ⊠ (## 1 ⊞ qv 5) ⊠ qv 6 ⊠ qv 3 ⊑ (## 1 ⊞ qv 0) ⊠ (## 1 ⊞ qv 5) ⊠ qv 6 ⊠ qv 11 by 1)
      ∷ ((## 1 ⊞ qv 0) ⊠ (## 1 ⊞ qv 4) ⊠ qv 7 ⊠ qv 10 ⊞ (## 1 ⊞ qv 0) ⊠ (qv 6 ⊠ qv 7) ⊞ (## 1 ⊞ qv 0) ⊠ (## 1 ⊞ qv 5) ⊠ qv 6 ⊠ qv 11 ⊞ qv 1 ⊑ qv 9 by 1)
      ∷ [])
      0
      (qv 0 ⊠ ((qv 2 ⊞ (qv 4 ⊠ qv 2 ⊞ qv 6)) ⊠ (qv 3 ⊞ (qv 5 ⊠ qv 3 ⊞ qv 7))) ⊞ qv 1 ⊞ ((qv 2 ⊞ (qv 4 ⊠ qv 2 ⊞ qv 6)) ⊠ (qv 5 ⊠ qv 3 ⊞ qv 7) ⊞ qv 3 ⊠ (qv 4 ⊠ qv 2 ⊞ qv 6)))
      (qv 8 ⊠ (qv 2 ⊠ qv 3) ⊞ qv 9)
      tt
      (*_mono (*_nonneg (scale_nonneg X) (scale_nonneg Y)) p.1.1.1.1.1.1.1.0)
      (*_mono p.1.1.1.1.1.0 X.bound)
      (*_mono p.1.1.1.1.1.1.0 Y.bound)
      p.1.1.1.1.1.1.1.1.0

  pub rel_⊗ : T (all (product_claims M N k l t s M' k' t')) → Rel (x ⊗ y) (z *q w) (B *q C) M' k' t'
  rel_⊗ h = let p = facts (product_claims M N k l t s M' k' t') h in record { est = weaken (est_mul binary64 X.est Y.est (product_size p)) (≤_refl (B *q C)) (product_error p); bound = ≤_trans (*_mono₂ (scale_nonneg X) (scale_nonneg Y) X.bound Y.bound) p.1.1.1.1.1.1.1.1.1.0 }

-- ---- the quotient, of the scale B / |w|, by a y whose error is relative to |w| alone; b ≤ |w|
-- nothing overflows; (u (1 + k) + k + l) ≤ k' (1 - l); (1 + u) t ≤ (t' - tiny) (1 - l) b
abbrev pub quotient_claims : (M b k l t k' t' : ℚ) → List Claim
quotient_claims M b k l t k' t' =
    let u = eps binary64 in
    (nat 0 ≤? k)
    ∷ (t ≤? (nat (2 ^ emax binary64) *q (nat 1 -q l) -q (nat 1 +q k) *q M) *q b)
    ∷ (nat 0 ≤? nat (2 ^ emax binary64) *q (nat 1 -q l) -q (nat 1 +q k) *q M)
    ∷ (u *q (nat 1 +q k) +q k +q l ≤? k' *q (nat 1 -q l))
    ∷ (nat 0 ≤? (t' -q tiny binary64) *q (nat 1 -q l))
    ∷ ((nat 1 +q u) *q t ≤? (t' -q tiny binary64) *q (nat 1 -q l) *q b)
    ∷ (nat 0 ≤? u *q (nat 1 +q k) +q k)
    ∷ []

module _ {x y : Float} {z w B M₀ N k l t b : ℚ} (X : Rel x z B M₀ k t) (Y : Rel y w (absq w) N l (nat 0)) (B₀ : nat 0 <q b) (h : b ≤q absq w) (L : l <q nat 1) (M k' t' : ℚ) (m : B /q absq w ≤q M) where
  W_pos : nat 0 <q absq w
  W_pos = <_≤_trans B₀ h

  P_pos : nat 0 <q absq w -q (l *q absq w +q nat 0)
  P_pos = <-≈ (≈_refl (nat 0)) (req (l ∷ absq w ∷ []) ((## 1 ⊟ qv 0) ⊠ qv 1) (qv 1 ⊟ (qv 0 ⊠ qv 1 ⊞ ## 0)) tt tt) (*_pos (sub_pos L) W_pos)

  -- B ≤ (B / |w|) |w|
  B_is : B ≤q B /q absq w *q absq w
  B_is = ≤_of_≈ (≈_sym (div_* B (absq w) (not_zero_of_pos W_pos)))

  quotient_size : Facts (quotient_claims M b k l t k' t') → (B +q (k *q B +q t)) /q (absq w -q (l *q absq w +q nat 0)) ≤q nat (2 ^ emax binary64)
  quotient_size p =
      let one_k : nat 0 ≤q (nat 1 +q k) *q absq w = *_nonneg (linq (k ∷ []) ((## 0 ⊑ qv 0 by 1) ∷ []) 0 (## 0) (## 1 ⊞ qv 0) tt p.0) (≤_of_< W_pos) in
      div_≤ P_pos
      (linq (nat (2 ^ emax binary64) ∷ M ∷ B ∷ (B /q absq w) ∷ absq w ∷ k ∷ l ∷ t ∷ b ∷ [])
      ((qv 2 ⊑ qv 3 ⊠ qv 4 by 1)
      ∷ (qv 5 ⊠ qv 2 ⊑ qv 5 ⊠ (qv 3 ⊠ qv 4) by 1)
      ∷ ((## 1 ⊞ qv 5) ⊠ qv 4 ⊠ qv 3 ⊑ (## 1 ⊞ qv 5) ⊠ qv 4 ⊠ qv 1 by 1)
      ∷ (qv 7 ⊑ (qv 0 ⊠ (## 1 ⊟ qv 6) ⊟ (## 1 ⊞ qv 5) ⊠ qv 1) ⊠ qv 8 by 1)
      ∷ ((qv 0 ⊠ (## 1 ⊟ qv 6) ⊟ (## 1 ⊞ qv 5) ⊠ qv 1) ⊠ qv 8 ⊑ (qv 0 ⊠ (## 1 ⊟ qv 6) ⊟ (## 1 ⊞ qv 5) ⊠ qv 1) ⊠ qv 4 by 1)
      ∷ [])
      0
      (qv 2 ⊞ (qv 5 ⊠ qv 2 ⊞ qv 7))
      (qv 0 ⊠ (qv 4 ⊟ (qv 6 ⊠ qv 4 ⊞ ## 0)))
      tt
      B_is
      (*_mono p.0 B_is)
      (*_mono one_k m)
      p.1.0
      (*_mono p.1.1.0 h))

  quotient_error : Facts (quotient_claims M b k l t k' t')
      → eps binary64 *q ((B +q (k *q B +q t)) /q (absq w -q (l *q absq w +q nat 0))) +q tiny binary64 +q ((k *q B +q t) +q B /q absq w *q (l *q absq w +q nat 0)) /q (absq w -q (l *q absq w +q nat 0)) ≤q k' *q (B /q absq w) +q t'
  quotient_error p =
      let P = absq w -q (l *q absq w +q nat 0) in
      let F = B +q (k *q B +q t) in let G = (k *q B +q t) +q B /q absq w *q (l *q absq w +q nat 0) in
      let n = not_zero_of_pos P_pos in
      let times_P : (F : ℚ) → P *q (F /q P) ≤q F = λ F. ≤_of_≈ (≈_trans (*_comm P (F /q P)) (div_* F P n)) in
      let D_W : nat 0 ≤q B /q absq w *q absq w = ≤_trans (scale_nonneg X) B_is in
      *_cancel_≤ P_pos
      (linq (eps binary64 ∷ tiny binary64 ∷ B ∷ (B /q absq w) ∷ absq w ∷ k ∷ l ∷ t ∷ k' ∷ t' ∷ b ∷ (F /q P) ∷ (G /q P) ∷ [])
      ((qv 0 ⊠ ((qv 4 ⊟ (qv 6 ⊠ qv 4 ⊞ ## 0)) ⊠ qv 11) ⊑ qv 0 ⊠ (qv 2 ⊞ (qv 5 ⊠ qv 2 ⊞ qv 7)) by 1)
      ∷ ((qv 4 ⊟ (qv 6 ⊠ qv 4 ⊞ ## 0)) ⊠ qv 12 ⊑ (qv 5 ⊠ qv 2 ⊞ qv 7) ⊞ qv 3 ⊠ (qv 6 ⊠ qv 4 ⊞ ## 0) by 1)
      ∷ ((qv 0 ⊠ (## 1 ⊞ qv 5) ⊞ qv 5) ⊠ qv 2 ⊑ (qv 0 ⊠ (## 1 ⊞ qv 5) ⊞ qv 5) ⊠ (qv 3 ⊠ qv 4) by 1)
      ∷ (qv 3 ⊠ qv 4 ⊠ (qv 0 ⊠ (## 1 ⊞ qv 5) ⊞ qv 5 ⊞ qv 6) ⊑ qv 3 ⊠ qv 4 ⊠ (qv 8 ⊠ (## 1 ⊟ qv 6)) by 1)
      ∷ ((## 1 ⊞ qv 0) ⊠ qv 7 ⊑ (qv 9 ⊟ qv 1) ⊠ (## 1 ⊟ qv 6) ⊠ qv 10 by 1)
      ∷ ((qv 9 ⊟ qv 1) ⊠ (## 1 ⊟ qv 6) ⊠ qv 10 ⊑ (qv 9 ⊟ qv 1) ⊠ (## 1 ⊟ qv 6) ⊠ qv 4 by 1)
      ∷ [])
      0
      ((qv 4 ⊟ (qv 6 ⊠ qv 4 ⊞ ## 0)) ⊠ (qv 0 ⊠ qv 11 ⊞ qv 1 ⊞ qv 12))
      ((qv 4 ⊟ (qv 6 ⊠ qv 4 ⊞ ## 0)) ⊠ (qv 8 ⊠ qv 3 ⊞ qv 9))
      tt
      (*_mono (frac_nonneg 1 (2 ^ prec binary64)) (times_P F))
      (times_P G)
      (*_mono p.1.1.1.1.1.1.0 B_is)
      (*_mono D_W p.1.1.1.0)
      p.1.1.1.1.1.0
      (*_mono p.1.1.1.1.0 h))

  pub rel_⊘ : T (all (quotient_claims M b k l t k' t')) → Rel (x ⊘ y) (z /q w) (B /q absq w) M k' t'
  rel_⊘ c = let p = facts (quotient_claims M b k l t k' t') c in record { est = weaken (est_div binary64 X.est Y.est (absq w) P_pos (≤_refl (absq w)) (quotient_size p)) (≤_refl (B /q absq w)) (quotient_error p); bound = m }

-- ---- with no error of their own
pub rel_neg : {x : Float} {z B M k t : ℚ} → Rel x z B M k t → Rel (neg x) (negq z) B M k t
rel_neg X = record { est = est_neg binary64 X.est; bound = X.bound }

pub rel_absolute : {x : Float} {z B M k t : ℚ} → Rel x z B M k t → Rel (absolute x) (absq z) B M k t
rel_absolute X = record { est = est_absolute binary64 X.est; bound = X.bound }
