-- Closeness: |x - y| ≤ e, and how it composes.
use mathlib.Core.List.{[], ◌∷◌}
use Rattle.exact.specs.Fraction.{ℚ, nat, ◌+q◌, negq, ◌-q◌, ◌*q◌, absq, maxq, ◌≤q◌, ◌≈q◌, Within}
pub use Rattle.exact.proofs.AbsoluteValue.{le_abs, neg_le_abs, abs_nonneg, abs_le}
use Rattle.exact.proofs.AbsoluteValue.{abs_neg}
use Rattle.exact.proofs.Maximum.{max_by, ≤_max_l, ≤_max_r}
use Rattle.exact.proofs.FractionLaws.{≈_sym, *_comm, ≤_of_≈, ≤_refl, ≤_trans, *_mono}
use Rattle.exact.proofs.FractionProver.{qv, ##, ◌⊞◌, ◌⊟◌, ◌⊠◌, ⊝, leq, linq, ◌⊑◌by◌}

-- ---- |x - y| ≤ e, as one fact
pub within_abs : {x y e : ℚ} → absq (x -q y) ≤q e → Within x y e
within_abs {x} {y} {e} h = record {
  above = ≤_trans (le_abs (x -q y)) h;
  below = linq (x ∷ y ∷ e ∷ absq (x -q y) ∷ []) ((⊝ (qv 0 ⊟ qv 1) ⊑ qv 3 by 1) ∷ (qv 3 ⊑ qv 2 by 1) ∷ []) 0 (qv 1 ⊟ qv 0) (qv 2) tt (neg_le_abs (x -q y)) h;
}

pub abs_within : {x y e : ℚ} → Within x y e → absq (x -q y) ≤q e
abs_within {x} {y} {e} w = abs_le w.above (linq (x ∷ y ∷ e ∷ []) ((qv 1 ⊟ qv 0 ⊑ qv 2 by 1) ∷ []) 0 (⊝ (qv 0 ⊟ qv 1)) (qv 2) tt w.below)

pub within_refl : (x : ℚ) → Within x x (nat 0)
within_refl x = record { above = leq (x ∷ []) (qv 0 ⊟ qv 0) (## 0) tt; below = leq (x ∷ []) (qv 0 ⊟ qv 0) (## 0) tt }

pub within_sym : {x y e : ℚ} → Within x y e → Within y x e
within_sym w = record { above = w.below; below = w.above }

-- the triangle inequality
pub within_trans : {x y z e f : ℚ} → Within x y e → Within y z f → Within x z (e +q f)
within_trans {x} {y} {z} {e} {f} a b = record {
  above = linq (x ∷ y ∷ z ∷ e ∷ f ∷ []) ((qv 0 ⊟ qv 1 ⊑ qv 3 by 1) ∷ (qv 1 ⊟ qv 2 ⊑ qv 4 by 1) ∷ []) 0 (qv 0 ⊟ qv 2) (qv 3 ⊞ qv 4) tt a.above b.above;
  below = linq (x ∷ y ∷ z ∷ e ∷ f ∷ []) ((qv 1 ⊟ qv 0 ⊑ qv 3 by 1) ∷ (qv 2 ⊟ qv 1 ⊑ qv 4 by 1) ∷ []) 0 (qv 2 ⊟ qv 0) (qv 3 ⊞ qv 4) tt a.below b.below;
}

pub within_mono : {x y e f : ℚ} → Within x y e → e ≤q f → Within x y f
within_mono w h = record { above = ≤_trans w.above h; below = ≤_trans w.below h }

pub within_+ : {x y z w e f : ℚ} → Within x y e → Within z w f → Within (x +q z) (y +q w) (e +q f)
within_+ {x} {y} {z} {w} {e} {f} a b =
    let ρ = x ∷ y ∷ z ∷ w ∷ e ∷ f ∷ [] in record {
      above = linq ρ ((qv 0 ⊟ qv 1 ⊑ qv 4 by 1) ∷ (qv 2 ⊟ qv 3 ⊑ qv 5 by 1) ∷ []) 0 (qv 0 ⊞ qv 2 ⊟ (qv 1 ⊞ qv 3)) (qv 4 ⊞ qv 5) tt a.above b.above;
      below = linq ρ ((qv 1 ⊟ qv 0 ⊑ qv 4 by 1) ∷ (qv 3 ⊟ qv 2 ⊑ qv 5 by 1) ∷ []) 0 (qv 1 ⊞ qv 3 ⊟ (qv 0 ⊞ qv 2)) (qv 4 ⊞ qv 5) tt a.below b.below;
    }

pub within_neg : {x y e : ℚ} → Within x y e → Within (negq x) (negq y) e
within_neg {x} {y} {e} w = let ρ = x ∷ y ∷ e ∷ [] in record {
  above = linq ρ ((qv 1 ⊟ qv 0 ⊑ qv 2 by 1) ∷ []) 0 (⊝ (qv 0) ⊟ ⊝ (qv 1)) (qv 2) tt w.below;
  below = linq ρ ((qv 0 ⊟ qv 1 ⊑ qv 2 by 1) ∷ []) 0 (⊝ (qv 1) ⊟ ⊝ (qv 0)) (qv 2) tt w.above;
}

pub within_minus : {x y z w e f : ℚ} → Within x y e → Within z w f → Within (x -q z) (y -q w) (e +q f)
unfolding ◌-q◌
within_minus a b = within_+ a (within_neg b)

-- an error is not negative
pub within_nonneg : {x y e : ℚ} → Within x y e → nat 0 ≤q e
within_nonneg {x} {y} {e} h = linq (x ∷ y ∷ e ∷ []) ((qv 0 ⊟ qv 1 ⊑ qv 2 by 1) ∷ (qv 1 ⊟ qv 0 ⊑ qv 2 by 1) ∷ []) 1 (## 0) (qv 2) tt h.above h.below

-- c (b - a) ≤ |c| e for |b - a| ≤ e: both signs of c
pub mul_within : (c : ℚ) {x y e : ℚ} → Within x y e → Within (c *q x) (c *q y) (absq c *q e)
mul_within c {x} {y} {e} w =
    let ρ = c ∷ x ∷ y ∷ e ∷ absq c ∷ [] in
    -- (|c| - c) ≥ 0 and (|c| + c) ≥ 0, e - (x - y) ≥ 0 and e - (y - x) ≥ 0
    let m : nat 0 ≤q absq c -q c = linq ρ ((qv 0 ⊑ qv 4 by 1) ∷ []) 0 (## 0) (qv 4 ⊟ qv 0) tt (le_abs c) in
    let p : nat 0 ≤q absq c +q c = linq ρ ((⊝ (qv 0) ⊑ qv 4 by 1) ∷ []) 0 (## 0) (qv 4 ⊞ qv 0) tt (neg_le_abs c) in
    record {
      above = linq ρ (((qv 4 ⊟ qv 0) ⊠ (qv 2 ⊟ qv 1) ⊑ (qv 4 ⊟ qv 0) ⊠ qv 3 by 1) ∷ ((qv 4 ⊞ qv 0) ⊠ (qv 1 ⊟ qv 2) ⊑ (qv 4 ⊞ qv 0) ⊠ qv 3 by 1) ∷ []) 1 (qv 0 ⊠ qv 1 ⊟ qv 0 ⊠ qv 2) (qv 4 ⊠ qv 3) tt (*_mono m w.below) (*_mono p w.above);
      below = linq ρ (((qv 4 ⊟ qv 0) ⊠ (qv 1 ⊟ qv 2) ⊑ (qv 4 ⊟ qv 0) ⊠ qv 3 by 1) ∷ ((qv 4 ⊞ qv 0) ⊠ (qv 2 ⊟ qv 1) ⊑ (qv 4 ⊞ qv 0) ⊠ qv 3 by 1) ∷ []) 1 (qv 0 ⊠ qv 2 ⊟ qv 0 ⊠ qv 1) (qv 4 ⊠ qv 3) tt (*_mono m w.above) (*_mono p w.below);
    }

pub within_≈ : {x y x' y' e : ℚ} → x ≈q x' → y ≈q y' → Within x y e → Within x' y' e
within_≈ {x} {y} {x'} {y'} {e} f g w =
    let ρ = x ∷ y ∷ x' ∷ y' ∷ e ∷ [] in
    let f₁ = ≤_of_≈ f in let f₂ = ≤_of_≈ (≈_sym f) in let g₁ = ≤_of_≈ g in let g₂ = ≤_of_≈ (≈_sym g) in record {
      above = linq ρ ((qv 2 ⊑ qv 0 by 1) ∷ (qv 1 ⊑ qv 3 by 1) ∷ (qv 0 ⊟ qv 1 ⊑ qv 4 by 1) ∷ []) 0 (qv 2 ⊟ qv 3) (qv 4) tt f₂ g₁ w.above;
      below = linq ρ ((qv 0 ⊑ qv 2 by 1) ∷ (qv 3 ⊑ qv 1 by 1) ∷ (qv 1 ⊟ qv 0 ⊑ qv 4 by 1) ∷ []) 0 (qv 3 ⊟ qv 2) (qv 4) tt f₁ g₂ w.below;
    }

-- |ab - cd| ≤ |a| |b - d| + |d| |a - c|
pub within_* : {a b c d e f : ℚ} → Within a c e → Within b d f → Within (a *q b) (c *q d) (absq a *q f +q absq d *q e)
within_* {a} {b} {c} {d} A B = within_trans (mul_within a B) (within_≈ (*_comm d a) (*_comm d c) (mul_within d A))

-- ---- sizes
pub abs_within_0 : {x e : ℚ} → absq x ≤q e → Within x (nat 0) e
abs_within_0 {x} {e} h = let ρ = x ∷ e ∷ absq x ∷ [] in record {
  above = linq ρ ((qv 0 ⊑ qv 2 by 1) ∷ (qv 2 ⊑ qv 1 by 1) ∷ []) 0 (qv 0 ⊟ ## 0) (qv 1) tt (le_abs x) h;
  below = linq ρ ((⊝ (qv 0) ⊑ qv 2 by 1) ∷ (qv 2 ⊑ qv 1 by 1) ∷ []) 0 (## 0 ⊟ qv 0) (qv 1) tt (neg_le_abs x) h;
}

-- |x| ≤ |y| + e
pub abs_of_within : {x y e b : ℚ} → Within x y e → absq y ≤q b → absq x ≤q b +q e
abs_of_within {x} {y} {e} {b} w h = let ρ = x ∷ y ∷ e ∷ b ∷ absq y ∷ [] in
    abs_le
    (linq ρ ((qv 0 ⊟ qv 1 ⊑ qv 2 by 1) ∷ (qv 1 ⊑ qv 4 by 1) ∷ (qv 4 ⊑ qv 3 by 1) ∷ []) 0 (qv 0) (qv 3 ⊞ qv 2) tt w.above (le_abs y) h)
    (linq ρ ((qv 1 ⊟ qv 0 ⊑ qv 2 by 1) ∷ (⊝ (qv 1) ⊑ qv 4 by 1) ∷ (qv 4 ⊑ qv 3 by 1) ∷ []) 0 (⊝ (qv 0)) (qv 3 ⊞ qv 2) tt w.below (neg_le_abs y) h)

pub *_mono₂ : {x y a b : ℚ} → nat 0 ≤q x → nat 0 ≤q y → x ≤q a → y ≤q b → x *q y ≤q a *q b
*_mono₂ {x} {y} {a} {b} X Y f g = ≤_trans (*_mono X g) (≤_trans (≤_of_≈ (*_comm x b)) (≤_trans (*_mono (≤_trans Y g) f) (≤_of_≈ (*_comm b a))))

-- |x y| ≤ |x| |y|
pub abs_* : (x y : ℚ) → absq (x *q y) ≤q absq x *q absq y
abs_* x y =
    let w : Within (x *q y) (x *q nat 0) (absq x *q absq y) = mul_within x (abs_within_0 (≤_refl (absq y))) in
    let ρ = x ∷ y ∷ absq x ∷ absq y ∷ [] in
    abs_le
    (linq ρ ((qv 0 ⊠ qv 1 ⊟ qv 0 ⊠ ## 0 ⊑ qv 2 ⊠ qv 3 by 1) ∷ []) 0 (qv 0 ⊠ qv 1) (qv 2 ⊠ qv 3) tt w.above)
    (linq ρ ((qv 0 ⊠ ## 0 ⊟ qv 0 ⊠ qv 1 ⊑ qv 2 ⊠ qv 3 by 1) ∷ []) 0 (⊝ (qv 0 ⊠ qv 1)) (qv 2 ⊠ qv 3) tt w.below)

pub abs_*_le : (x y : ℚ) {a b : ℚ} → absq x ≤q a → absq y ≤q b → absq (x *q y) ≤q a *q b
abs_*_le x y f g = ≤_trans (abs_* x y) (*_mono₂ (abs_nonneg x) (abs_nonneg y) f g)

pub abs_+_le : (x y : ℚ) {a b : ℚ} → absq x ≤q a → absq y ≤q b → absq (x +q y) ≤q a +q b
abs_+_le x y {a} {b} f g = let ρ = x ∷ y ∷ a ∷ b ∷ absq x ∷ absq y ∷ [] in
    abs_le
    (linq ρ ((qv 0 ⊑ qv 4 by 1) ∷ (qv 4 ⊑ qv 2 by 1) ∷ (qv 1 ⊑ qv 5 by 1) ∷ (qv 5 ⊑ qv 3 by 1) ∷ []) 0 (qv 0 ⊞ qv 1) (qv 2 ⊞ qv 3) tt (le_abs x) f (le_abs y) g)
    (linq ρ ((⊝ (qv 0) ⊑ qv 4 by 1) ∷ (qv 4 ⊑ qv 2 by 1) ∷ (⊝ (qv 1) ⊑ qv 5 by 1) ∷ (qv 5 ⊑ qv 3 by 1) ∷ []) 0 (⊝ (qv 0 ⊞ qv 1)) (qv 2 ⊞ qv 3) tt (neg_le_abs x) f (neg_le_abs y) g)

pub abs_minus_le : (x y : ℚ) {a b : ℚ} → absq x ≤q a → absq y ≤q b → absq (x -q y) ≤q a +q b
unfolding ◌-q◌
abs_minus_le x y f g = abs_+_le x (negq y) f (≤_trans (≤_of_≈ (abs_neg y)) g)

-- ---- | |x| - |y| | ≤ |x - y|
pub within_abs_abs : {x y e : ℚ} → Within x y e → Within (absq x) (absq y) e
within_abs_abs {x} {y} {e} w = let ρ = absq x ∷ absq y ∷ e ∷ [] in record {
  above = linq ρ ((qv 0 ⊑ qv 1 ⊞ qv 2 by 1) ∷ []) 0 (qv 0 ⊟ qv 1) (qv 2) tt (abs_of_within w (≤_refl (absq y)));
  below = linq ρ ((qv 1 ⊑ qv 0 ⊞ qv 2 by 1) ∷ []) 0 (qv 1 ⊟ qv 0) (qv 2) tt (abs_of_within (within_sym w) (≤_refl (absq x)));
}

-- ---- two maxima
max_shift : (x y z w : ℚ) {e f : ℚ} → x -q z ≤q e → y -q w ≤q f → maxq x y -q maxq z w ≤q maxq e f
max_shift x y z w {e} {f} a b =
    max_by (λ v. v -q maxq z w ≤q maxq e f) x y
    (λ h. linq (y ∷ w ∷ f ∷ maxq z w ∷ maxq e f ∷ []) ((qv 0 ⊟ qv 1 ⊑ qv 2 by 1) ∷ (qv 1 ⊑ qv 3 by 1) ∷ (qv 2 ⊑ qv 4 by 1) ∷ []) 0 (qv 0 ⊟ qv 3) (qv 4) tt b (≤_max_r z w) (≤_max_r e f))
    (λ h. linq (x ∷ z ∷ e ∷ maxq z w ∷ maxq e f ∷ []) ((qv 0 ⊟ qv 1 ⊑ qv 2 by 1) ∷ (qv 1 ⊑ qv 3 by 1) ∷ (qv 2 ⊑ qv 4 by 1) ∷ []) 0 (qv 0 ⊟ qv 3) (qv 4) tt a (≤_max_l z w) (≤_max_l e f))

pub within_max : {x y z w e f : ℚ} → Within x z e → Within y w f → Within (maxq x y) (maxq z w) (maxq e f)
within_max {x} {y} {z} {w} a b = record { above = max_shift x y z w a.above b.above; below = max_shift z w x y a.below b.below }
