-- The larger of two exact fractions, and the largest of four.
use mathlib.Core.Path.{◌≡◌, refl}
use mathlib.Core.Bool.{Bool, true, false, not, cond}
use mathlib.Core.Logic.{◌⊎◌, inl, inr}
use lib.Dec.{T, nleb→lt}
use native.Mathlib.Nat.{le_of_lt}
use Prim.Native.Nat.{◌+◌, ◌*◌}
use Rattle.exact.specs.Fraction.{ℚ, nat, ◌*q◌, ◌≤q◌, ◌<q◌, ◌≈q◌, leqb, maxq, max4}
use Rattle.exact.proofs.FractionLaws.{≈_sym, ≤_of_≈, ≤_refl, ≤_trans, ≤_antisym, *_mono, lit_≤}

-- ---- the test that decides
leqb_no : (x y : ℚ) → T (not (leqb x y)) → y ≤q x
unfolding leqb
leqb_no x y t = record { le = le_of_lt (nleb→lt (x.p * y.d + y.q * x.d) (y.p * x.d + x.q * y.d) t) }

-- what holds of y where x ≤ y, and of x where y ≤ x, holds of the larger
pub max_by : (P : ℚ → Type 0) (x y : ℚ) → (x ≤q y → P y) → (y ≤q x → P x) → P (maxq x y)
unfolding maxq
max_by P x y f g = go (leqb x y) (λ t. f (lit_≤ {x = x} {y = y} t)) (λ t. g (leqb_no x y t))
  where
    go : (b : Bool) → (T b → P y) → (T (not b) → P x) → P (cond b y x)
    go true h k = h tt
    go false h k = k tt

-- ---- of two
pub ≤_max_l : (x y : ℚ) → x ≤q maxq x y
≤_max_l x y = max_by (λ z. x ≤q z) x y (λ h. h) (λ h. ≤_refl x)

pub ≤_max_r : (x y : ℚ) → y ≤q maxq x y
≤_max_r x y = max_by (λ z. y ≤q z) x y (λ h. ≤_refl y) (λ h. h)

pub max_≤ : {x y b : ℚ} → x ≤q b → y ≤q b → maxq x y ≤q b
max_≤ {x} {y} {b} f g = max_by (λ z. z ≤q b) x y (λ h. g) (λ h. f)

pub max_< : {x y b : ℚ} → x <q b → y <q b → maxq x y <q b
max_< {x} {y} {b} f g = max_by (λ z. z <q b) x y (λ h. g) (λ h. f)

pub max_either : (x y : ℚ) → (maxq x y ≡ x) ⊎ (maxq x y ≡ y)
max_either x y = max_by (λ z. (z ≡ x) ⊎ (z ≡ y)) x y (λ h. inr refl) (λ h. inl refl)

pub max_mono : {x y z w : ℚ} → x ≤q z → y ≤q w → maxq x y ≤q maxq z w
max_mono {x} {y} {z} {w} f g = max_≤ (≤_trans f (≤_max_l z w)) (≤_trans g (≤_max_r z w))

pub max_cong : {x y z w : ℚ} → x ≈q z → y ≈q w → maxq x y ≈q maxq z w
max_cong e f = ≤_antisym (max_mono (≤_of_≈ e) (≤_of_≈ f)) (max_mono (≤_of_≈ (≈_sym e)) (≤_of_≈ (≈_sym f)))

pub max_comm : (x y : ℚ) → maxq x y ≈q maxq y x
max_comm x y = ≤_antisym (max_≤ (≤_max_r y x) (≤_max_l y x)) (max_≤ (≤_max_r x y) (≤_max_l x y))

pub max_is_l : {x y : ℚ} → y ≤q x → maxq x y ≈q x
max_is_l {x} {y} h = ≤_antisym (max_≤ (≤_refl x) h) (≤_max_l x y)

pub max_is_r : {x y : ℚ} → x ≤q y → maxq x y ≈q y
max_is_r {x} {y} h = ≤_antisym (max_≤ h (≤_refl y)) (≤_max_r x y)

pub max_nonneg_l : (x y : ℚ) → nat 0 ≤q x → nat 0 ≤q maxq x y
max_nonneg_l x y h = ≤_trans h (≤_max_l x y)

pub max_nonneg_r : (x y : ℚ) → nat 0 ≤q y → nat 0 ≤q maxq x y
max_nonneg_r x y h = ≤_trans h (≤_max_r x y)

-- a factor that is not negative goes through
pub *_max : {c : ℚ} (x y : ℚ) → nat 0 ≤q c → c *q maxq x y ≈q maxq (c *q x) (c *q y)
*_max {c} x y C = ≤_antisym (max_by (λ z. c *q z ≤q maxq (c *q x) (c *q y)) x y (λ h. ≤_max_r (c *q x) (c *q y)) (λ h. ≤_max_l (c *q x) (c *q y))) (max_≤ (*_mono C (≤_max_l x y)) (*_mono C (≤_max_r x y)))

-- ---- of four
module _ (x y z w : ℚ) where
  pub ≤_max4_1 : x ≤q max4 x y z w
  unfolding max4
  ≤_max4_1 = ≤_trans (≤_max_l x y) (≤_max_l (maxq x y) (maxq z w))

  pub ≤_max4_2 : y ≤q max4 x y z w
  unfolding max4
  ≤_max4_2 = ≤_trans (≤_max_r x y) (≤_max_l (maxq x y) (maxq z w))

  pub ≤_max4_3 : z ≤q max4 x y z w
  unfolding max4
  ≤_max4_3 = ≤_trans (≤_max_l z w) (≤_max_r (maxq x y) (maxq z w))

  pub ≤_max4_4 : w ≤q max4 x y z w
  unfolding max4
  ≤_max4_4 = ≤_trans (≤_max_r z w) (≤_max_r (maxq x y) (maxq z w))

  pub max4_nonneg : nat 0 ≤q x → nat 0 ≤q max4 x y z w
  max4_nonneg h = ≤_trans h ≤_max4_1

pub max4_≤ : {x y z w b : ℚ} → x ≤q b → y ≤q b → z ≤q b → w ≤q b → max4 x y z w ≤q b
unfolding max4
max4_≤ f g h k = max_≤ (max_≤ f g) (max_≤ h k)

pub max4_mono : {x y z w x' y' z' w' : ℚ} → x ≤q x' → y ≤q y' → z ≤q z' → w ≤q w' → max4 x y z w ≤q max4 x' y' z' w'
unfolding max4
max4_mono f g h k = max_mono (max_mono f g) (max_mono h k)

pub max4_cong : {x y z w x' y' z' w' : ℚ} → x ≈q x' → y ≈q y' → z ≈q z' → w ≈q w' → max4 x y z w ≈q max4 x' y' z' w'
unfolding max4
max4_cong f g h k = max_cong (max_cong f g) (max_cong h k)
