-- How large the root is: against any representable bound, against powers of two, in order, and how close its square is to the number.
use Rattle.std.proofs.Common.{◌^◌, T, [], ◌∷◌, ℤ, ◌+ℤ◌}
use lib.Ieee.{Float, binary64, fits}
use Rattle.exact.specs.Fraction.{ℚ, ◌//◌, nat, ◌+q◌, ◌-q◌, ◌*q◌, ◌≤q◌, ◌<q◌, ◌≈q◌, Within}
use Rattle.exact.specs.FloatValue.{value}
use Rattle.exact.specs.Size.{NonNegative, Positive, AtMost, AtLeast, held}
use Rattle.exact.proofs.FractionLaws.{≈_sym, ≈_trans, zero_*, +_comm, *_cong, *_mono, ≤_of_≈, ≤_trans}
use Rattle.exact.proofs.Closeness.{le_abs}
use Rattle.exact.proofs.AbsoluteValue.{abs_of_nonneg}
use Rattle.exact.proofs.StrictOrder.{≤_of_<, <_of_≤_not_≈, <_≤_trans, ≤_<_trans, <_trans, <_irrefl, not_<_of_≤, ≤_of_not_<, *_nonneg, nat_nonneg}
use Rattle.exact.proofs.FractionProver.{qv, ##, ◌÷◌, ◌⊞◌, ◌⊟◌, ◌⊠◌, linq, ◌⊑◌by◌}
use Rattle.exact.proofs.Representable.{Representable, fits_representable}
use Rattle.exact.proofs.Sizes.{exp2_pos, exp2_+, exp2_representable}
use Rattle.square_root.specs.SquareRoot.{sqrt_of}
use Rattle.square_root.specs.CorrectlyRounded.{square_of_sum}
use Rattle.square_root.proofs.Rooted.{Rooted, rooted, nearer_above, nearer_below, close}

-- 4 a² ≤ (r + a)² for 0 ≤ a ≤ r, and the other way round for 0 ≤ r ≤ a
square_below : (r a : ℚ) → nat 0 ≤q a → a ≤q r → nat 4 *q (a *q a) ≤q square_of_sum r a
square_below r a A h =
    let ρ = r ∷ a ∷ [] in
    let d : nat 0 ≤q r -q a = linq ρ ((qv 1 ⊑ qv 0 by 1) ∷ []) 0 (## 0) (qv 0 ⊟ qv 1) tt h in
    let s : nat 0 ≤q r +q nat 3 *q a = linq ρ ((## 0 ⊑ qv 1 by 4) ∷ (qv 1 ⊑ qv 0 by 1) ∷ []) 0 (## 0) (qv 0 ⊞ ## 3 ⊠ qv 1) tt A h in
    linq ρ ((## 0 ⊑ (qv 0 ⊟ qv 1) ⊠ (qv 0 ⊞ ## 3 ⊠ qv 1) by 1) ∷ []) 0 (## 4 ⊠ (qv 1 ⊠ qv 1)) ((qv 0 ⊞ qv 1) ⊠ (qv 0 ⊞ qv 1)) tt (*_nonneg d s)

square_above : (r a : ℚ) → nat 0 ≤q r → r ≤q a → square_of_sum r a ≤q nat 4 *q (a *q a)
square_above r a A h =
    let ρ = r ∷ a ∷ [] in
    let d : nat 0 ≤q a -q r = linq ρ ((qv 0 ⊑ qv 1 by 1) ∷ []) 0 (## 0) (qv 1 ⊟ qv 0) tt h in
    let s : nat 0 ≤q nat 3 *q a +q r = linq ρ ((## 0 ⊑ qv 0 by 4) ∷ (qv 0 ⊑ qv 1 by 3) ∷ []) 0 (## 0) (## 3 ⊠ qv 1 ⊞ qv 0) tt A h in
    linq ρ ((## 0 ⊑ (qv 1 ⊟ qv 0) ⊠ (## 3 ⊠ qv 1 ⊞ qv 0) by 1) ∷ []) 0 ((qv 0 ⊞ qv 1) ⊠ (qv 0 ⊞ qv 1)) (## 4 ⊠ (qv 1 ⊠ qv 1)) tt (*_nonneg d s)

module _ (x : Float) (h : T (fits binary64 x)) (n : NonNegative x) where
  abbrev r : ℚ
  r = value (sqrt_of x)

  R : Rooted x (sqrt_of x)
  R = rooted x h n

  pub root_non_negative : NonNegative (sqrt_of x)
  root_non_negative = R.sign

  pub root_fits : T (fits binary64 (sqrt_of x))
  root_fits = R.held

  -- |r² − x| ≤ 2^-51 x
  pub root_close : Within (value (sqrt_of x) *q value (sqrt_of x)) (value x) (1 // 2 ^ 51 *q value x)
  root_close = close R

  -- a bound for the root is one for the rounded root, if the format holds it
  pub root_≤ : {w : ℚ} → Representable binary64 w → nat 0 ≤q w → value x ≤q w *q w → value (sqrt_of x) ≤q w
  root_≤ {w} p W l =
      ≤_of_not_< (λ (g : w <q r).
      <_irrefl (square_of_sum r w) (<_≤_trans (nearer_below R p W g) (≤_trans (*_mono (nat_nonneg 4) l) (square_below r w W (≤_of_< g)))))

  pub root_≥ : {w : ℚ} → Representable binary64 w → nat 0 ≤q w → w *q w ≤q value x → w ≤q value (sqrt_of x)
  root_≥ {w} p W l =
      ≤_of_not_< (λ (g : r <q w).
      <_irrefl (nat 4 *q value x) (<_≤_trans (nearer_above R p W g) (≤_trans (square_above r w R.sign.sign (≤_of_< g)) (*_mono (nat_nonneg 4) l))))

  -- 2^a bounds the root where 2^(2a) bounds the number
  pub root_at_most : (a : ℤ) → T (held a) → AtMost x (a +ℤ a) → AtMost (sqrt_of x) a
  root_at_most a p b = record {
    fin = R.sign.fin;
    size = ≤_trans (≤_of_≈ (abs_of_nonneg R.sign.sign)) (root_≤ (exp2_representable a p) (≤_of_< (exp2_pos a)) (≤_trans (le_abs (value x)) (≤_trans b.size (≤_of_≈ (exp2_+ a a)))));
  }

  pub root_at_least : (a : ℤ) → T (held a) → AtLeast x (a +ℤ a) → AtLeast (sqrt_of x) a
  root_at_least a p b = record {
    fin = R.sign.fin;
    size = ≤_trans (root_≥ (exp2_representable a p) (≤_of_< (exp2_pos a)) (≤_trans (≤_of_≈ (≈_sym (exp2_+ a a))) (≤_trans b.size (≤_of_≈ (abs_of_nonneg n.sign))))) (le_abs r);
  }

-- a root of 0 would be too far from a number above 0
pub root_positive : (x : Float) → T (fits binary64 x) → Positive x → Positive (sqrt_of x)
root_positive x h n =
    let p : NonNegative x = record { fin = n.fin; sign = ≤_of_< n.sign } in
    let r = value (sqrt_of x) in
    record {
      fin = (root_non_negative x h p).fin;
      sign = <_of_≤_not_≈ (root_non_negative x h p).sign (λ (e : nat 0 ≈q r). not_<_of_≤ (none r (value x) (≈_sym e) (root_close x h p).below) n.sign);
    }
  where
    none : (r x : ℚ) → r ≈q nat 0 → x -q r *q r ≤q 1 // 2 ^ 51 *q x → x ≤q nat 0
    none r x e l =
        let z : r *q r ≤q nat 0 = ≤_of_≈ (≈_trans (*_cong e e) (zero_* (nat 0))) in
        linq (r ∷ x ∷ []) ((qv 1 ⊟ qv 0 ⊠ qv 0 ⊑ 1 ÷ 2 ^ 51 ⊠ qv 1 by 2251799813685248) ∷ (qv 0 ⊠ qv 0 ⊑ ## 0 by 2251799813685248) ∷ []) 2251799813685246 (qv 1) (## 0) tt l z

-- the larger number has the larger root
pub root_mono : (x y : Float) → T (fits binary64 x) → T (fits binary64 y) → NonNegative x → NonNegative y → value x ≤q value y → value (sqrt_of x) ≤q value (sqrt_of y)
root_mono x y h k n m l =
    let R = rooted x h n in
    let S = rooted y k m in
    let r = value (sqrt_of x) in
    let s = value (sqrt_of y) in
    ≤_of_not_< (λ (g : s <q r).
    <_irrefl (square_of_sum r s)
    (<_trans (nearer_below R (fits_representable binary64 (sqrt_of y) S.sign.fin S.held) S.sign.sign g)
    (≤_<_trans (*_mono (nat_nonneg 4) l)
    (<_≤_trans (nearer_above S (fits_representable binary64 (sqrt_of x) R.sign.fin R.held) R.sign.sign g) (≤_of_≈ (*_cong (+_comm s r) (+_comm s r)))))))
