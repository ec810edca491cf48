-- exp at the rounded quotient of v by vt, against E at the exact quotient: within 1260 units of 2^-53 relative, where |v| is at most 500 vt.
-- The rounding moves the argument by up to 501 units; E moves by twice that (`E_shift`), and exp is within 2^-45, 256 units, of E at the rounded argument.
use Prim.Native.Nat.{ℕ, ◌+◌, ◌-◌, ◌*◌, ◌^◌}
use mathlib.Core.List.{[], ◌∷◌}
use lib.Dec.{T}
use lib.Ieee.{Float, binary64}
use lib.Ieee.Fits.{div-fits}
use lib.Ieee.Scale.{finite}
use Rattle.exact.specs.Fraction.{ℚ, ◌//◌, nat, ◌+q◌, ◌-q◌, ◌*q◌, ◌/q◌, absq, ◌≤q◌, ◌<q◌, Within}
use Rattle.exact.specs.FloatValue.{value, err, tiny}
use Rattle.exact.specs.Float64.{◌⊘◌}
use Rattle.exact.proofs.FractionLaws.{≈_refl, ≤_trans, ≤_of_≈, *_mono, lit_≤}
use Rattle.exact.proofs.FractionProver.{qv, ##, ◌÷◌, ◌⊞◌, ◌⊟◌, ◌⊠◌, leq, req, linq, ◌⊑◌by◌}
use Rattle.exact.proofs.StrictOrder.{not_≈_of_>}
use Rattle.exact.proofs.AbsoluteValue.{le_abs, abs_of_nonneg, abs_mono_≈}
use Rattle.exact.proofs.Closeness.{abs_within, abs_+_le, within_≈, within_mono}
use Rattle.exact.proofs.FractionDivision.{abs_div_le, mul_div_cancel}
use Rattle.exact.proofs.Rounding.{rounds, div_rounded_q}
use Rattle.exact.proofs.RelativeErrors.{Rel}
use Rattle.exact.proofs.Computing.{computing}
use Rattle.elementary.specs.Accuracy.{E, Enough}
use Rattle.elementary.proofs.Series.{E_cong, E_nonneg, E_at_most, tails, E_shift}
use Rattle.elementary.specs.Functions.{exp_of}
use Rattle.elementary.proofs.Laws.{exp_close}

-- a float e that stands for the number z, E at some argument
abbrev pub ExponentialClose : Float → ℚ → Type 0
ExponentialClose e z = Rel e z z (nat (2 ^ 722)) (1260 // 2 ^ 53) (nat 0)

-- ---- closed comparisons
tiny_small : tiny binary64 ≤q 1 // 2 ^ 53
unfolding computing
tiny_small = lit_≤ tt

tails_small : tails ≤q 1 // 2 ^ 55
unfolding computing
tails_small = lit_≤ tt

-- ---- two errors one after the other: x within 2^-45 of X, and X within 1003 units of e
module _ {x X e : ℚ} (e₀ : nat 0 ≤q e) (near : Within x X (1 // 2 ^ 45 *q X)) (moved : Within X e (1003 // 2 ^ 53 *q e)) where
  both_errors : Within x e (1260 // 2 ^ 53 *q e +q nat 0)
  both_errors = record {
    above =
        linq (x ∷ X ∷ e ∷ []) ((qv 0 ⊟ qv 1 ⊑ 1 ÷ 2 ^ 45 ⊠ qv 1 by 2 ^ 98) ∷ (qv 1 ⊟ qv 2 ⊑ 1003 ÷ 2 ^ 53 ⊠ qv 2 by 2 ^ 98 + 2 ^ 53) ∷ (## 0 ⊑ qv 2 by 2 ^ 45 - 1003) ∷ [])
        (2 ^ 98 - 1) (qv 0 ⊟ qv 2) (1260 ÷ 2 ^ 53 ⊠ qv 2 ⊞ ## 0) tt near.above moved.above e₀;
    below =
        linq (x ∷ X ∷ e ∷ []) ((qv 1 ⊟ qv 0 ⊑ 1 ÷ 2 ^ 45 ⊠ qv 1 by 2 ^ 98) ∷ (qv 2 ⊟ qv 1 ⊑ 1003 ÷ 2 ^ 53 ⊠ qv 2 by 2 ^ 98) ∷ (qv 1 ⊟ qv 2 ⊑ 1003 ÷ 2 ^ 53 ⊠ qv 2 by 2 ^ 53) ∷ (## 0 ⊑ qv 2 by 2 ^ 45 - 1003) ∷ [])
        (2 ^ 98 - 1) (qv 2 ⊟ qv 0) (1260 ÷ 2 ^ 53 ⊠ qv 2 ⊞ ## 0) tt near.below moved.below moved.above e₀;
  }

module _ (v vt : Float) (v_finite : T (finite v)) (vt_finite : T (finite vt)) (positive : nat 0 <q value vt) (near : absq (value v) ≤q nat 500 *q value vt) where
  abbrev q : ℚ
  q = value v /q value vt

  pub quotient_size : absq q ≤q nat 500
  quotient_size = ≤_trans (abs_div_le (value v) (value vt) positive near (le_abs (value vt))) (≤_of_≈ (mul_div_cancel (nat 500) (value vt) (not_≈_of_> positive)))

  rounded : T (finite (v ⊘ vt)) × Within (value (v ⊘ vt)) q (err binary64 q)
  rounded = rounds binary64 (v ⊘ vt) q (div_rounded_q binary64 v vt v_finite vt_finite (not_≈_of_> positive)) (≤_trans quotient_size (leq [] (## 500) (## (2 ^ 1023)) tt))

  -- how far the rounding moves the argument
  abbrev d : ℚ
  d = value (v ⊘ vt) -q q

  d_size : absq d ≤q 501 // 2 ^ 53
  d_size =
      linq (absq d ∷ absq q ∷ tiny binary64 ∷ []) ((qv 0 ⊑ 1 ÷ 2 ^ 53 ⊠ qv 1 ⊞ qv 2 by 2 ^ 53) ∷ (qv 1 ⊑ ## 500 by 1) ∷ (qv 2 ⊑ 1 ÷ 2 ^ 53 by 2 ^ 53) ∷ []) (2 ^ 53 - 1) (qv 0) (501 ÷ 2 ^ 53) tt
      (abs_within rounded.1) quotient_size tiny_small

  sum_size : absq (q +q d) ≤q nat 501
  sum_size = ≤_trans (abs_+_le q d quotient_size d_size) (leq [] (## 500 ⊞ 501 ÷ 2 ^ 53) (## 501) tt)

  argument_size : absq (value (v ⊘ vt)) ≤q nat 501
  argument_size = ≤_trans (abs_mono_≈ (req (q ∷ value (v ⊘ vt) ∷ []) (qv 1) (qv 0 ⊞ (qv 1 ⊟ qv 0)) tt tt)) sum_size

  module _ (N : ℕ) (n : Enough N) where
    e₀ : nat 0 ≤q E N q
    e₀ = E_nonneg N q

    moved : Within (E N (value (v ⊘ vt))) (E N q) (1003 // 2 ^ 53 *q E N q)
    moved =
        within_mono
        (within_≈ (E_cong N (req (q ∷ value (v ⊘ vt) ∷ []) (qv 0 ⊞ (qv 1 ⊟ qv 0)) (qv 1) tt tt)) (≈_refl (E N q))
        (E_shift {K = N} {N = N} {x = q} d n n (record { size = ≤_trans quotient_size (leq [] (## 500) (## 1000) tt) }) (record { size = ≤_trans sum_size (leq [] (## 501) (## 1000) tt) }) (≤_trans d_size (leq [] (501 ÷ 2 ^ 53) (1 ÷ 4) tt))))
        (linq (E N q ∷ absq d ∷ tails ∷ []) ((qv 0 ⊠ qv 1 ⊑ qv 0 ⊠ 501 ÷ 2 ^ 53 by 2) ∷ (qv 0 ⊠ qv 2 ⊑ qv 0 ⊠ 1 ÷ 2 ^ 55 by 4) ∷ []) 0 ((## 2 ⊠ qv 1 ⊞ ## 4 ⊠ qv 2) ⊠ qv 0) (1003 ÷ 2 ^ 53 ⊠ qv 0) tt
        (*_mono e₀ d_size) (*_mono e₀ tails_small))

    -- e = exp(v / vt), with E at the exact quotient as its exact value and its scale
    pub exponential_close : ExponentialClose (exp_of (v ⊘ vt)) (E N q)
    exponential_close =
        let c = exp_close (v ⊘ vt) (div-fits binary64 v vt) rounded.0 (≤_trans argument_size (leq [] (## 501) (## 700) tt)) in
        record {
          est = record { fin = c.is_finite; size = ≤_of_≈ (abs_of_nonneg e₀); close = both_errors e₀ (c.within N n) moved };
          bound = E_at_most 722 N (≤_trans (le_abs q) (≤_trans quotient_size (leq [] (## 500) ((722 * 6931) ÷ 10000) tt)));
        }
