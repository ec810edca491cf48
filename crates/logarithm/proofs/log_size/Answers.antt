use lib.Ieee.{Float, of_bits, lt, eq, ne}
use Rattle.exact.specs.Float64.{◌=f◌, +0, +1}
use Rattle.exponential.proofs.Ranges.{cond_yes, cond_then, cond_else}
use Rattle.logarithm.specs.Logarithm.{log_of, size_of_log, log_size_of}
use Rattle.logarithm.specs.declared.Log.TheVariants.{Undefined, BaseZero, BaseOne, Above, Below}
use Rattle.exact.proofs.Tests.{holds, is_false}
use Rattle.exact.proofs.PositivePatterns.{above_no_nan, bits_above}
use Rattle.logarithm.proofs.BelowOne.{with_sign}
use Rattle.logarithm.proofs.log_size.Goals as goal
use Rattle.logarithm.proofs.log_size.Goals.{else-b-via-then-b+then-b-2+else-b-3, else-b-via-then-b+else-b-2, else-b-via-else-b}
-- `logarithm::log_size` meets its contract. Assumes nothing.
use Rattle.std.proofs.Common.{◌≡◌, ℕ, ◌*◌, ◌^◌, ◌≤◌, Bool, true, false, cond, not, T, sym, refl, ap, ◌∙◌, subst, arith}

unequal : (x y : Float) → ne x y ≡ true → eq x y ≡ false
unfolding ne
unequal x y e = is_false (eq x y) (holds e)

is_true : (b : Bool) → not b ≡ false → b ≡ true
is_true true e = refl
is_true false e = sym e

equal : (x y : Float) → ne x y ≡ false → eq x y ≡ true
unfolding ne
equal x y e = is_true (eq x y) e

-- the size of a logarithm does not depend on its sign
size_either : (s : Bool) (r : ℕ) → r ≡ size_of_log (cond s (Below r) (Above r))
unfolding size_of_log
size_either true r = refl
size_either false r = refl

-- a base without a logarithm, or 1
no_size : (s : Bool) → 0xffff_ffff_ffff_ffff ≡ size_of_log (cond s BaseZero Undefined)
unfolding size_of_log
no_size true = refl
no_size false = refl

size_of_one : 0xffff_ffff_ffff_ffff ≡ size_of_log BaseOne
unfolding size_of_log
size_of_one = refl

-- the last answer is above every size
beyond : {A : Type 0} → 0xffff_ffff_ffff_ffff ≤ 760 * 2 ^ 53 → A
beyond h = absurd (omega (arith, h))

pub float_to_bits-b : goal.float_to_bits-b
unfolding of_bits
float_to_bits-b c = above_no_nan _ c.if-b.true

pub size_of_bits-requires : goal.size_of_bits-requires
unfolding of_bits
size_of_bits-requires c = bits_above _ (subst T (sym c.well_formed.0.1) tt) c.if-b.true c.if-b-2.true

pub returns-then-b-3 : goal.returns-then-b-3
unfolding of_bits log_size_of
returns-then-b-3 c =
    let log = with_sign c.args.b (subst T (sym c.well_formed.0.1) tt) c.if-b.true c.if-b-2.true (unequal _ _ c.if-b-3.true) _ c.size_of_bits.ensures in
    (size_either (lt c.args.b +1) _ ∙ ap size_of_log (sym log), λ h. log)

pub returns : goal.returns
unfolding of_bits log_size_of log_of
returns c = (
  elim c.else-b.branch [
    | else-b-via-then-b+then-b-2+else-b-3 w ↦ size_of_one ∙ ap size_of_log (cond_then _ _ _ _ w.if-b.true (cond_then _ _ _ _ w.if-b-2.true (cond_yes _ _ _ (equal _ _ w.if-b-3.false))))
    | else-b-via-then-b+else-b-2 w ↦ no_size false ∙ ap size_of_log (cond_then _ _ _ _ w.if-b.true (cond_else _ _ _ _ w.if-b-2.false refl))
    | else-b-via-else-b w ↦ no_size (c.args.b =f +0) ∙ ap size_of_log (cond_else _ _ _ _ w.if-b.false refl)
  ],
  λ h. beyond h,
)
