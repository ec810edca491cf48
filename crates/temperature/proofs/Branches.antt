-- What a path through a function's tests says of the definition's `cond`.
use mathlib.Core.Path.{◌≡◌, refl, sym, ap, ◌∙◌}
use mathlib.Core.Bool.{Bool, true, false, ◌||◌, cond}
use lib.Ieee.{Float}
use Rattle.exact.specs.Float64.{◌≤f◌, +0}

pub yes : {b : Bool} (x y : Float) → b ≡ true → x ≡ cond b x y
yes x y e = ap (λ (b : Bool). cond b x y) (sym e)

pub no : {b : Bool} (x y : Float) → b ≡ false → y ≡ cond b x y
no x y e = ap (λ (b : Bool). cond b x y) (sym e)

pub or_second : (a : Bool) {b : Bool} → b ≡ true → a || b ≡ true
or_second true e = refl
or_second false e = e

pub or_neither : {a b : Bool} → a ≡ false → b ≡ false → a || b ≡ false
or_neither {a} {b} e f = ap (λ (a : Bool). a || b) e ∙ f

-- the test of both temperatures, by its first part, by its second, and failed
pub first : (t tnom x y : Float) → (t ≤f +0) ≡ true → x ≡ cond ((t ≤f +0) || (tnom ≤f +0)) x y
first t tnom x y e = yes x y (ap (λ (a : Bool). a || (tnom ≤f +0)) e)

pub second : (t tnom x y : Float) → (tnom ≤f +0) ≡ true → x ≡ cond ((t ≤f +0) || (tnom ≤f +0)) x y
second t tnom x y e = yes x y (or_second (t ≤f +0) e)

pub neither : (t tnom x y : Float) → (t ≤f +0) ≡ false → (tnom ≤f +0) ≡ false → y ≡ cond ((t ≤f +0) || (tnom ≤f +0)) x y
neither t tnom x y e f = no x y (or_neither e f)
