use Prim.Native.Nat.{ℕ, ◌+◌, ◌-◌, ◌/◌, ◌%◌}
use mathlib.Core.Path.{◌≡◌, refl, sym, ◌∙◌, ap, ap₂}
use mathlib.Core.List.{List, [], ◌∷◌}
use native.Mathlib.Omega.{arith}
use native.Mathlib.Nat.{le_of_eq}
use lib.ListN.{length, take, drop, set, length-set, length-drop}
use lib.Seq.{take_all}
use Rattle.hex_text.specs.Text.{end_of, text_at}
use Rattle.replay.specs.Text.{whole_text, decimal}
use Rattle.hex_text.proofs.Joining.{length_text}
use Rattle.replay.proofs.answers.Decimal.{stored_before, no_room, nothing_left, one_digit}
use Rattle.replay.proofs.answers.put_whole.Goals as goal

pub loop-first-init : goal.loop-first-init
unfolding whole_text
loop-first-init c = let A = c.args in let D = c.digit_byte in (omega arith, refl, refl, ap (λ (b : ℕ). decimal 19 (A.x / 10) (b ∷ [])) (sym D.ensures))

pub shape_of-out-then-rest-eq0 : goal.shape_of-out-then-rest-eq0
shape_of-out-then-rest-eq0 c =
    let A = c.args in let L = c.loop-first in
    ap length c.put_text.ensures.out_after ∙ length_text L.out A.at (take (20 - L.first) (drop L.first L.digits)) ∙ ap length L.invariant.2

pub returns-then-rest-eq0 : goal.returns-then-rest-eq0
returns-then-rest-eq0 c =
    let A = c.args in let L = c.loop-first in let P = c.put_text in
    let text : take (20 - L.first) (drop L.first L.digits) ≡ whole_text A.x = take_all (20 - L.first) (drop L.first L.digits) (le_of_eq (length-drop L.first L.digits ∙ ap (λ (n : ℕ). n - L.first) L.invariant.1)) ∙ sym (L.invariant.3 ∙ nothing_left L.first L.rest (drop L.first L.digits) c.if-rest-eq0.true) in
    record { value = P.ensures.value ∙ ap₂ (λ (o s : List ℕ). end_of (length o) A.at s) L.invariant.2 text; out_after = P.ensures.out_after ∙ ap₂ (λ (o s : List ℕ). text_at o A.at s) L.invariant.2 text }

pub loop-first-preserved : goal.loop-first-preserved
loop-first-preserved c =
    let A = c.args in let L = c.loop-first in let D = c.digit_byte-in-loop-first in
    let one_less : L.first - 1 + 1 ≡ L.first = omega arith in
    let kept : drop (L.first - 1) (set L.digits (L.first - 1) D.result) ≡ (48 + L.rest % 10) ∷ drop L.first L.digits = stored_before L.digits (L.first - 1) D.result (omega arith) ∙ ap₂ (λ (b j : ℕ). b ∷ drop j L.digits) D.ensures one_less in (
      omega arith,
      length-set L.digits (L.first - 1) D.result ∙ L.invariant.1,
      L.invariant.2,
      L.invariant.3 ∙ one_digit L.first L.rest (drop L.first L.digits) (omega arith) c.if-rest-eq0.false ∙ ap (decimal (L.first - 1) (L.rest / 10)) (sym kept),
    )

pub shape_of-out : goal.shape_of-out
shape_of-out c =
    let A = c.args in let L = c.loop-first in
    ap length c.put_text-2.ensures.out_after ∙ length_text L.out A.at (take (20 - L.first) (drop L.first L.digits)) ∙ ap length L.invariant.2

pub returns : goal.returns
returns c =
    let A = c.args in let L = c.loop-first in let P = c.put_text-2 in
    let text : take (20 - L.first) (drop L.first L.digits) ≡ whole_text A.x = take_all (20 - L.first) (drop L.first L.digits) (le_of_eq (length-drop L.first L.digits ∙ ap (λ (n : ℕ). n - L.first) L.invariant.1)) ∙ sym (L.invariant.3 ∙ no_room L.first L.rest (drop L.first L.digits) (omega arith)) in
    record { value = P.ensures.value ∙ ap₂ (λ (o s : List ℕ). end_of (length o) A.at s) L.invariant.2 text; out_after = P.ensures.out_after ∙ ap₂ (λ (o s : List ℕ). text_at o A.at s) L.invariant.2 text }
