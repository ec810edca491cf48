use Rattle.std.proofs.Common.{ℕ, ◌-◌, ◌≡◌, sym, ◌∙◌, ap, List, [], ◌∷◌, length, arith}
use Rattle.std.specs.Prelude.{Bool, cond, set}
use Rattle.std.specs.Float.{binary64}
use Rattle.std.specs.Float.Ieee.{to_bits}
use Rattle.hex_text.specs.Text.{end_of, text_at, digits_of, number_text}
use Rattle.hex_text.proofs.Writing.{digits_front}
use Rattle.hex_text.proofs.Joining.{begun, one_byte, further, finished, left_is}
use Rattle.hex_text.proofs.write.put_number.Goals as goal

pub returns-then-is_nan : goal.returns-then-is_nan
unfolding number_text
returns-then-is_nan c =
    let P = c.put_text.ensures in
    let text = ap (λ (b : Bool). cond b (110 ∷ 97 ∷ 110 ∷ []) (digits_of 16 (to_bits binary64 c.args.x))) (sym c.if-is_nan.true ∙ c.is_nan.ensures.value) in
    record {
      value = P.value ∙ ap (λ (s : List ℕ). end_of (length c.args.out.now) c.args.at s) text;
      out_after = P.out_after ∙ ap (λ (s : List ℕ). text_at c.args.out.now c.args.at s) text;
    }

pub loop-k-init : goal.loop-k-init
unfolding number_text
loop-k-init c =
    let text = ap (λ (b : Bool). cond b (110 ∷ 97 ∷ 110 ∷ []) (digits_of 16 (to_bits binary64 c.args.x))) (sym c.is_nan.ensures.value ∙ c.if-is_nan.false) in
    left_is text (begun c.args.out.now c.args.at (number_text c.args.x))

pub loop-k-preserved : goal.loop-k-preserved
loop-k-preserved c =
    let P = c.put_byte-n.ensures in
    let L = c.loop-k in
    further (left_is (digits_front (to_bits binary64 c.args.x) L.k (omega arith)) L.invariant) (one_byte P.value (P.out_after ∙ ap (λ (b : ℕ). set L.out L.n b) c.digit_byte.ensures))

pub returns : goal.returns
unfolding digits_of
returns c =
    let none : 16 - c.loop-k.k ≡ 0 = omega arith in
    let W = finished (left_is (ap (λ (j : ℕ). digits_of j (to_bits binary64 c.args.x)) none) c.loop-k.invariant) in
    record { value = W.ends; out_after = W.holds }
