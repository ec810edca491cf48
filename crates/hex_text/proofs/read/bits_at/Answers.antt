use Rattle.std.proofs.Common.{◌≡◌, ◌+◌, ◌*◌, ◌<◌, sym, ◌∙◌, ap, [], length, drop, take, arith, length-drop}
use Rattle.std.proofs.lemmas.List.{drop_all, length-take-le}
use Rattle.hex_text.specs.Hex.{digits_after}
use Rattle.hex_text.proofs.Digits.{digit_small, goes_on, stops, too_few, enough, rest, more, fits}
use Rattle.hex_text.proofs.read.bits_at.Goals as goal

pub returns-in_err-get : goal.returns-in_err-get
returns-in_err-get c = let g = c.in_err-get.ensures.lookup.0 in c.from_residual.ensures ∙ sym (too_few c.args.s.now c.args.at (grind arith))

pub returns-in_err-digits : goal.returns-in_err-digits
returns-in_err-digits c =
    let s = c.args.s.now in
    let at = c.args.at in
    let from = c.in_ok-get.ensures.lookup.0 in
    let few = c.in_err-digits.ensures.lookup.0 in
    let r : c.in_ok-get.field-0.now ≡ drop at s = rest s at _ from.0 from.2 in
    let l : length c.in_ok-get.field-0.now ≡ length (drop at s) = ap length r in
    c.from_residual-in_err-digits.ensures ∙ sym (too_few s at (grind (arith, length-drop at s)))

pub loop-b-init : goal.loop-b-init
loop-b-init c =
    let s = c.args.s.now in
    let at = c.args.at in
    let from = c.in_ok-get.ensures.lookup.0 in
    let upto = c.in_ok-digits.ensures.lookup.0 in
    let r : c.in_ok-get.field-0.now ≡ drop at s = rest s at _ from.0 from.2 in
    let l : length c.in_ok-get.field-0.now ≡ length (drop at s) = ap length r in
    let d : c.in_ok-digits.digits.now ≡ take 16 (drop at s) = upto.2 ∙ ap (take 16) r in
    (ap length d ∙ length-take-le 16 (drop at s) (omega arith), omega arith, enough s at (omega (arith, length-drop at s)) ∙ ap (digits_after 0) (sym d))

pub overflow_mul-n : goal.overflow_mul-n
overflow_mul-n c = omega (arith, fits (c.loop-b.n * 16 + 0) c.loop-b.b-index (omega arith) (more c.loop-b.n 0 c.loop-b.b-index c.loop-b.invariant.1 (omega arith)))

pub returns-in_err-n : goal.returns-in_err-n
returns-in_err-n c =
    let L = c.loop-b in
    c.from_residual-in_err-n.ensures ∙ sym (L.invariant.2 ∙ stops c.in_ok-digits.digits.now L.b-index L.n (omega arith) (sym c.digit.ensures ∙ c.in_err-n.was))

pub overflow_add-n : goal.overflow_add-n
overflow_add-n c =
    let L = c.loop-b in
    let d = c.in_ok-n.field-0 in
    let small : d < 16 = digit_small _ d (sym c.digit.ensures ∙ c.in_ok-n.was) in
    omega (arith, fits (L.n * 16 + d) L.b-index (omega arith) (more L.n d L.b-index L.invariant.1 small))

pub loop-b-preserved : goal.loop-b-preserved
loop-b-preserved c =
    let L = c.loop-b in
    let d = c.in_ok-n.field-0 in
    let is = sym c.digit.ensures ∙ c.in_ok-n.was in
    (L.invariant.0, more L.n d L.b-index L.invariant.1 (digit_small _ d is), L.invariant.2 ∙ goes_on c.in_ok-digits.digits.now L.b-index L.n (omega arith) d is)

pub returns : goal.returns
unfolding digits_after
returns c =
    let L = c.loop-b in
    let none : drop L.b-index c.in_ok-digits.digits.now ≡ [] = drop_all L.b-index c.in_ok-digits.digits.now (omega arith) in
    sym (L.invariant.2 ∙ ap (digits_after L.n) none)
