use Rattle.std.proofs.Common.{ℕ, ◌≡◌, sym, ◌∙◌, ap, ap₂, refl, List, ◌++◌, length, take, drop, set, get_or, arith, rules, add-one}
use Rattle.std.specs.Prelude.{map}
use lib.Ieee.{Float, nan}
use Rattle.logarithm.specs.declared.Log.{Log}
use Rattle.power.specs.Power.{pow_from, pow_of}
use Rattle.power.proofs.Mapping.{one_more, all}
use Rattle.power.proofs.powers.Goals as goal

pub loop-p-init : goal.loop-p-init
loop-p-init g c = refl

pub loop-p-preserved : goal.loop-p-preserved
loop-p-preserved g c =
    let f = pow_from c.log_of-l.result in
    let xs = c.args.exponents in
    let i = c.loop-p.p-index in
    let I = c.loop-p.invariant in
    let n : length xs ≡ g.row.N = search rules in
    ap₂ (λ (l : List Float) (v : Float). set l i v) I (c.pow_of.ensures ∙ ap (λ (l : List Float). f (get_or l i nan)) I)
    ∙ one_more f nan xs i (omega arith)
    ∙ ap (λ (j : ℕ). map f (take j xs) ++ drop j xs) (sym (add-one i))

pub returns : goal.returns
unfolding pow_of
returns g c =
    let n : length c.args.exponents ≡ g.row.N = search rules in
    c.loop-p.invariant ∙ all (pow_from c.log_of-l.result) c.args.exponents c.loop-p.p-index (omega arith) ∙ ap (λ (l : Log). map (pow_from l) c.args.exponents) c.log_of-l.ensures
