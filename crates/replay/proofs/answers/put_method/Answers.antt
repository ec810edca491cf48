use mathlib.Core.Path.{◌≡◌, sym, ◌∙◌, ap}
use mathlib.Core.List.{[], ◌∷◌}
use lib.ListN.{length}
use Rattle.hex_text.specs.Text.{end_of, text_at, number_text}
use Rattle.device.specs.declared.Discretisation.{Discretisation}
use Rattle.device.specs.declared.Discretisation.TheVariants.{None, Euler, Trapezoid, Gear}
use Rattle.replay.specs.Text.{method_text}
use Rattle.hex_text.proofs.Joining.{Written, joined}
use Rattle.replay.proofs.answers.put_method.Goals as goal

pub returns-in-None : goal.returns-in-None
unfolding method_text
returns-in-None c =
    let A = c.args in
    let P1 = c.put_text in
    let v1 : Written A.out.now A.at (110 ∷ 111 ∷ 110 ∷ 101 ∷ []) P1.result P1.new.out = record { ends = P1.ensures.value; holds = P1.ensures.out_after } in
    let all = v1 in
    let e : A.disc ≡ None = c.in-None.is in
    record { value = all.ends ∙ ap (λ (q : Discretisation). end_of (length A.out.now) A.at (method_text q)) (sym e); out_after = all.holds ∙ ap (λ (q : Discretisation). text_at A.out.now A.at (method_text q)) (sym e) }

pub returns-in-Euler : goal.returns-in-Euler
unfolding method_text
returns-in-Euler c =
    let A = c.args in
    let P1 = c.put_text-n in
    let P2 = c.put_number in
    let v1 : Written A.out.now A.at (101 ∷ 117 ∷ 108 ∷ 101 ∷ 114 ∷ 58 ∷ []) P1.result P1.new.out = record { ends = P1.ensures.value; holds = P1.ensures.out_after } in
    let v2 : Written P1.new.out P1.result (number_text c.in-Euler.h) P2.result P2.new.out = record { ends = P2.ensures.value; holds = P2.ensures.out_after } in
    let all = joined v1 v2 in
    let e : A.disc ≡ Euler c.in-Euler.h = c.in-Euler.is in
    record { value = all.ends ∙ ap (λ (q : Discretisation). end_of (length A.out.now) A.at (method_text q)) (sym e); out_after = all.holds ∙ ap (λ (q : Discretisation). text_at A.out.now A.at (method_text q)) (sym e) }

pub returns-in-Trapezoid : goal.returns-in-Trapezoid
unfolding method_text
returns-in-Trapezoid c =
    let A = c.args in
    let P1 = c.put_text-n-in-Trapezoid in
    let P2 = c.put_number-in-Trapezoid in
    let v1 : Written A.out.now A.at (116 ∷ 114 ∷ 97 ∷ 112 ∷ 58 ∷ []) P1.result P1.new.out = record { ends = P1.ensures.value; holds = P1.ensures.out_after } in
    let v2 : Written P1.new.out P1.result (number_text c.in-Trapezoid.h) P2.result P2.new.out = record { ends = P2.ensures.value; holds = P2.ensures.out_after } in
    let all = joined v1 v2 in
    let e : A.disc ≡ Trapezoid c.in-Trapezoid.h = c.in-Trapezoid.is in
    record { value = all.ends ∙ ap (λ (q : Discretisation). end_of (length A.out.now) A.at (method_text q)) (sym e); out_after = all.holds ∙ ap (λ (q : Discretisation). text_at A.out.now A.at (method_text q)) (sym e) }

pub returns-in-Gear : goal.returns-in-Gear
unfolding method_text
returns-in-Gear c =
    let A = c.args in
    let P1 = c.put_text-a in
    let P2 = c.put_number-b in
    let P3 = c.put_text-c in
    let P4 = c.put_number-in-Gear in
    let v1 : Written A.out.now A.at (103 ∷ 101 ∷ 97 ∷ 114 ∷ 58 ∷ []) P1.result P1.new.out = record { ends = P1.ensures.value; holds = P1.ensures.out_after } in
    let v2 : Written P1.new.out P1.result (number_text c.in-Gear.h) P2.result P2.new.out = record { ends = P2.ensures.value; holds = P2.ensures.out_after } in
    let v3 : Written P2.new.out P2.result (58 ∷ []) P3.result P3.new.out = record { ends = P3.ensures.value; holds = P3.ensures.out_after } in
    let v4 : Written P3.new.out P3.result (number_text c.in-Gear.h_prev) P4.result P4.new.out = record { ends = P4.ensures.value; holds = P4.ensures.out_after } in
    let all = joined v1 (joined v2 (joined v3 v4)) in
    let e : A.disc ≡ Gear c.in-Gear.h c.in-Gear.h_prev = c.in-Gear.is in
    record { value = all.ends ∙ ap (λ (q : Discretisation). end_of (length A.out.now) A.at (method_text q)) (sym e); out_after = all.holds ∙ ap (λ (q : Discretisation). text_at A.out.now A.at (method_text q)) (sym e) }
