use mathlib.Core.Path.{◌≡◌, sym, ◌∙◌, ap}
use mathlib.Core.List.{[], ◌∷◌}
use lib.ListN.{length}
use Rattle.hex_text.specs.Text.{end_of, text_at}
use Rattle.device.specs.declared.NodeId.{NodeId}
use Rattle.device.specs.declared.NodeId.TheVariants.{Ground, At}
use Rattle.replay.specs.Text.{node_text, whole_text}
use Rattle.hex_text.proofs.Joining.{Written}
use Rattle.replay.proofs.answers.put_node.Goals as goal

pub returns-in-Ground : goal.returns-in-Ground
unfolding node_text
returns-in-Ground c =
    let A = c.args in
    let P1 = c.put_text in
    let v1 : Written A.out.now A.at (45 ∷ []) P1.result P1.new.out = record { ends = P1.ensures.value; holds = P1.ensures.out_after } in
    let all = v1 in
    let e : A.node ≡ Ground = c.in-Ground.is in
    record { value = all.ends ∙ ap (λ (q : NodeId). end_of (length A.out.now) A.at (node_text q)) (sym e); out_after = all.holds ∙ ap (λ (q : NodeId). text_at A.out.now A.at (node_text q)) (sym e) }

pub returns-in-At : goal.returns-in-At
unfolding node_text
returns-in-At c =
    let A = c.args in
    let P1 = c.put_whole in
    let v1 : Written A.out.now A.at (whole_text c.in-At.row) P1.result P1.new.out = record { ends = P1.ensures.value; holds = P1.ensures.out_after } in
    let all = v1 in
    let e : A.node ≡ At c.in-At.row = c.in-At.is in
    record { value = all.ends ∙ ap (λ (q : NodeId). end_of (length A.out.now) A.at (node_text q)) (sym e); out_after = all.holds ∙ ap (λ (q : NodeId). text_at A.out.now A.at (node_text q)) (sym e) }
