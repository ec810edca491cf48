use Rattle.std.proofs.Common.{◌≡◌, ℕ, [], ◌∷◌, ◌++◌, length, rules}
use Rattle.replay.specs.Text.{each_by}
use Rattle.hex_text.proofs.Joining.{Written, joined}
use Rattle.replay.proofs.answers.Lists.{none_listed, some_listed, written_as}
use Rattle.replay.proofs.answers.put_list.Goals as goal

pub returns-in-None : goal.returns-in-None
returns-in-None g c =
    let A = c.args in let P = c.put_text in
    let h : length A.xs.now ≡ 0 = search rules in
    let w : Written A.out.now A.at (32 ∷ 45 ∷ []) P.result P.new.out = record { ends = P.ensures.value; holds = P.ensures.out_after } in
    let all = written_as (none_listed g.T.Text.text A.xs.now h) w in
    record { value = all.ends; out_after = all.holds }

pub returns-in-Some : goal.returns-in-Some
returns-in-Some g c =
    let A = c.args in let X = c.in-Some in let P = c.put_behind-n in let Q = c.put_each in
    let e : A.xs.now ≡ X.first.now ∷ X.further.now = search rules in
    let v : Written A.out.now A.at ((32 ∷ []) ++ g.T.Text.text X.first.now) P.result P.new.out = record { ends = P.ensures.value; holds = P.ensures.out_after } in
    let w : Written P.new.out P.result (each_by (λ y. (44 ∷ []) ++ g.T.Text.text y) X.further.now) Q.result Q.new.out = record { ends = Q.ensures.value; holds = Q.ensures.out_after } in
    let all = written_as (some_listed g.T.Text.text A.xs.now X.first.now X.further.now e) (joined v w) in
    record { value = all.ends; out_after = all.holds }
