use Rattle.std.proofs.Common.{ℕ, ◌+◌, ◌*◌, ◌^◌, ◌<◌, sym, ◌∙◌, arith, ltb-true}
use Rattle.square_root.proofs.WholeRoot.{is_nearest}
use Rattle.square_root.proofs.searched.Goals as goal

number_pos : (hi lo : ℕ) → 0 < hi → 0 < hi * 2 ^ 64 + lo
number_pos hi lo h = omega arith

pub returns : goal.returns
returns c =
    let l = c.loop-q-2.invariant in
    let t = c.loop-q-2-test.false in
    (is_nearest _ _ (number_pos _ _ c.requires.0) l.0 (ltb-true _ _ (sym c.product_less-in-loop-q-2.ensures ∙ t)) l.2, l.1)
