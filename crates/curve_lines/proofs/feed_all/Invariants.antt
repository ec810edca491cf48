use Rattle.std.proofs.Common.{◌≡◌, length, drop}
use Rattle.hex_text.specs.Text.{end_of, text_at}
use Rattle.curve_lines.specs.Pieces.{line_of, text_of}
use Rattle.curve_lines.proofs.feed_all.Given as goal

-- what the definitions make of the piece is what they make of the part that is left, from this line on and behind end
abbrev pub invariant-loop-b : goal.invariant-loop-b
invariant-loop-b l =
    (length l.out ≡ length l.initial.out)
    × (line_of l.line (drop l.b-index l.s) ≡ line_of l.initial.line l.s)
    × (end_of (length l.out) l.end (text_of l.line (drop l.b-index l.s)) ≡ end_of (length l.out) 0 (text_of l.initial.line l.s))
    × (text_at l.out l.end (text_of l.line (drop l.b-index l.s)) ≡ text_at l.initial.out 0 (text_of l.initial.line l.s))
