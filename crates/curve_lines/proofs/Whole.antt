-- The pieces of an input together print what `printed` says of the whole.
use Rattle.std.specs.Prelude.{Option, Some, None}
use Prim.Native.Nat.{ℕ}
use mathlib.Core.Path.{◌≡◌, refl, sym, ◌∙◌, ap, ap₂}
use mathlib.Core.Bool.{Bool, true, false, cond}
use mathlib.Core.List.{List, [], ◌∷◌, ◌++◌, append_assoc, append-nil}
use native.Mathlib.Omega.{arith}
use lib.Dec.{eqb}
use borrow.Author.Tests.{eq-eqb, ne_eqb}
use Rattle.curve_text.specs.Answer.{answer_text}
use Rattle.device.specs.declared.OperatingPoint.{OperatingPoint}
use Rattle.channel_curve.specs.Curve.{point_of}
use Rattle.curve_lines.specs.declared.Line.{Line}
use Rattle.curve_lines.specs.Printed.{heading, lines_of, longer, is_bad, answers_to, printed}
use Rattle.curve_lines.specs.Pieces.{new_line, kept, line_behind, longer_line, line_after, text_after, line_of, text_of, last_text, input_of, pieces_text}
use Rattle.curve_lines.proofs.Cutting.{ahead, ahead_line, ahead_none, ahead_longer}
use Rattle.curve_lines.proofs.Reading.{Holds, holds_none, holds_longer, same_point}

-- what is printed for the rest of an input
abbrev to_come : Option Line → List ℕ → List ℕ
to_come line s = text_of line s ++ last_text (line_of line s)

-- nothing behind a bad line
silent : (s : List ℕ) → to_come None s ≡ []
unfolding text_of line_of text_after line_after last_text
silent [] = refl
silent (b ∷ s) = silent s

-- the last line
last_one : (p : Option OperatingPoint) → answer_text p ++ cond (is_bad p) [] [] ≡ answer_text p
unfolding is_bad
last_one (Some p) = append-nil (answer_text (Some p))
last_one None = append-nil (answer_text None)

at_end : (line : Line) (k : List ℕ) → Holds line k → last_text (Some line) ≡ answers_to (ahead k [])
unfolding last_text answers_to ahead
at_end line [] h = simp (eq-eqb line.len 0 h.count)
at_end line (b ∷ k) h =
    let some : eqb line.len 0 ≡ false = ne_eqb line.len 0 (λ e. omega (arith, h.count)) in
    simp some (ap answer_text (same_point line (b ∷ k) h) ∙ sym (last_one (point_of (b ∷ k))) ∙ sym (ap answers_to (ahead_none b k)))

-- behind a newline: nothing where the line was bad
after_newline : (p : Option OperatingPoint) (s : List ℕ) → to_come (Some new_line) s ≡ answers_to (lines_of s) → to_come (line_behind p) s ≡ cond (is_bad p) [] (answers_to (lines_of s))
unfolding line_behind is_bad
after_newline (Some p) s rest = rest
after_newline None s rest = silent s

at_newline : (line : Line) (k : List ℕ) → Holds line k → (s : List ℕ) → to_come (Some new_line) s ≡ answers_to (lines_of s) → answer_text (point_of (kept line)) ++ text_of (line_behind (point_of (kept line))) s ++ last_text (line_of (line_behind (point_of (kept line))) s) ≡ answers_to (ahead k ([] ∷ lines_of s))
unfolding answers_to
at_newline line k h s rest =
    let p = point_of (kept line) in
    append_assoc (answer_text p) (text_of (line_behind p) s) (last_text (line_of (line_behind p) s))
    ∙ ap (λ (r : List ℕ). answer_text p ++ r) (after_newline p s rest)
    ∙ ap (λ (q : Option OperatingPoint). answer_text q ++ cond (is_bad q) [] (answers_to (lines_of s))) (same_point line k h)
    ∙ sym (ap answers_to (ahead_line k [] (lines_of s) ∙ ap (λ (l : List ℕ). l ∷ lines_of s) (append-nil k)))

-- from a line of which k is read: what is printed is what the lines of the whole say
pub from_here : (s : List ℕ) (line : Line) (k : List ℕ) → Holds line k → to_come (Some line) s ≡ answers_to (ahead k (lines_of s))
unfolding text_of line_of text_after line_after lines_of ahead
from_here [] line k h = at_end line k h
from_here (b ∷ s) line k h = by_test (eqb b 10) (from_here s new_line [] holds_none) (from_here s (longer_line line b) (k ++ (b ∷ [])) (holds_longer line k b h))
  where
    next : Bool → Option Line
    next t = cond t (line_behind (point_of (kept line))) (Some (longer_line line b))

    by_test : (t : Bool) → to_come (Some new_line) s ≡ answers_to (lines_of s) → to_come (Some (longer_line line b)) s ≡ answers_to (ahead (k ++ (b ∷ [])) (lines_of s)) → cond t (answer_text (point_of (kept line))) [] ++ text_of (next t) s ++ last_text (line_of (next t) s) ≡ answers_to (ahead k (cond t ([] ∷ lines_of s) (longer b (lines_of s))))
    by_test true fresh same = at_newline line k h s fresh
    by_test false fresh same = same ∙ sym (ap answers_to (ahead_longer k b (lines_of s)))

-- two pieces are one
text_pieces : (s : List ℕ) (line : Option Line) (t : List ℕ) → text_of line (s ++ t) ≡ text_of line s ++ text_of (line_of line s) t
unfolding text_of line_of
text_pieces [] line t = refl
text_pieces (b ∷ s) line t =
    ap (λ (r : List ℕ). text_after line b ++ r) (text_pieces s (line_after line b) t)
    ∙ sym (append_assoc (text_after line b) (text_of (line_after line b) s) (text_of (line_of (line_after line b) s) t))

line_pieces : (s : List ℕ) (line : Option Line) (t : List ℕ) → line_of line (s ++ t) ≡ line_of (line_of line s) t
unfolding line_of
line_pieces [] line t = refl
line_pieces (b ∷ s) line t = line_pieces s (line_after line b) t

together : (pieces : List (List ℕ)) (line : Option Line) → pieces_text line pieces ≡ to_come line (input_of pieces)
unfolding pieces_text input_of text_of line_of
together [] line = refl
together (s ∷ rest) line =
    ap (λ (r : List ℕ). text_of line s ++ r) (together rest (line_of line s))
    ∙ sym (append_assoc (text_of line s) (text_of (line_of line s) (input_of rest)) (last_text (line_of (line_of line s) (input_of rest))))
    ∙ sym (ap₂ (λ (x : List ℕ) (l : Option Line). x ++ last_text l) (text_pieces s line (input_of rest)) (line_pieces s line (input_of rest)))

-- for every input and every way in which it comes in pieces
pub prints_all : (pieces : List (List ℕ)) → heading ++ pieces_text (Some new_line) pieces ≡ printed (input_of pieces)
unfolding printed ahead
prints_all pieces = ap (λ (s : List ℕ). heading ++ s) (together pieces (Some new_line) ∙ from_here (input_of pieces) new_line [] holds_none)
