-- What is printed for a piece of the input, and the line that it leaves unfinished. The law `prints_all` says that the pieces of
-- an input together print what `printed` says of the whole.
use Rattle.std.specs.Prelude.{ℕ, ◌+◌, cond, List, [], ◌∷◌, ◌++◌, eqb, ltb, take, set, replicate, Option, Some, None}
use Rattle.curve_text.specs.Answer.{answer_text}
use Rattle.device.specs.declared.OperatingPoint.{OperatingPoint}
use Rattle.channel_curve.specs.Curve.{point_of}
use Rattle.curve_lines.specs.declared.Line.{Line}

-- no byte of a line is read
unfoldable pub new_line : Line
new_line = record { bytes = replicate 34 0; len = 0 }

-- the bytes of the line so far, 34 at most
unfoldable pub kept : Line → List ℕ
kept line = take line.len line.bytes

unfoldable pub longer_line : Line → ℕ → Line
longer_line line b = cond (ltb line.len 34) (record { bytes = set line.bytes line.len b; len = line.len + 1 }) line

-- the line behind one that gave this: none behind a bad one, which ends the run
unfoldable pub line_behind : Option OperatingPoint → Option Line
line_behind (Some p) = Some new_line
line_behind None = None

-- one byte: a newline ends the line, and behind a bad line nothing is read
unfoldable pub line_after : Option Line → ℕ → Option Line
line_after (Some line) b = cond (eqb b 10) (line_behind (point_of (kept line))) (Some (longer_line line b))
line_after None b = None

unfoldable pub text_after : Option Line → ℕ → List ℕ
text_after (Some line) b = cond (eqb b 10) (answer_text (point_of (kept line))) []
text_after None b = []

-- a piece
unfoldable pub line_of : Option Line → List ℕ → Option Line
line_of line [] = line
line_of line (b ∷ s) = line_of (line_after line b) s

unfoldable pub text_of : Option Line → List ℕ → List ℕ
text_of line [] = []
text_of line (b ∷ s) = text_after line b ++ text_of (line_after line b) s

-- the end of the input: a last line without a newline is a line
unfoldable pub last_text : Option Line → List ℕ
last_text (Some line) = cond (eqb line.len 0) [] (answer_text (point_of (kept line)))
last_text None = []

-- an input that comes in pieces: the whole of it, and what is printed for the pieces one after another, behind the heading
unfoldable pub input_of : List (List ℕ) → List ℕ
input_of [] = []
input_of (s ∷ rest) = s ++ input_of rest

unfoldable pub pieces_text : Option Line → List (List ℕ) → List ℕ
pieces_text line [] = last_text line
pieces_text line (s ∷ rest) = text_of line s ++ pieces_text (line_of line s) rest
