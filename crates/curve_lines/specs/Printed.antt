-- What `curve` prints. Document 01: "prints `ids gm gds gmbs jeq` and a line each; any other line, or one under row 9, prints `bad`
-- and ends it."
use Rattle.std.specs.Prelude.{ℕ, Bool, true, false, cond, List, [], ◌∷◌, ◌++◌, eqb, Option, Some, None}
use Rattle.curve_text.specs.Answer.{answer_text}
use Rattle.device.specs.declared.OperatingPoint.{OperatingPoint}
use Rattle.channel_curve.specs.Curve.{point_of}

-- `ids gm gds gmbs jeq` and a newline
unfoldable pub heading : List ℕ
heading =
    105 ∷ 100 ∷ 115 ∷ 32 ∷ 103 ∷ 109 ∷ 32 ∷ 103 ∷ 100 ∷ 115 ∷ 32 ∷ 103 ∷ 109 ∷ 98 ∷ 115 ∷ 32 ∷ 106 ∷ 101 ∷ 113 ∷ 10 ∷ []

-- the lines of an input: a newline ends each, and may be missing behind the last
unfoldable pub longer : ℕ → List (List ℕ) → List (List ℕ)
longer b [] = (b ∷ []) ∷ []
longer b (line ∷ rest) = (b ∷ line) ∷ rest

unfoldable pub lines_of : List ℕ → List (List ℕ)
lines_of [] = []
lines_of (b ∷ s) = cond (eqb b 10) ([] ∷ lines_of s) (longer b (lines_of s))

unfoldable pub is_bad : Option OperatingPoint → Bool
is_bad (Some p) = false
is_bad None = true

-- an answer for each line, up to the first bad one
unfoldable pub answers_to : List (List ℕ) → List ℕ
answers_to [] = []
answers_to (line ∷ rest) = answer_text (point_of line) ++ cond (is_bad (point_of line)) [] (answers_to rest)

unfoldable pub printed : List ℕ → List ℕ
printed input = heading ++ answers_to (lines_of input)
