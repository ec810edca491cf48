-- The line that `curve` prints for a point.
use Rattle.std.specs.Prelude.{ℕ, List, [], ◌∷◌, ◌++◌, Float, Option, Some, None}
use Rattle.hex_text.specs.Text.{number_text}
use Rattle.device.specs.declared.OperatingPoint.{OperatingPoint}

-- a number and what stands behind it
unfoldable pub column : Float → List ℕ → List ℕ
column x behind = number_text x ++ behind

-- ids gm gds gmbs jeq, a space between and a newline behind
unfoldable pub point_text : OperatingPoint → List ℕ
unfolding column
point_text p =
    column p.ids_eval (32 ∷ [])
    ++ (column p.gm (32 ∷ []) ++ (column p.gds (32 ∷ []) ++ (column p.gmbs (32 ∷ []) ++ column p.jeq (10 ∷ []))))

-- `bad` for a bad line
unfoldable pub answer_text : Option OperatingPoint → List ℕ
unfolding point_text
answer_text (Some p) = point_text p
answer_text None = 98 ∷ 97 ∷ 100 ∷ 10 ∷ []
