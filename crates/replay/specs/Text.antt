-- Answers as text, in the form in which a script writes them.
use Rattle.std.specs.Prelude.{ℕ, zero, suc, ◌+◌, ◌/◌, ◌%◌, cond, List, [], ◌∷◌, ◌++◌, eqb, Float, Option, Some, None}
use Rattle.hex_text.specs.Text.{number_text}
use Rattle.device.specs.declared.ChargeHistory.{ChargeHistory}
use Rattle.device.specs.declared.Discretisation.{Discretisation}
use Rattle.device.specs.declared.Discretisation.TheVariants as Discretisation
use Rattle.device.specs.declared.Discretisation.TheVariants.{Euler, Trapezoid, Gear}
use Rattle.device.specs.declared.NodeId.{NodeId}
use Rattle.device.specs.declared.NodeId.TheVariants.{Ground, At}

-- the decimal digits of x, at most k of them, before `behind`; none for 0
unfoldable pub decimal : ℕ → ℕ → List ℕ → List ℕ
decimal zero x behind = behind
decimal (suc k) x behind = cond (eqb x 0) behind (decimal k (x / 10) ((48 + x % 10) ∷ behind))

-- a number of 64 bits has twenty digits at most; 0 has one
unfoldable pub whole_text : ℕ → List ℕ
whole_text x = decimal 19 (x / 10) ((48 + x % 10) ∷ [])

-- the elements' texts, one behind the other
unfoldable pub each_by : {A : Type 0} → (A → List ℕ) → List A → List ℕ
each_by text [] = []
each_by text (x ∷ xs) = text x ++ each_by text xs

-- a list after a space, commas between; the empty list is `-`
unfoldable pub list_by : {A : Type 0} → (A → List ℕ) → List A → List ℕ
list_by {A} text [] = 32 ∷ 45 ∷ []
list_by {A} text (x ∷ xs) = ((32 ∷ []) ++ text x) ++ each_by (λ (y : A). (44 ∷ []) ++ text y) xs

-- ground is `-`
unfoldable pub node_text : NodeId → List ℕ
node_text Ground = 45 ∷ []
node_text (At n) = whole_text n

unfoldable pub given_text : Option Float → List ℕ
given_text None = 110 ∷ 111 ∷ 110 ∷ 101 ∷ []
given_text (Some x) = number_text x

-- the last charge, the one before or none, the last current
unfoldable pub history_text : ChargeHistory → List ℕ
history_text h = number_text h.q_prev ++ (47 ∷ [] ++ (given_text h.q_prev2 ++ (47 ∷ [] ++ number_text h.i_prev)))

-- `none`, `euler:`, `trap:` or `gear:` and the step lengths
unfoldable pub method_text : Discretisation → List ℕ
method_text Discretisation.None = 110 ∷ 111 ∷ 110 ∷ 101 ∷ []
method_text (Euler h) = 101 ∷ 117 ∷ 108 ∷ 101 ∷ 114 ∷ 58 ∷ [] ++ number_text h
method_text (Trapezoid h) = 116 ∷ 114 ∷ 97 ∷ 112 ∷ 58 ∷ [] ++ number_text h
method_text (Gear h before) = 103 ∷ 101 ∷ 97 ∷ 114 ∷ 58 ∷ [] ++ (number_text h ++ (58 ∷ [] ++ number_text before))

-- two nodes and a value, after a space
unfoldable pub between_text : NodeId → NodeId → Float → List ℕ
between_text pos neg x = 32 ∷ [] ++ (node_text pos ++ (58 ∷ [] ++ (node_text neg ++ (58 ∷ [] ++ number_text x))))
