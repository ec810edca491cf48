-- What a single word writes, or nothing.
use Rattle.std.specs.Prelude.{ℕ, ◌+◌, ◌-◌, ◌*◌, cond, List, [], ◌∷◌, eqb, ltb, length, take, drop, Float, Option, Some, None, position, ◌==◌}
use Rattle.std.specs.Float.{nan, binary64}
use Rattle.std.specs.Float.Ieee.{of_bits}
use Rattle.std.specs.Option.{option_map, option_and_then}
use Rattle.std.specs.Str.{bytes_eq}
use Rattle.device.specs.declared.Discretisation.{Discretisation}
use Rattle.device.specs.declared.Discretisation.TheVariants as Discretisation
use Rattle.device.specs.declared.NodeId.{NodeId}
use Rattle.device.specs.declared.NodeId.TheVariants as NodeId
use Rattle.hex_text.specs.Hex.{bits_at}

-- `nan`, or sixteen hexadecimal digits
unfoldable pub number_of : List ℕ → Option Float
number_of w = cond (bytes_eq w (110 ∷ 97 ∷ 110 ∷ [])) (Some nan) (cond (eqb (length w) 16) (option_map (of_bits binary64) (bits_at w 0)) None)

-- a decimal digit after those that make n; a number of 64 bits at most
unfoldable pub with_digit : ℕ → ℕ → Option ℕ
with_digit n b =
    cond (ltb b 48) None (cond (ltb 57 b) None (cond (ltb (n * 10 + (b - 48)) 18446744073709551616) (Some (n * 10 + (b - 48))) None))

unfoldable pub whole_after : ℕ → List ℕ → Option ℕ
whole_after n [] = Some n
whole_after n (b ∷ s) = option_and_then (λ (m : ℕ). whole_after m s) (with_digit n b)

unfoldable pub whole_of : List ℕ → Option ℕ
whole_of w = cond (eqb (length w) 0) None (whole_after 0 w)

-- `-` is ground
unfoldable pub node_of : List ℕ → Option NodeId
node_of w = cond (bytes_eq w (45 ∷ [])) (Some NodeId.Ground) (option_map NodeId.At (whole_of w))

-- the place of a word's first colon
abbrev pub colon_in : List ℕ → Option ℕ
colon_in w = position (λ b. b == 58) w

-- what is made of the two parts of a word on either side of its first colon
unfoldable pub on_both : {A : Type 0} → (List ℕ → List ℕ → Option A) → List ℕ → Option A
on_both read w = option_and_then (λ (k : ℕ). read (take k w) (drop (k + 1) w)) (colon_in w)

-- `euler` and `trap` have one step length
unfoldable pub one_step : List ℕ → Float → Option Discretisation
one_step name h =
    cond
    (bytes_eq name (101 ∷ 117 ∷ 108 ∷ 101 ∷ 114 ∷ []))
    (Some (Discretisation.Euler h))
    (cond (bytes_eq name (116 ∷ 114 ∷ 97 ∷ 112 ∷ [])) (Some (Discretisation.Trapezoid h)) None)

-- `gear` has two, a colon between
unfoldable pub two_steps : List ℕ → List ℕ → Option Discretisation
two_steps first second =
    option_and_then (λ (h : Float). option_map (λ (before : Float). Discretisation.Gear h before) (number_of second)) (number_of first)

unfoldable pub steps_of : List ℕ → List ℕ → Option Discretisation
steps_of name steps =
    cond (bytes_eq name (103 ∷ 101 ∷ 97 ∷ 114 ∷ [])) (on_both two_steps steps) (option_and_then (one_step name) (number_of steps))

-- `none`, `euler:H`, `trap:H` or `gear:H:HPREV`
unfoldable pub method_of : List ℕ → Option Discretisation
method_of w = cond (bytes_eq w (110 ∷ 111 ∷ 110 ∷ 101 ∷ [])) (Some Discretisation.None) (on_both steps_of w)
