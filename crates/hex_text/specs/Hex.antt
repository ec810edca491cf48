-- Numbers written in hexadecimal: lower-case digits, the highest first.
use Rattle.std.specs.Prelude.{ℕ, ◌+◌, ◌-◌, ◌*◌, cond, List, [], ◌∷◌, ltb, length, take, drop, Option, Some, None}

-- what a digit's byte counts: 0 to 9 and a to f; no other byte is a digit
unfoldable pub digit_of : ℕ → Option ℕ
digit_of b = cond (ltb b 48) None (cond (ltb b 58) (Some (b - 48)) (cond (ltb b 97) None (cond (ltb b 103) (Some (b - 87)) None)))

-- what goes on with a digit, where there is one
unfoldable pub with_digit : Option ℕ → (ℕ → Option ℕ) → Option ℕ
with_digit (Some d) next = next d
with_digit None next = None

-- the digits s, after those that make n
unfoldable pub digits_after : ℕ → List ℕ → Option ℕ
digits_after n [] = Some n
digits_after n (b ∷ s) = with_digit (digit_of b) (λ (d : ℕ). digits_after (n * 16 + d) s)

-- the 64 bits that the sixteen bytes from `at` on write, where there are as many and all are digits
unfoldable pub bits_at : List ℕ → ℕ → Option ℕ
bits_at s at = cond (ltb (length s) (at + 16)) None (digits_after 0 (take 16 (drop at s)))
