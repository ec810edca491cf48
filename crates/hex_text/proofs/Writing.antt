-- Writing a number digit by digit.
use Rattle.std.proofs.Common.{ℕ, suc, ◌+◌, ◌-◌, ◌*◌, ◌/◌, ◌%◌, ◌^◌, ◌<◌, ◌≡◌, ◌∙◌, ap, ◌∷◌, arith}
use Rattle.hex_text.specs.Text.{byte_of, digits_of}

-- the digit that a turn writes
pub digits_front : (b k : ℕ) → k < 16 → digits_of (16 - k) b ≡ byte_of (b / 2 ^ (60 - 4 * k) % 16) ∷ digits_of (16 - (k + 1)) b
unfolding digits_of
digits_front b k h = ap (λ (j : ℕ). digits_of j b) more ∙ ap (λ (s : ℕ). byte_of (b / 2 ^ s % 16) ∷ digits_of (16 - (k + 1)) b) place
  where
    more : 16 - k ≡ suc (16 - (k + 1))
    more = omega arith

    place : 4 * (16 - (k + 1)) ≡ 60 - 4 * k
    place = omega arith
