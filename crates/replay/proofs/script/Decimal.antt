-- Reading decimal digits one after another.
use Rattle.std.proofs.Common.{◌≡◌, ℕ, ◌+◌, ◌<◌, ◌≤◌, List, ◌∷◌, Option, Some, length, get_or, drop, refl, ap, ◌∙◌, sym}
use Rattle.std.proofs.lemmas.List.{at_drop_more, at_drop_all}
use Rattle.std.specs.Option.{option_and_then}
use Rattle.replay.specs.Number.{whole_after, with_digit}

pub digit_read : (w : List ℕ) (i n : ℕ) → i < length w → whole_after n (drop i w) ≡ option_and_then (λ (m : ℕ). whole_after m (drop (i + 1) w)) (with_digit n (get_or w i 0))
unfolding whole_after
digit_read w i n h = at_drop_more (whole_after n) w i 0 h

pub all_read : (w : List ℕ) (i n : ℕ) → length w ≤ i → whole_after n (drop i w) ≡ Some n
unfolding whole_after
all_read w i n h = at_drop_all (whole_after n) w i h
