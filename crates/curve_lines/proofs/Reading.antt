-- The line that is being read holds the first 34 bytes of a line k, and these decide what the line gives.
use Rattle.std.specs.Prelude.{None}
use Prim.Native.Nat.{ℕ, ◌+◌, ◌≤◌, ◌<◌, min}
use mathlib.Core.Path.{◌≡◌, refl, sym, ◌∙◌, ap}
use mathlib.Core.Bool.{Bool, true, false, cond}
use mathlib.Core.List.{List, [], ◌∷◌, ◌++◌}
use native.Mathlib.Numerals.{add-one}
use native.Mathlib.Omega.{arith}
use lib.Dec.{ltb}
use lib.ListN.{length, take, set, length-set, length-append, length-take}
use lib.Seq.{take_all, take-append-le, take-suc-set}
use borrow.Author.Tests.{ltb-true, ltb-false, ne_eqb}
use Rattle.channel_curve.specs.Curve.{point_of}
use Rattle.curve_lines.specs.declared.Line.{Line}
use Rattle.curve_lines.specs.Pieces.{new_line, kept, longer_line}

pub record Holds (line : Line) (k : List ℕ) : Type 0 where
  pub room : length line.bytes ≡ 34
  pub count : line.len ≡ min (length k) 34
  pub first : kept line ≡ take 34 k

pub holds_none : Holds new_line []
unfolding new_line kept
holds_none = record { room = refl; count = refl; first = refl }

pub other_length : (w : List ℕ) → (length w ≡ 33 → ⊥) → point_of w ≡ None
unfolding point_of
other_length w h = simp (ne_eqb (length w) 33 h)

-- only the first 34 bytes of a line count: with more it is bad
pub same_point : (line : Line) (k : List ℕ) → Holds line k → point_of (kept line) ≡ point_of k
same_point line k h = ap point_of h.first ∙ by_test (ltb (length k) 34) refl
  where
    by_test : (t : Bool) → ltb (length k) 34 ≡ t → point_of (take 34 k) ≡ point_of k
    by_test true e = ap point_of (take_all 34 k (omega (arith, ltb-true (length k) 34 e)))
    by_test false e = other_length (take 34 k) (λ f. omega (arith, ltb-false (length k) 34 e, length-take 34 k)) ∙ sym (other_length k (λ f. omega (arith, ltb-false (length k) 34 e)))

pub holds_longer : (line : Line) (k : List ℕ) (b : ℕ) → Holds line k → Holds (longer_line line b) (k ++ (b ∷ []))
unfolding longer_line kept
holds_longer line k b h = by_test (ltb line.len 34) refl
  where
    more : length (k ++ (b ∷ [])) ≡ length k + 1
    more = length-append k (b ∷ [])

    by_test : (t : Bool) → ltb line.len 34 ≡ t → Holds (cond t (record { bytes = set line.bytes line.len b; len = line.len + 1 }) line) (k ++ (b ∷ []))
    by_test true e =
        let small : line.len < 34 = ltb-true line.len 34 e in
        let size : line.len ≡ length k = omega (arith, h.count) in
        let all : take line.len line.bytes ≡ k = h.first ∙ take_all 34 k (omega (arith, h.count)) in
        record {
          room = length-set line.bytes line.len b ∙ h.room;
          count = omega (arith, h.count, more);
          first =
              ap (λ (n : ℕ). take n (set line.bytes line.len b)) (add-one line.len)
              ∙ take-suc-set line.bytes line.len b (omega (arith, h.room))
              ∙ ap (λ (s : List ℕ). s ++ (b ∷ [])) all
              ∙ sym (take_all 34 (k ++ (b ∷ [])) (omega (arith, h.count, more)));
        }
    by_test false e =
        let long : 34 ≤ length k = omega (arith, h.count, ltb-false line.len 34 e) in
        record {
          room = h.room;
          count = omega (arith, h.count, more);
          first = h.first ∙ sym (take-append-le 34 k (b ∷ []) long);
        }
