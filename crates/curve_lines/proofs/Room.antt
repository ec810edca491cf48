-- How much room the text of a piece needs: two and a half bytes for each byte that is read, and four for a bad line. So the
-- program's buffers hold all that is printed, and nothing is left out.
use Rattle.std.specs.Prelude.{Option, Some, None}
use Prim.Native.Nat.{ℕ, zero, suc, ◌+◌, ◌*◌, ◌≤◌, ◌<◌}
use mathlib.Core.Path.{◌≡◌, refl, sym, ◌∙◌, ap}
use mathlib.Core.Bool.{Bool, true, false, cond}
use mathlib.Core.List.{List, [], ◌∷◌, ◌++◌, append-nil, append_assoc}
use native.Mathlib.Numerals.{add-one}
use native.Mathlib.Omega.{arith}
use lib.Dec.{eqb, ltb}
use lib.Ieee.{Float, binary64, is_nan, to_bits}
use lib.ListN.{length, take, set, length-append, length-take, length-set}
use lib.Seq.{take-suc-set}
use borrow.Author.Tests.{eqb-true, eqb-false, ltb-true, lt-ltb}
use Rattle.hex_text.specs.Text.{after, end_of, text_at, digits_of, number_text}
use Rattle.curve_text.specs.Answer.{answer_text, point_text}
use Rattle.device.specs.declared.OperatingPoint.{OperatingPoint}
use Rattle.channel_curve.specs.Curve.{point_of}
use Rattle.curve_lines.specs.declared.Line.{Line}
use Rattle.curve_lines.specs.Printed.{heading}
use Rattle.curve_lines.specs.Pieces.{new_line, kept, line_behind, longer_line, line_after, text_after, line_of, text_of, last_text}
use Rattle.curve_lines.proofs.Reading.{other_length}

digits_size : (k b : ℕ) → length (digits_of k b) ≡ k
unfolding digits_of
digits_size zero b = refl
digits_size (suc k) b = ap suc (digits_size k b)

number_size : (x : Float) → length (number_text x) ≤ 16
unfolding number_text
number_size x = by_test (is_nan x)
  where
    by_test : (t : Bool) → length (cond t (110 ∷ 97 ∷ 110 ∷ []) (digits_of 16 (to_bits binary64 x))) ≤ 16
    by_test true = omega arith
    by_test false = omega (arith, digits_size 16 (to_bits binary64 x))

answer_size : (p : Option OperatingPoint) → length (answer_text p) ≤ 85
unfolding answer_text point_text
answer_size (Some p) = simp length-append (omega (arith, number_size p.ids_eval, number_size p.gm, number_size p.gds, number_size p.gmbs, number_size p.jeq))
answer_size None = omega arith

-- nothing is printed behind a bad line
quiet : (s : List ℕ) → text_of None s ≡ []
unfolding text_of text_after line_after
quiet [] = refl
quiet (b ∷ s) = quiet s

-- a new line needs no more room than one that goes on
new_size : (p : Option OperatingPoint) (s : List ℕ) → 2 * length (text_of (Some new_line) s) ≤ 5 * length s + 8 → 2 * length (text_of (line_behind p) s) ≤ 5 * length s + 8
unfolding line_behind
new_size (Some p) s h = h
new_size None s h = let e : length (text_of None s) ≡ 0 = ap length (quiet s) in omega arith

bad_size : (s : List ℕ) → length (answer_text None ++ text_of (line_behind None) s) ≡ 4
unfolding answer_text line_behind
bad_size s = ap (λ (r : List ℕ). length (answer_text None ++ r)) (quiet s)

whole_line : (line : Line) → length (kept line) ≡ 33 → 33 ≤ line.len
unfolding kept
whole_line line e = omega (arith, length-take line.len line.bytes)

from_none : (n : ℕ) (s : List ℕ) → n ≤ 5 * (new_line.len + length s) + 8 → n ≤ 5 * length s + 8
unfolding new_line
from_none n s h = omega arith

-- an answer, and what is printed behind it: a line that is answered by more than `bad` has 33 bytes
newline_size : (line : Line) (s : List ℕ) → 2 * length (text_of (Some new_line) s) ≤ 5 * length s + 8 → 2 * length (answer_text (point_of (kept line)) ++ text_of (line_behind (point_of (kept line))) s) ≤ 5 * (line.len + suc (length s)) + 8
newline_size line s h = by_test (eqb (length (kept line)) 33) refl
  where
    by_test : (t : Bool) → eqb (length (kept line)) 33 ≡ t → 2 * length (answer_text (point_of (kept line)) ++ text_of (line_behind (point_of (kept line))) s) ≤ 5 * (line.len + suc (length s)) + 8
    by_test true e =
        let whole : 33 ≤ line.len = whole_line line (eqb-true (length (kept line)) 33 e) in
        omega (arith, length-append (answer_text (point_of (kept line))) (text_of (line_behind (point_of (kept line))) s), answer_size (point_of (kept line)), new_size (point_of (kept line)) s h)
    by_test false e =
        let p : point_of (kept line) ≡ None = other_length (kept line) (eqb-false (length (kept line)) 33 e) in
        let size : length (answer_text (point_of (kept line)) ++ text_of (line_behind (point_of (kept line))) s) ≡ 4 = ap (λ (q : Option OperatingPoint). length (answer_text q ++ text_of (line_behind q) s)) p ∙ bad_size s in
        omega arith

longer_size : (line : Line) (b : ℕ) → (longer_line line b).len ≤ line.len + 1
unfolding longer_line
longer_size line b = by_test (ltb line.len 34)
  where
    by_test : (t : Bool) → (cond t (record { bytes = set line.bytes line.len b; len = line.len + 1 }) line).len ≤ line.len + 1
    by_test true = omega arith
    by_test false = omega arith

-- how many bytes of a line are kept
unfoldable pub len_of : Option Line → ℕ
len_of (Some line) = line.len
len_of None = 0

pub text_fits : (s : List ℕ) (line : Option Line) → 2 * length (text_of line s) ≤ 5 * (len_of line + length s) + 8
unfolding text_of text_after line_after len_of
text_fits [] line = omega arith
text_fits (b ∷ s) None = let none : length (text_of None s) ≡ 0 = ap length (quiet s) in omega arith
text_fits (b ∷ s) (Some line) = by_test (eqb b 10) (text_fits s (Some new_line)) (text_fits s (Some (longer_line line b)))
  where
    by_test : (t : Bool) → 2 * length (text_of (Some new_line) s) ≤ 5 * (new_line.len + length s) + 8 → 2 * length (text_of (Some (longer_line line b)) s) ≤ 5 * ((longer_line line b).len + length s) + 8 → 2 * length (cond t (answer_text (point_of (kept line))) [] ++ text_of (cond t (line_behind (point_of (kept line))) (Some (longer_line line b))) s) ≤ 5 * (line.len + suc (length s)) + 8
    by_test true fresh same = newline_size line s (from_none (2 * length (text_of (Some new_line) s)) s fresh)
    by_test false fresh same = omega (arith, longer_size line b)

-- a line that is being read has 34 bytes at most
longer_bound : (line : Line) (b : ℕ) → line.len ≤ 34 → (longer_line line b).len ≤ 34
unfolding longer_line
longer_bound line b h = by_test (ltb line.len 34) refl
  where
    by_test : (t : Bool) → ltb line.len 34 ≡ t → (cond t (record { bytes = set line.bytes line.len b; len = line.len + 1 }) line).len ≤ 34
    by_test true e = omega (arith, ltb-true line.len 34 e)
    by_test false e = h

behind_bound : (p : Option OperatingPoint) → len_of (line_behind p) ≤ 34
unfolding line_behind new_line len_of
behind_bound (Some p) = omega arith
behind_bound None = omega arith

after_bound : (line : Option Line) (b : ℕ) → len_of line ≤ 34 → len_of (line_after line b) ≤ 34
unfolding line_after len_of
after_bound None b h = h
after_bound (Some line) b h = by_test (eqb b 10)
  where
    by_test : (t : Bool) → len_of (cond t (line_behind (point_of (kept line))) (Some (longer_line line b))) ≤ 34
    by_test true = behind_bound (point_of (kept line))
    by_test false = longer_bound line b h

pub line_bound : (s : List ℕ) (line : Option Line) → len_of line ≤ 34 → len_of (line_of line s) ≤ 34
unfolding line_of
line_bound [] line h = h
line_bound (b ∷ s) line h = line_bound s (line_after line b) (after_bound line b h)

after_is : (n at : ℕ) → at < n → after n at ≡ at + 1
unfolding after
after_is n at h = simp (lt-ltb at n h)

-- a text that has room is written whole
written_whole : (s out : List ℕ) (at : ℕ) → at + length s ≤ length out → take (end_of (length out) at s) (text_at out at s) ≡ take at out ++ s
unfolding end_of text_at
written_whole [] out at h = sym (append-nil (take at out))
written_whole (b ∷ s) out at h =
    let next : after (length out) at ≡ at + 1 = after_is (length out) at (omega arith) in
    let size : length (set out at b) ≡ length out = length-set out at b in
    let first : take (at + 1) (set out at b) ≡ take at out ++ (b ∷ []) = ap (λ (n : ℕ). take n (set out at b)) (add-one at) ∙ take-suc-set out at b (omega arith) in
    ap (λ (n : ℕ). take (end_of (length out) n s) (text_at (set out at b) n s)) next
    ∙ ap (λ (n : ℕ). take (end_of n (at + 1) s) (text_at (set out at b) (at + 1) s)) (sym size)
    ∙ written_whole s (set out at b) (at + 1) (omega arith)
    ∙ ap (λ (r : List ℕ). r ++ s) first
    ∙ append_assoc (take at out) (b ∷ []) s

-- the buffers of the program hold the text of a piece of 4,096 bytes, of a last line and of the heading
pub piece_whole : (line : Option Line) (s out : List ℕ) → len_of line ≤ 34 → length s ≤ 4096 → length out ≡ 16384 → take (end_of (length out) 0 (text_of line s)) (text_at out 0 (text_of line s)) ≡ text_of line s
piece_whole line s out l m n = written_whole (text_of line s) out 0 (omega (arith, text_fits s line))

last_size : (line : Option Line) → length (last_text line) ≤ 85
unfolding last_text
last_size None = omega arith
last_size (Some line) = by_test (eqb line.len 0)
  where
    by_test : (t : Bool) → length (cond t [] (answer_text (point_of (kept line)))) ≤ 85
    by_test true = omega arith
    by_test false = answer_size (point_of (kept line))

pub last_whole : (line : Option Line) (out : List ℕ) → length out ≡ 96 → take (end_of (length out) 0 (last_text line)) (text_at out 0 (last_text line)) ≡ last_text line
last_whole line out n = written_whole (last_text line) out 0 (omega (arith, last_size line))

pub heading_whole : (out : List ℕ) → length out ≡ 96 → take (end_of (length out) 0 heading) (text_at out 0 heading) ≡ heading
unfolding heading
heading_whole out n = written_whole heading out 0 (omega arith)
