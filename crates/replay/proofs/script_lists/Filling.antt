-- Reading a list item by item: of the whole, `rest` is still to be read and n places are filled.
use Prim.Native.Nat.{ℕ, suc, ◌+◌, ◌-◌, ◌≤◌, ◌<◌}
use mathlib.Core.Path.{◌≡◌, refl, sym, ◌∙◌, ap, ap₂}
use mathlib.Core.Bool.{Bool, true, false, cond}
use mathlib.Core.List.{List, [], ◌∷◌}
use native.Mathlib.Omega.{arith}
use lib.ListN.{length, take, drop, set, length-set, length-drop}
use Rattle.std.specs.Prelude.{Option, Some, None}
use Rattle.std.proofs.Common.{Bor}
use Rattle.std.specs.List.{position, position_or_len}
use Rattle.std.proofs.lemmas.List.Splits.{slice_split_none, slice_split_first, length-slice_split}
use Rattle.std.proofs.lemmas.List.Sums.{fails_before_first, position_or_len_is}
use Rattle.std.proofs.lemmas.List.Quantifiers.{position-Some}
use Rattle.std.proofs.lemmas.Bool.Decides.{nat_tests}
use native.Mathlib.Nat.{le_of_eq}
use lib.Seq.{take_all}
use Rattle.std.specs.Option.{MatchOption}
use lib.Dec.{eqb}
use Rattle.replay.specs.Lists.{is_read, stored, counted, filled, items, is_empty_list, count_of, filled_by}

pub record Going {A : Type 0} (read : List ℕ → Option A) (room : ℕ) (all : List (List ℕ)) (first : List A) (rest : List (List ℕ)) (n : ℕ) (out : List A) : Type 0 where
  pub fits : n ≤ room
  pub same : length out ≡ length first
  pub count : counted read n (room - n) rest ≡ counted read 0 room all
  pub left : filled read n (room - n) out rest ≡ filled read 0 room first all

-- the end: the count r and the slice are those of the whole
pub record Over {A : Type 0} (read : List ℕ → Option A) (room : ℕ) (all : List (List ℕ)) (first : List A) (r : Option ℕ) (out : List A) : Type 0 where
  pub count : r ≡ counted read 0 room all
  pub left : out ≡ filled read 0 room first all

pub begun : {A : Type 0} (read : List ℕ → Option A) (room : ℕ) (all : List (List ℕ)) (first : List A) → Going read room all first all 0 first
begun read room all first =
    record {
      fits = omega arith;
      same = refl;
      count = ap (λ (k : ℕ). counted read 0 k all) whole;
      left = ap (λ (k : ℕ). filled read 0 k first all) whole;
    }
  where
    whole : room - 0 ≡ room
    whole = omega arith

module _ {A : Type 0} {read : List ℕ → Option A} {room : ℕ} {all : List (List ℕ)} {first : List A} {rest : List (List ℕ)} {n : ℕ} {out : List A} (g : Going read room all first rest n out) where
  module _ {item : List ℕ} {behind : List (List ℕ)} (e : rest ≡ item ∷ behind) where
    module _ (h : n < room) where
      one_less : room - n ≡ suc (room - (n + 1))
      one_less = omega arith

      count_is : (i : Option A) → read item ≡ i → cond (is_read i) (counted read (n + 1) (room - (n + 1)) behind) None ≡ counted read 0 room all
      unfolding counted
      count_is i f =
          sym (ap₂ (λ (k : ℕ) (s : List (List ℕ)). counted read n k s) one_less e ∙ ap (λ (j : Option A). cond (is_read j) (counted read (n + 1) (room - (n + 1)) behind) None) f)
          ∙ g.count

      left_is : (i : Option A) → read item ≡ i → cond (is_read i) (filled read (n + 1) (room - (n + 1)) (stored out n i) behind) out ≡ filled read 0 room first all
      unfolding filled
      left_is i f =
          sym (ap₂ (λ (k : ℕ) (s : List (List ℕ)). filled read n k out s) one_less e ∙ ap (λ (j : Option A). cond (is_read j) (filled read (n + 1) (room - (n + 1)) (stored out n j) behind) out) f)
          ∙ g.left

      pub further : (x : A) → read item ≡ Some x → Going read room all first behind (n + 1) (set out n x)
      unfolding is_read stored
      further x f = record { fits = omega arith; same = length-set out n x ∙ g.same; count = count_is (Some x) f; left = left_is (Some x) f }

      pub unread : read item ≡ None → Over read room all first None out
      unfolding is_read stored
      unread f = record { count = count_is None f; left = left_is None f }

    pub full : room ≤ n → Over read room all first None out
    unfolding counted filled
    full h =
        record {
          count = sym (ap₂ (λ (k : ℕ) (s : List (List ℕ)). counted read n k s) no_room e) ∙ g.count;
          left = sym (ap₂ (λ (k : ℕ) (s : List (List ℕ)). filled read n k out s) no_room e) ∙ g.left;
        }
      where
        no_room : room - n ≡ 0
        no_room = omega arith

  pub finished : rest ≡ [] → Over read room all first (Some n) out
  unfolding counted filled
  finished e =
      record {
        count = sym (ap (λ (s : List (List ℕ)). counted read n (room - n) s) e) ∙ g.count;
        left = sym (ap (λ (s : List (List ℕ)). filled read n (room - n) out s) e) ∙ g.left;
      }

-- a word's first item ends at its first comma, or at its end
module _ (w : List ℕ) where
  pub no_comma : position (λ b. eqb b 44) w ≡ None → items w ≡ w ∷ []
  no_comma e =
      let h : length w ≤ position_or_len (λ b. eqb b 44) w = grind (arith, nat_tests) in
      slice_split_none (λ b. eqb b 44) w (λ k d l. fails_before_first (λ b. eqb b 44) w k d (omega arith))

  pub at_comma : (k : ℕ) → position (λ b. eqb b 44) w ≡ Some k → items w ≡ take k w ∷ items (take (length w - (k + 1)) (drop (k + 1) w))
  at_comma k e =
      let p = position-Some (λ b. eqb b 44) w k 0 e in
      let all : take (length w - (k + 1)) (drop (k + 1) w) ≡ drop (k + 1) w = take_all (length w - (k + 1)) (drop (k + 1) w) (le_of_eq (length-drop (k + 1) w)) in
      let place : position_or_len (λ b. eqb b 44) w ≡ k = position_or_len_is (λ b. eqb b 44) w k 0 (omega arith) p.2 (λ l. p.1) in
      slice_split_first (λ b. eqb b 44) w 0 (omega arith) ∙ ap (λ (j : ℕ). take j w ∷ items (drop (j + 1) w)) place ∙ ap (λ (s : List ℕ). take k w ∷ items s) (sym all)

  pub some_items : {B : Type 0} → ((item : List ℕ) (behind : List (List ℕ)) → items w ≡ item ∷ behind → B) → B
  some_items {B} f = by_test w (items w) refl
    where
      by_test : (s : List ℕ) (all : List (List ℕ)) → items w ≡ all → B
      by_test s (item ∷ behind) e = f item behind e
      by_test s [] e = absurd (let n : length (items w) ≡ 0 = ap length e in omega (arith, length-slice_split (λ b. eqb b 44) w))

pub no_place : {A : Type 0} {read : List ℕ → Option A} {room : ℕ} {all : List (List ℕ)} {first : List A} {n : ℕ} {out : List A} (w : List ℕ) → Going read room all first (items w) n out → room ≤ n → Over read room all first None out
no_place w g h = some_items w (λ item behind e. full g e h)

-- an item that is not read, whatever stands behind it
pub not_read : {A : Type 0} {read : List ℕ → Option A} {room : ℕ} {all : List (List ℕ)} {first : List A} {n : ℕ} {out : List A} (w item : List ℕ) (r : Option (Bor (List ℕ))) → Going read room all first (items w) n out → MatchOption r (items w ≡ item ∷ []) (λ (s : Bor (List ℕ)). items w ≡ item ∷ items s.now) → n < room → read item ≡ None → Over read room all first None out
not_read w item None g e h f = unread g e h f
not_read w item (Some s) g e h f = unread g e h f

-- what the functions promise of a count and a slice
pub record Read {A : Type 0} (read : List ℕ → Option A) (room : ℕ) (w : List ℕ) (first : List A) (r : Option ℕ) (out : List A) : Type 0 where
  pub count : r ≡ count_of read room w
  pub left : out ≡ filled_by read room first w

pub empty_read : {A : Type 0} (read : List ℕ → Option A) (room : ℕ) (w : List ℕ) (first : List A) → is_empty_list w ≡ true → Read read room w first (Some 0) first
unfolding count_of filled_by
empty_read read room w first f =
    record {
      count = sym (ap (λ (b : Bool). cond b (Some 0) (counted read 0 room (items w))) f);
      left = sym (ap (λ (b : Bool). cond b first (filled read 0 room first (items w))) f);
    }

pub list_read : {A : Type 0} {read : List ℕ → Option A} {room : ℕ} {w : List ℕ} {first : List A} {r : Option ℕ} {after : List A} → is_empty_list w ≡ false → Over read room (items w) first r after → Read read room w first r after
unfolding count_of filled_by
list_read {A} {read} {room} {w} {first} {r} {after} f o =
    record {
      count = o.count ∙ sym (ap (λ (b : Bool). cond b (Some 0) (counted read 0 room (items w))) f);
      left = o.left ∙ sym (ap (λ (b : Bool). cond b first (filled read 0 room first (items w))) f);
    }
