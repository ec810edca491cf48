-- How the passes over keys and bytes go on: one element, and the rest.
use mathlib.Core.Path.{◌≡◌, refl, sym, ap, ◌∙◌}
use mathlib.Core.Bool.{Bool, true, false, cond, ◌||◌}
use mathlib.Core.List.{List, [], ◌∷◌}
use Prim.Native.Nat.{ℕ, suc, ◌+◌, ◌-◌, ◌<◌, ◌≤◌}
use native.Mathlib.Numerals.{add-one}
use native.Mathlib.Omega.{arith}
use lib.Dec.{leb}
use lib.Ieee.{Float, nan}
use lib.ListN.{length, drop, get_or, set, length-drop, drop_of_length-le}
use lib.Seq.{drop-cons, sets}
use Rattle.std.specs.List.{list_any}
pub use Rattle.key_pairs.proofs.Pairs.{Paired, paired}
use Rattle.keys.specs.Names.{meaning_of}
use Rattle.keys.specs.Ranges.{is_unknown}
use Rattle.keys.specs.declared.Meaning.{Meaning}
use Rattle.keys.specs.declared.Table.{Table}
use Rattle.entries.specs.Entries.{Entry, entries_of, key_at, beyond_ascii, any_beyond_ascii, unknown_from, unknown_count, any_outside, any_tnom_outside, scan_of, scanned_with, settings_of}
use Rattle.entries.specs.declared.Scan.{Scan}

-- ---- the bytes of a key

pub any_ascii : (key : List ℕ) → list_any (λ (b : ℕ). leb 128 b) key ≡ beyond_ascii key
unfolding beyond_ascii
any_ascii [] = refl
any_ascii (b ∷ bs) = ap (λ (x : Bool). leb 128 b || x) (any_ascii bs)

-- ---- entries

-- what is left of the keys from a place on
abbrev pub rest : List ℕ → List ℕ → List ℕ → List Float → ℕ → List Entry
rest bytes offsets lengths values i = entries_of bytes (drop i offsets) (drop i lengths) (drop i values)

module _ (bytes offsets lengths : List ℕ) (values : List Float) where
  pub entry_step : Paired bytes offsets lengths values → (i : ℕ) → i < length offsets → rest bytes offsets lengths values i ≡ (record { key = key_at bytes offsets lengths i; value = get_or values i nan } ∷ rest bytes offsets lengths values (suc i))
  unfolding entries_of
  entry_step p i h =
      rw (drop-cons offsets i 0 h, drop-cons lengths i 0 (omega (arith, p.as_many)), drop-cons values i nan (omega (arith, p.as_many_values)))

  pub entry_end : (i : ℕ) → length offsets ≤ i → rest bytes offsets lengths values i ≡ []
  unfolding entries_of
  entry_end i h = rw (drop_of_length-le offsets h)

few : (bytes os ls : List ℕ) (vs : List Float) → length (entries_of bytes os ls vs) ≤ length os
unfolding entries_of
few bytes [] ls vs = omega arith
few bytes (o ∷ os) [] vs = omega arith
few bytes (o ∷ os) (n ∷ ls) [] = omega arith
few bytes (o ∷ os) (n ∷ ls) (v ∷ vs) = omega (arith, few bytes os ls vs)

-- the count, one key more in front; from which number the places are counted is nothing to it
one_more : (b : Bool) (i j : ℕ) (ps qs : List ℕ) → length ps ≡ length qs → length (cond b (i ∷ ps) ps) ≡ length (cond b (j ∷ qs) qs)
one_more true i j ps qs h = ap suc h
one_more false i j ps qs h = h

as_many_from : (table : Table) (i j : ℕ) (es : List Entry) → length (unknown_from table i es) ≡ length (unknown_from table j es)
unfolding unknown_from
as_many_from table i j [] = refl
as_many_from table i j (e ∷ es) = one_more (is_unknown (meaning_of table e.key)) i j _ _ (as_many_from table (suc i) (suc j) es)

longer : (b : Bool) (i : ℕ) (ps : List ℕ) → length (cond b (i ∷ ps) ps) ≡ cond b (length ps + 1) (length ps)
longer true i ps = sym (add-one (length ps))
longer false i ps = refl

pub count_cons : (table : Table) (e : Entry) (es : List Entry) → unknown_count table (e ∷ es) ≡ cond (is_unknown (meaning_of table e.key)) (unknown_count table es + 1) (unknown_count table es)
unfolding unknown_from unknown_count
count_cons table e es =
    let b = is_unknown (meaning_of table e.key) in
    longer b 0 (unknown_from table (suc 0) es) ∙ ap (λ (n : ℕ). cond b (n + 1) n) (as_many_from table (suc 0) 0 es)

counted : (b : Bool) (n m : ℕ) → n ≤ m → cond b (n + 1) n ≤ suc m
counted true n m h = omega arith
counted false n m h = omega arith

count_few : (table : Table) (es : List Entry) → unknown_count table es ≤ length es
unfolding unknown_from unknown_count
count_few table [] = omega arith
count_few table (e ∷ es) = rw (count_cons table e es) (counted (is_unknown (meaning_of table e.key)) _ _ (count_few table es))

pub count_rest : (table : Table) (bytes os ls : List ℕ) (vs : List Float) (i : ℕ) → unknown_count table (rest bytes os ls vs i) ≤ length os - i
count_rest table bytes os ls vs i =
    omega (arith, count_few table (rest bytes os ls vs i), few bytes (drop i os) (drop i ls) (drop i vs), length-drop i os)

-- ---- the scan, from the last key to the first

pub scan_cons : (table : Table) (e : Entry) (es : List Entry) → scanned_with (scan_of table es) (beyond_ascii e.key) (meaning_of table e.key) e.value ≡ scan_of table (e ∷ es)
unfolding any_beyond_ascii any_outside any_tnom_outside
scan_cons table e es = rw (count_cons table e es)

-- ---- what the keys set

pub settings_step : {S : Type 0} (assigned : S → Meaning → Float → S) (table : Table) (bytes offsets lengths : List ℕ) (values : List Float) → Paired bytes offsets lengths values → (s : S) (i : ℕ) → i < length offsets → settings_of assigned table (assigned s (meaning_of table (key_at bytes offsets lengths i)) (get_or values i nan)) (rest bytes offsets lengths values (i + 1)) ≡ settings_of assigned table s (rest bytes offsets lengths values i)
unfolding settings_of
settings_step assigned table bytes offsets lengths values p s i h = rw (add-one i) (sym (ap (settings_of assigned table s) (entry_step bytes offsets lengths values p i h)))

-- ---- the list of unknown places

pub places_cons : (b : Bool) (list : List ℕ) (k i : ℕ) (ps : List ℕ) → sets (cond b (set list k i) list) (cond b (k + 1) k) ps ≡ sets list k (cond b (i ∷ ps) ps)
places_cons true list k i ps = ap (λ (n : ℕ). sets (set list k i) n ps) (add-one k)
places_cons false list k i ps = refl

pub room_left : (b : Bool) (k n m : ℕ) → k + cond b (n + 1) n ≤ m → cond b (k + 1) k + n ≤ m
room_left true k n m h = omega arith
room_left false k n m h = omega arith

pub room_here : (b : Bool) (k n m : ℕ) → k + cond b (n + 1) n ≤ m → b ≡ true → k < m
room_here true k n m h t = omega arith
room_here false k n m h t = let z : ◌≡◌ {A = ℕ} 0 1 = cc in absurd (omega arith)

-- ---- what a place's pair needs, for the calls that read its key

module _ (bytes offsets lengths : List ℕ) (values : List Float) (table : Table) where
  -- one key more in front
  pub scan_step : Paired bytes offsets lengths values → (i j : ℕ) → i < length offsets → j ≡ suc i → (s : Scan) (high : Bool) (m : Meaning) → s ≡ scan_of table (rest bytes offsets lengths values j) → high ≡ beyond_ascii (key_at bytes offsets lengths i) → m ≡ meaning_of table (key_at bytes offsets lengths i) → scanned_with s high m (get_or values i nan) ≡ scan_of table (rest bytes offsets lengths values i)
  scan_step p i j h e s high m es eh em =
      let v = get_or values i nan in
      let k = key_at bytes offsets lengths i in
      let r = rest bytes offsets lengths values (suc i) in
      ap (λ (x : Scan). scanned_with x high m v) (es ∙ ap (λ (n : ℕ). scan_of table (rest bytes offsets lengths values n)) e)
      ∙ ap (λ (x : Bool). scanned_with (scan_of table r) x m v) eh
      ∙ ap (λ (x : Meaning). scanned_with (scan_of table r) (beyond_ascii k) x v) em
      ∙ scan_cons table (record { key = k; value = v }) r
      ∙ sym (ap (scan_of table) (entry_step bytes offsets lengths values p i h))

pub length_of_part : (a n : ℕ) → a + n - a ≡ n
length_of_part a n = omega arith

-- ---- one place more on the list

module _ (bytes offsets lengths : List ℕ) (values : List Float) (table : Table) (p : Paired bytes offsets lengths values) (i : ℕ) (h : i < length offsets) where
  -- whether the key at i is unknown
  abbrev unknown_here : Bool
  unknown_here = is_unknown (meaning_of table (key_at bytes offsets lengths i))

  count_here : unknown_count table (rest bytes offsets lengths values i) ≡ cond unknown_here (unknown_count table (rest bytes offsets lengths values (suc i)) + 1) (unknown_count table (rest bytes offsets lengths values (suc i)))
  count_here = ap (unknown_count table) (entry_step bytes offsets lengths values p i h) ∙ count_cons table _ _

  pub room_for_place : (b : Bool) (k m : ℕ) → b ≡ unknown_here → k + unknown_count table (rest bytes offsets lengths values i) ≤ m → b ≡ true → k < m
  room_for_place b k m e r t =
      room_here b k (unknown_count table (rest bytes offsets lengths values (suc i))) m (rw e (rw count_here at r)) t

  pub room_after : (b : Bool) (k m : ℕ) → b ≡ unknown_here → k + unknown_count table (rest bytes offsets lengths values i) ≤ m → cond b (k + 1) k + unknown_count table (rest bytes offsets lengths values (i + 1)) ≤ m
  room_after b k m e r =
      rw (add-one i) (room_left b k (unknown_count table (rest bytes offsets lengths values (suc i))) m (rw e (rw count_here at r)))

  pub place_step : (b : Bool) (list : List ℕ) (k : ℕ) → b ≡ unknown_here → sets (cond b (set list k i) list) (cond b (k + 1) k) (unknown_from table (i + 1) (rest bytes offsets lengths values (i + 1))) ≡ sets list k (unknown_from table i (rest bytes offsets lengths values i))
  unfolding unknown_from
  place_step b list k e =
      rw (add-one i)
      (places_cons b list k i (unknown_from table (suc i) (rest bytes offsets lengths values (suc i)))
      ∙ ap (λ (x : Bool). sets list k (cond x (i ∷ unknown_from table (suc i) (rest bytes offsets lengths values (suc i))) (unknown_from table (suc i) (rest bytes offsets lengths values (suc i))))) e
      ∙ sym (ap (λ (es : List Entry). sets list k (unknown_from table i es)) (entry_step bytes offsets lengths values p i h)))
