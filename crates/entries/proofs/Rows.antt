-- What the rows of the keys leave: where they pass, and where they refuse.
use mathlib.Core.Path.{◌≡◌, ◌∙◌, sym, ap}
use mathlib.Core.Bool.{Bool, true, false}
use mathlib.Core.List.{List, ◌++◌}
use Prim.Native.Nat.{ℕ, ◌≤◌}
use Rattle.std.specs.Prelude.{Result, Ok}
use borrow.Author.Tests.{ltb-false}
use lib.Ieee.{Float}
use Rattle.device.specs.Refusals.{Row, unless, outcome, done, refused}
use Rattle.device.specs.declared.Refusal.{Refusal}
use Rattle.device.proofs.Branches.{cond_yes}
use Rattle.device.proofs.Rows.{NoneOf, passed, refused_first}
use Rattle.keys.specs.declared.Table.{Table}
use Rattle.entries.specs.Entries.{entries_of, bad_pairs, unknown_count, any_tnom_outside, key_rows, keys_of}
use Rattle.entries.specs.declared.KeysRead.{KeysRead}

-- what rows 1 to 4 leave
pub record Passing (table : Table) (bytes offsets lengths : List ℕ) (values : List Float) (space m : ℕ) (b : Bool) : Type 0 where
  pub none : NoneOf (key_rows table bytes offsets lengths values space)
  pub pairs : bad_pairs bytes offsets lengths values ≡ false
  pub room : unknown_count table (entries_of bytes offsets lengths values) ≤ space
  pub count : m ≡ unknown_count table (entries_of bytes offsets lengths values)
  pub tnom : b ≡ any_tnom_outside table (entries_of bytes offsets lengths values)

module _ (table : Table) (bytes offsets lengths : List ℕ) (values : List Float) (space : ℕ) where
  pub passing : (m : ℕ) (b : Bool) → keys_of table bytes offsets lengths values space ≡ done (record { unknown = m; outside = b }) → Passing table bytes offsets lengths values space m b
  unfolding keys_of
  passing m b e =
      let u = passed (key_rows table bytes offsets lengths values space) e in
      record { none = u.0; pairs = u.0.0; room = ltb-false _ _ u.0.1.1.0; count = ap (λ (k : KeysRead). k.unknown) u.1; tnom = ap (λ (k : KeysRead). k.outside) u.1 }

  pub refused_keys : {A : Type 0} (n : ℕ) (later : List Row) (refuse : ℕ → A) (x : A) → keys_of table bytes offsets lengths values space ≡ refused n → refuse n ≡ unless (key_rows table bytes offsets lengths values space ++ later) refuse x
  unfolding keys_of
  refused_keys n later refuse x e = refused_first (key_rows table bytes offsets lengths values space) later _ refuse x e

-- what an answer that passes the keys leaves
pub answered : {table : Table} {bytes offsets lengths : List ℕ} {values : List Float} {space : ℕ} {answer : Result KeysRead Refusal} {k : KeysRead} → outcome answer ≡ keys_of table bytes offsets lengths values space → answer ≡ Ok k → Passing table bytes offsets lengths values space k.unknown k.outside
answered said passed_is = passing _ _ _ _ _ _ _ _ (sym said ∙ ap outcome passed_is)

-- row 1 refuses before all others
pub refused_pairs : (table : Table) (bytes offsets lengths : List ℕ) (values : List Float) (space : ℕ) → bad_pairs bytes offsets lengths values ≡ true → keys_of table bytes offsets lengths values space ≡ refused 1
unfolding keys_of
refused_pairs table bytes offsets lengths values space bad = sym (cond_yes _ _ bad)
