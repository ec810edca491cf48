-- A call's refusals: its rows in their order, each with its condition; and what the call answers, by the first row that applies.
use Rattle.std.specs.Prelude.{ℕ, Bool, true, false, cond, List, [], ◌∷◌, Result, Ok, Err}
use Rattle.device.specs.declared.Refusal.{Refusal}
use Rattle.device.specs.declared.Refusal.TheVariants.{KeyPairs, KeyByte, UnknownKeys, KeyValue, Oxide, Temperature, Potential, Node, Voltage, Stage, Step, Pattern, MissingCell, Run, Tag}

-- a row's number, and whether its condition applies
infix 3 ◌when◌
pub data Row : Type 0 where
  ◌when◌ : ℕ → Bool → Row

-- the lowest number whose condition applies is given, and only then
abbrev pub unless : {A : Type 0} → List Row → (ℕ → A) → A → A
unless [] refuse accepted = accepted
unless ((n when b) ∷ rows) refuse accepted = cond b (refuse n) (unless rows refuse accepted)

-- that number, 0 where no row applies
abbrev pub row_number : List Row → ℕ
row_number rows = unless rows (λ n. n) 0

-- the number of each refusal in the table
abbrev pub number_of : Refusal → ℕ
number_of KeyPairs = 1
number_of KeyByte = 2
number_of UnknownKeys = 3
number_of KeyValue = 4
number_of Oxide = 5
number_of Temperature = 6
number_of Potential = 7
number_of Node = 8
number_of Voltage = 9
number_of Stage = 10
number_of Step = 11
number_of Pattern = 12
number_of MissingCell = 13
number_of Run = 14
number_of Tag = 100

-- What a call answers, in the terms of the table of refusals: its values where it is accepted; its number, and nothing besides,
-- where it is refused. A call's `Result` is read into this one, and the contracts speak of it.
pub data Outcome (A : Type 0) : Type 0 where
  done : A → Outcome A
  refused : ℕ → Outcome A

-- the number of an answer: 0 where the call is accepted
abbrev pub number : {A : Type 0} → Outcome A → ℕ
number (done a) = 0
number (refused n) = n

abbrev pub is_accepted : {A : Type 0} → Outcome A → Bool
is_accepted (done a) = true
is_accepted (refused n) = false

-- what follows from an accepted call's values; after a refusal what was there before
abbrev pub if_accepted : {A B : Type 0} → (A → B) → B → Outcome A → B
if_accepted f before (done a) = f a
if_accepted f before (refused n) = before

abbrev pub values_or : {A : Type 0} → A → Outcome A → A
values_or before (done a) = a
values_or before (refused n) = before

-- a call's `Result`, in these terms
abbrev pub outcome : {A : Type 0} → Result A Refusal → Outcome A
outcome (Ok a) = done a
outcome (Err r) = refused (number_of r)
