-- No refusal has the number that says that a call is accepted.
use mathlib.Core.Path.{◌≡◌, refl}
use mathlib.Core.Bool.{false}
use lib.Dec.{eqb}
use Rattle.device.specs.Refusals.{number_of}
use Rattle.device.specs.declared.Refusal.{Refusal}
use Rattle.device.specs.declared.Refusal.TheVariants as Refusals

pub not_0 : (r : Refusal) → eqb (number_of r) 0 ≡ false
not_0 Refusals.KeyPairs = refl
not_0 Refusals.KeyByte = refl
not_0 Refusals.UnknownKeys = refl
not_0 Refusals.KeyValue = refl
not_0 Refusals.Oxide = refl
not_0 Refusals.Temperature = refl
not_0 Refusals.Potential = refl
not_0 Refusals.Node = refl
not_0 Refusals.Voltage = refl
not_0 Refusals.Stage = refl
not_0 Refusals.Step = refl
not_0 Refusals.Pattern = refl
not_0 Refusals.MissingCell = refl
not_0 Refusals.Run = refl
not_0 Refusals.Tag = refl
