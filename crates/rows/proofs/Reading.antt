-- Reading a list: the default is not seen within it and is what stands beyond it. And that what is not bound is not evaluated.
use Prim.Native.Nat.{ℕ, zero, suc, ◌≤◌, ◌<◌}
use mathlib.Core.Path.{◌≡◌, refl}
use mathlib.Core.Bool.{true, false≢true}
use mathlib.Core.List.{List, [], ◌∷◌}
use native.Mathlib.Nat.{not-suc-le-zero, le_of_suc-le-suc}
use lib.ListN.{length, get_or}
use Rattle.device.specs.declared.Stage.{Stage}
use Rattle.device.specs.declared.Stage.TheVariants as Stages
use Rattle.device.specs.Stages.{unbound, unevaluated}

pub within : {A : Type 0} (l : List A) (i : ℕ) (d e : A) → i < length l → get_or l i d ≡ get_or l i e
within [] i d e h = absurd (not-suc-le-zero h)
within (x ∷ xs) zero d e h = refl
within (x ∷ xs) (suc i) d e h = within xs i d e (le_of_suc-le-suc h)

pub past : {A : Type 0} (l : List A) (i : ℕ) (d : A) → length l ≤ i → d ≡ get_or l i d
past [] i d h = refl
past (x ∷ xs) zero d h = absurd (not-suc-le-zero h)
past (x ∷ xs) (suc i) d h = past xs i d (le_of_suc-le-suc h)

pub unbound_unevaluated : (s : Stage) → unbound s ≡ true → unevaluated s ≡ true
unfolding unbound unevaluated
unbound_unevaluated Stages.Card h = refl
unbound_unevaluated Stages.Geometry h = refl
unbound_unevaluated Stages.Scaled h = refl
unbound_unevaluated Stages.Bound h = refl
unbound_unevaluated Stages.Evaluated h = absurd (false≢true h)
