-- Records whose fields are equal are equal.
use mathlib.Core.Path.{◌≡◌}
use Rattle.stamps.specs.declared.ChargeBranch.{ChargeBranch}
use Rattle.stamps.specs.declared.ChargeBranches.{ChargeBranches}

pub branches_same : {gs gd gb bs bd gs' gd' gb' bs' bd' : ChargeBranch} → gs ≡ gs' → gd ≡ gd' → gb ≡ gb' → bs ≡ bs' → bd ≡ bd'
    → ◌≡◌ {A = ChargeBranches} (record { gs = gs; gd = gd; gb = gb; bs = bs; bd = bd }) (record { gs = gs'; gd = gd'; gb = gb'; bs = bs'; bd = bd' })
branches_same p q r s t = cc
