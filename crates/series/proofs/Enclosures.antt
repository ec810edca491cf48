-- Bounds on the sums over whole numbers as bounds on E. Assumes nothing.
use Prim.Native.Nat.{ℕ, ◌≤◌, ◌<◌}
use Rattle.exact.specs.Fraction.{◌//◌, ◌≤q◌}
use Rattle.exact.proofs.FractionLaws.{≈_refl, ≤_trans}
use Rattle.exact.proofs.Rounding.{frac_nonneg}
use Rattle.series.specs.Series.{E}
use Rattle.series.proofs.Product.{bot_pos}
use Rattle.series.proofs.Bounds.{Up, Lo}
use Rattle.series.proofs.Quotients.{frac_≤}
use Rattle.series.proofs.AtFractions.{E_above}
use Rattle.series.proofs.Order.{sandwich, E_terms_above}

pub E_of_up : {a b u v : ℕ} → 0 < b → 0 < v → Up a b u v → (N : ℕ) → E N (a // b) ≤q u // v
E_of_up {a} {b} {u} {v} B U p N = sandwich (E_above N a b B (≈_refl (a // b))) (≈_refl (u // v)) (frac_≤ _ u (bot_pos N b B) U (p.bound N))

-- from its number of terms on
pub E_of_lo : {a b u v : ℕ} → 0 < b → 0 < v → (p : Lo a b u v) → {N : ℕ} → p.terms ≤ N → u // v ≤q E N (a // b)
E_of_lo {a} {b} {u} {v} B U p l = ≤_trans (sandwich (≈_refl (u // v)) (E_above p.terms a b B (≈_refl (a // b))) (frac_≤ u _ U (bot_pos p.terms b B) p.bound)) (E_terms_above l (frac_nonneg a b))
