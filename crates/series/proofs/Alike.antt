-- Two fractions that are equal but for a factor. Assumes nothing.
use mathlib.Core.List.{[], ◌∷◌}
use Rattle.exact.specs.Fraction.{ℚ, nat, ◌*q◌, ◌≤q◌, ◌≈q◌}
use Rattle.exact.proofs.FractionLaws.{≈_refl, ≈_sym, *_comm, *_cong, ≤_of_≈, ≤_trans, *_mono}
use Rattle.exact.proofs.FractionProver.{qv, ◌⊠◌, req}

pub record Alike (s u v : ℚ) : Type 0 where
  pub le : u ≤q v *q s
  pub ge : v ≤q u *q s

pub alike_sym : {s u v : ℚ} → Alike s u v → Alike s v u
alike_sym r = record { le = r.ge; ge = r.le }

pub alike_≈ : {s u v u' v' : ℚ} → u ≈q u' → v ≈q v' → Alike s u v → Alike s u' v'
alike_≈ {s} e f r = record {
  le = ≤_trans (≤_of_≈ (≈_sym e)) (≤_trans r.le (≤_of_≈ (*_cong f (≈_refl s))));
  ge = ≤_trans (≤_of_≈ (≈_sym f)) (≤_trans r.ge (≤_of_≈ (*_cong e (≈_refl s))));
}

scaled : (s v c : ℚ) {u : ℚ} → nat 0 ≤q c → u ≤q v *q s → u *q c ≤q v *q c *q s
scaled s v c {u} C h = ≤_trans (≤_of_≈ (*_comm u c)) (≤_trans (*_mono C h) (≤_of_≈ (req (c ∷ v ∷ s ∷ []) (qv 0 ⊠ (qv 1 ⊠ qv 2)) (qv 1 ⊠ qv 0 ⊠ qv 2) tt tt)))

pub alike_scale : {s u v : ℚ} (c : ℚ) → nat 0 ≤q c → Alike s u v → Alike s (u *q c) (v *q c)
alike_scale {s} {u} {v} c C r = record { le = scaled s v c C r.le; ge = scaled s u c C r.ge }

joined : (t w : ℚ) {s u v : ℚ} → nat 0 ≤q s → u ≤q v *q s → v ≤q w *q t → u ≤q w *q (s *q t)
joined t w {s} {u} {v} S h k = ≤_trans h (≤_trans (≤_of_≈ (*_comm v s)) (≤_trans (*_mono S k) (≤_of_≈ (req (s ∷ t ∷ w ∷ []) (qv 0 ⊠ (qv 2 ⊠ qv 1)) (qv 2 ⊠ (qv 0 ⊠ qv 1)) tt tt))))

pub alike_trans : {s t u v w : ℚ} → nat 0 ≤q s → nat 0 ≤q t → Alike s u v → Alike t v w → Alike (s *q t) u w
alike_trans {s} {t} {u} {v} {w} S T r q = record { le = joined t w S r.le q.le; ge = ≤_trans (joined s u T q.ge r.ge) (≤_of_≈ (*_cong (≈_refl u) (*_comm t s))) }

pub alike_mono : {s t u v : ℚ} → nat 0 ≤q u → nat 0 ≤q v → s ≤q t → Alike s u v → Alike t u v
alike_mono U W h r = record { le = ≤_trans r.le (*_mono W h); ge = ≤_trans r.ge (*_mono U h) }
