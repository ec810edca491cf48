use Rattle.stamps.specs.Stamps.{jac_pairs_of}
use Rattle.places.specs.Places.{numbers_of}
use Rattle.places.proofs.Spans.{◌∷≡◌}
use Rattle.resolve.proofs.pair_numbers.Goals as goal
-- `resolve::pair_numbers`: each cell stands where `jac_pairs` has it.
use mathlib.Core.Path.{refl}

pub returns : goal.returns
unfolding numbers_of jac_pairs_of
returns c =
    let d_g = c.number-d_g.ensures in
    let d_d = c.number-d_d.ensures in
    let d_s = c.number-d_s.ensures in
    let d_b = c.number-d_b.ensures in
    let s_g = c.number-s_g.ensures in
    let s_d = c.number-s_d.ensures in
    let s_s = c.number-s_s.ensures in
    let s_b = c.number-s_b.ensures in
    let dx_dx = c.number-dx_dx.ensures in
    let dx_d = c.number-dx_d.ensures in
    let d_dx = c.number-d_dx.ensures in
    let sx_sx = c.number-sx_sx.ensures in
    let sx_s = c.number-sx_s.ensures in
    let s_sx = c.number-s_sx.ensures in
    let b_b = c.number-b_b.ensures in
    let b_s = c.number-b_s.ensures in
    let b_d = c.number-b_d.ensures in
    d_g ∷≡ d_d ∷≡ d_s ∷≡ d_b ∷≡ s_g ∷≡ s_d ∷≡ s_s ∷≡ s_b ∷≡ dx_dx ∷≡ dx_d ∷≡ d_dx ∷≡ d_d ∷≡ sx_sx ∷≡ sx_s ∷≡ s_sx ∷≡ s_s ∷≡ b_b ∷≡ b_s ∷≡ s_b ∷≡ s_s ∷≡ b_b ∷≡ b_d ∷≡ d_b ∷≡ d_d ∷≡ refl
