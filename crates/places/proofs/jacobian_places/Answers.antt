use Rattle.pattern.specs.Pattern.{lists}
use Rattle.stamps.specs.Stamps.{jac_pairs_of}
use Rattle.places.specs.Places.{Pattern, number_of, node_at, numbers_of, terminals_at}
use Rattle.places.proofs.Spans.{◌∷≡◌, row_number, same_node_lem}
use Rattle.places.proofs.jacobian_places.Goals as goal
-- `places::jacobian_places`: each different cell is looked up once, and stands where `jac_pairs` has it.
use mathlib.Core.Path.{◌≡◌, refl, ◌∙◌}

pub returns : goal.returns
unfolding numbers_of jac_pairs_of terminals_at
returns c =
    let P : Pattern = lists c.args.pattern.pattern in
    let d_g : c.place-d_g.result ≡ number_of P (node_at c.args.n.drain) (node_at c.args.n.gate) = c.place-d_g.ensures ∙ row_number c.row_of-d_row.ensures c.args.n.gate in
    let d_d : c.place-d_d.result ≡ number_of P (node_at c.args.n.drain) (node_at c.args.n.drain) = c.place-d_d.ensures ∙ row_number c.row_of-d_row.ensures c.args.n.drain in
    let d_s : c.place-d_s.result ≡ number_of P (node_at c.args.n.drain) (node_at c.args.n.source) = c.place-d_s.ensures ∙ row_number c.row_of-d_row.ensures c.args.n.source in
    let d_b : c.place-d_b.result ≡ number_of P (node_at c.args.n.drain) (node_at c.args.n.bulk) = c.place-d_b.ensures ∙ row_number c.row_of-d_row.ensures c.args.n.bulk in
    let s_g : c.place-s_g.result ≡ number_of P (node_at c.args.n.source) (node_at c.args.n.gate) = c.place-s_g.ensures ∙ row_number c.row_of-s_row.ensures c.args.n.gate in
    let s_d : c.place-s_d.result ≡ number_of P (node_at c.args.n.source) (node_at c.args.n.drain) = c.place-s_d.ensures ∙ row_number c.row_of-s_row.ensures c.args.n.drain in
    let s_s : c.place-s_s.result ≡ number_of P (node_at c.args.n.source) (node_at c.args.n.source) = c.place-s_s.ensures ∙ row_number c.row_of-s_row.ensures c.args.n.source in
    let s_b : c.place-s_b.result ≡ number_of P (node_at c.args.n.source) (node_at c.args.n.bulk) = c.place-s_b.ensures ∙ row_number c.row_of-s_row.ensures c.args.n.bulk in
    let b_b : c.place-b_b.result ≡ number_of P (node_at c.args.n.bulk) (node_at c.args.n.bulk) = c.place-b_b.ensures ∙ row_number c.row_of-b_row.ensures c.args.n.bulk in
    let b_s : c.place-b_s.result ≡ number_of P (node_at c.args.n.bulk) (node_at c.args.n.source) = c.place-b_s.ensures ∙ row_number c.row_of-b_row.ensures c.args.n.source in
    let b_d : c.place-b_d.result ≡ number_of P (node_at c.args.n.bulk) (node_at c.args.n.drain) = c.place-b_d.ensures ∙ row_number c.row_of-b_row.ensures c.args.n.drain in
    let dx_dx : c.place_unless-dx_dx.result ≡ number_of P (node_at c.args.n.drain_ext) (node_at c.args.n.drain_ext) = c.place_unless-dx_dx.ensures ∙ same_node_lem P c.args.n.drain_ext c.args.n.drain _ _ c.args.n.drain_ext c.args.n.drain_ext d_d (λ e. e) (λ e. e) (row_number c.row_of-dx_row.ensures c.args.n.drain_ext) in
    let dx_d : c.place_unless-dx_d.result ≡ number_of P (node_at c.args.n.drain_ext) (node_at c.args.n.drain) = c.place_unless-dx_d.ensures ∙ same_node_lem P c.args.n.drain_ext c.args.n.drain _ _ c.args.n.drain_ext c.args.n.drain d_d (λ e. e) (λ e. refl) (row_number c.row_of-dx_row.ensures c.args.n.drain) in
    let d_dx : c.place_unless-d_dx.result ≡ number_of P (node_at c.args.n.drain) (node_at c.args.n.drain_ext) = c.place_unless-d_dx.ensures ∙ same_node_lem P c.args.n.drain_ext c.args.n.drain _ _ c.args.n.drain c.args.n.drain_ext d_d (λ e. refl) (λ e. e) (row_number c.row_of-d_row.ensures c.args.n.drain_ext) in
    let sx_sx : c.place_unless-sx_sx.result ≡ number_of P (node_at c.args.n.source_ext) (node_at c.args.n.source_ext) = c.place_unless-sx_sx.ensures ∙ same_node_lem P c.args.n.source_ext c.args.n.source _ _ c.args.n.source_ext c.args.n.source_ext s_s (λ e. e) (λ e. e) (row_number c.row_of-sx_row.ensures c.args.n.source_ext) in
    let sx_s : c.place_unless-sx_s.result ≡ number_of P (node_at c.args.n.source_ext) (node_at c.args.n.source) = c.place_unless-sx_s.ensures ∙ same_node_lem P c.args.n.source_ext c.args.n.source _ _ c.args.n.source_ext c.args.n.source s_s (λ e. e) (λ e. refl) (row_number c.row_of-sx_row.ensures c.args.n.source) in
    let s_sx : c.place_unless-s_sx.result ≡ number_of P (node_at c.args.n.source) (node_at c.args.n.source_ext) = c.place_unless-s_sx.ensures ∙ same_node_lem P c.args.n.source_ext c.args.n.source _ _ c.args.n.source c.args.n.source_ext s_s (λ e. refl) (λ e. e) (row_number c.row_of-s_row.ensures c.args.n.source_ext) in
    d_g ∷≡ d_d ∷≡ d_s ∷≡ d_b ∷≡ s_g ∷≡ s_d ∷≡ s_s ∷≡ s_b ∷≡ dx_dx ∷≡ dx_d ∷≡ d_dx ∷≡ d_d ∷≡ sx_sx ∷≡ sx_s ∷≡ s_sx ∷≡ s_s ∷≡ b_b ∷≡ b_s ∷≡ s_b ∷≡ s_s ∷≡ b_b ∷≡ b_d ∷≡ d_b ∷≡ d_d ∷≡ refl
