use mathlib.Core.Path.{◌≡◌, ◌∙◌}
use Rattle.temperature.specs.Temperature.{scaled_vto_of, type_of}
use Rattle.temperature.proofs.Branches.{yes, no}
use Rattle.scaling.proofs.scaled_vto.Goals as goal
use Rattle.scaling.proofs.scaled_vto.Goals.{then-is_pmos, else-is_pmos}

pub returns : goal.returns
unfolding scaled_vto_of
returns c =
    let ty : c.if-is_pmos.ty ≡ type_of c.args.is_pmos = elim c.if-is_pmos.branch [
      | then-is_pmos w ↦ w.ty-is ∙ yes _ _ w.if-is_pmos.true
      | else-is_pmos w ↦ w.ty-is ∙ no _ _ w.if-is_pmos.false
    ] in
    rw (c.body_term-2.ensures, c.bandgap_ev-2.ensures, c.bandgap_ev.ensures, c.body_term.ensures, ty)
