use Rattle.power.proofs.FractionalExponents.{to_fraction, to_minus_fraction}
use Rattle.power.proofs.by_digits.Goals as goal
-- `power::by_digits` meets its contract. Assumes nothing.
use mathlib.Core.Bool.{true, false}

pub exponent-m_digits-requires : goal.exponent-m_digits-requires
exponent-m_digits-requires c = c.requires.1.0.0

pub exponent-m_rest-requires : goal.exponent-m_rest-requires
exponent-m_rest-requires c = c.requires.1.0.1

pub exponent-n_digits-requires : goal.exponent-n_digits-requires
exponent-n_digits-requires c = c.requires.1.1.0

pub exponent-n_rest-requires : goal.exponent-n_rest-requires
exponent-n_rest-requires c = c.requires.1.1.1

pub raise-a-requires : goal.raise-a-requires
raise-a-requires c = (c.requires.0, c.exponent-m_digits.ensures.few)

pub raise-c-requires : goal.raise-c-requires
raise-c-requires c = (c.requires.0, c.exponent-m_rest.ensures.few)

pub raise-d-requires : goal.raise-d-requires
raise-d-requires c = (c.requires.0, c.exponent-n_digits.ensures.few)

pub raise-e-requires : goal.raise-e-requires
raise-e-requires c = (c.requires.0, c.exponent-n_rest.ensures.few)

pub returns-then-below : goal.returns-then-below
returns-then-below c =
    let v = c.requires.0 in
    rw (
      c.if-below.true,
      c.raise-a.ensures,
      c.raise-c.ensures,
      c.raise-d.ensures,
      c.raise-e.ensures,
      to_minus_fraction _ _ c.exponent-m_digits.ensures v true,
      to_fraction _ _ c.exponent-m_rest.ensures v true,
      to_minus_fraction _ _ c.exponent-n_digits.ensures v true,
      to_fraction _ _ c.exponent-n_rest.ensures v true,
    )

pub returns : goal.returns
returns c =
    let v = c.requires.0 in
    rw (
      c.if-below.false,
      c.raise-a.ensures,
      c.raise-c.ensures,
      c.raise-d.ensures,
      c.raise-e.ensures,
      to_minus_fraction _ _ c.exponent-m_digits.ensures v false,
      to_fraction _ _ c.exponent-m_rest.ensures v false,
      to_minus_fraction _ _ c.exponent-n_digits.ensures v false,
      to_fraction _ _ c.exponent-n_rest.ensures v false,
    )
