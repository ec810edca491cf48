use Rattle.std.proofs.Common.{sym}
use Rattle.std.specs.Float.Ieee.{of_bits}
use Rattle.hex_text.proofs.Patterns.{nan_pattern, no_digits, other_field}
use Rattle.hex_text.proofs.read.float_of.Goals as goal
use Rattle.hex_text.proofs.read.float_of.Goals.{else-field-eq2047-via-then-field-eq2047+else-digits-ne0, else-field-eq2047-via-else-field-eq2047}

-- The two tests are those by which the IEEE model tells a NaN's pattern.

pub returns-then-digits-ne0 : goal.returns-then-digits-ne0
unfolding of_bits
returns-then-digits-ne0 c = sym (nan_pattern c.args.bits c.if-field-eq2047.true c.if-digits-ne0.true)

pub float_from_bits-result : goal.float_from_bits-result
float_from_bits-result c =
    elim c.else-field-eq2047.branch [
      | else-field-eq2047-via-then-field-eq2047+else-digits-ne0 w ↦ no_digits c.args.bits w.if-digits-ne0.false
      | else-field-eq2047-via-else-field-eq2047 w ↦ other_field c.args.bits w.if-field-eq2047.false
    ]
