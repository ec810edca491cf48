use Rattle.std.proofs.Common.{◌≡◌, drop}
use Rattle.std.specs.Str.{str_eq_ignore_ascii_case}
use Rattle.key_names.proofs.is.Given as goal

-- the bytes before are the same
abbrev pub invariant-loop-i : goal.invariant-loop-i
invariant-loop-i l =
    str_eq_ignore_ascii_case l.key l.name ≡ str_eq_ignore_ascii_case (drop l.i l.key) (drop l.i l.name)
