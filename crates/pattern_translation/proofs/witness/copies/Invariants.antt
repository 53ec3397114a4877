use Rattle.std.proofs.Common.{◌≡◌}
use Rattle.std.specs.Str.{chars}
use Rattle.std.specs.String.{string_bytes}
use Rattle.pattern_translation.specs.Witness.{times}
use Rattle.pattern_translation.proofs.witness.copies.Given as goal

abbrev pub invariant-loop-done : goal.invariant-loop-done
invariant-loop-done l = chars (string_bytes l.copies) ≡ times l._done (chars l.text)
