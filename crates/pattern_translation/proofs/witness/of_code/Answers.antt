use Rattle.std.proofs.Common.{Some, None, ap, sym, [], ◌∷◌}
use Rattle.std.specs.Prelude.{if◌then◌else◌}
use Rattle.std.proofs.lemmas.Bool.{false_from_ne_true}
use lib.Utf8.{scalar}
use Rattle.pattern_translation.proofs.witness.of_code.Goals as goal

pub returns-in-None : goal.returns-in-None
returns-in-None c =
    sym (ap (λ b. if b then Some (c.args.code ∷ []) else None) (false_from_ne_true (scalar c.args.code) c.in-None.ensures.value))
