use Rattle.std.proofs.Common.{Some, ap, ◌∙◌}
use Rattle.std.specs.Str.{chars}
use Rattle.std.proofs.lemmas.Str.{chars-nil}
use Rattle.pattern_translation.proofs.witness.empty.Goals as goal

pub returns : goal.returns
returns c = ap (λ z. Some (chars z)) c.new.ensures.bytes ∙ ap Some chars-nil
