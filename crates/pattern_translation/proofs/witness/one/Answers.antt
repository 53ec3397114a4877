use Rattle.std.proofs.Common.{Some, ap, ◌∙◌, ◌++◌}
use Rattle.std.specs.Prelude.{encode_utf8}
use Rattle.std.specs.String.{string_bytes}
use Rattle.std.proofs.lemmas.Str.{IsUtf8-string_bytes}
use Rattle.pattern_translation.proofs.WitnessLaws.{one_text}
use Rattle.pattern_translation.proofs.witness.one.Goals as goal

pub returns : goal.returns
returns c =
    ap Some (one_text (string_bytes c.push.new.self) c.args.c (IsUtf8-string_bytes c.push.new.self)
    (c.in_ok-push.ensures.bytes ∙ ap (λ z. z ++ encode_utf8 c.args.c) c.new-text.ensures.bytes))
