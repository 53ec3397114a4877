use Rattle.pattern_translation.proofs.TokenWriting.{name_added}
use Rattle.pattern_translation.proofs.pattern_text.write_name.Goals as goal

pub returns : goal.returns
returns c =
    name_added c.args.name.now _ _ _ _ c.utf8.name c.in_ok-push_str.ensures.bytes c.in_ok-push_str-2.ensures.bytes
    c.in_ok-push_str-3.ensures.bytes
