use Rattle.pattern_translation.proofs.CopyLaws.{adds_ascii, spaces_ascii}
use Rattle.pattern_translation.proofs.written.write_spaces.Goals as goal

pub returns : goal.returns
returns c = adds_ascii _ _ _ spaces_ascii c.in_ok-push_str.ensures.bytes
