use Rattle.std.proofs.Common.{◌≡◌, ap, sym, ◌∙◌}
use Rattle.std.specs.Cmp.Lexicographic.{bytes_decides}
use Rattle.std.specs.Str.{chars}
use Rattle.std.proofs.lemmas.Str.{encodes-chars}
use lib.Utf8.{encodes}
use Rattle.literal_patterns.proofs.text.is.Goals as goal

pub returns : goal.returns
returns c =
    let text = c.args.text.now in
    let other = c.args.other.now in
    let decides = bytes_decides text other in (
      λ h. ap chars (decides.0 (sym c.eq.ensures ∙ h)),
      λ h. c.eq.ensures ∙ decides.1 (sym (encodes-chars text c.utf8.text) ∙ ap encodes h ∙ encodes-chars other c.utf8.other),
    )
