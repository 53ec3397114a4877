use Rattle.std.proofs.Common.{sym, ◌∙◌}
use Rattle.std.proofs.lemmas.Str.Pattern.{starts_text}
use Rattle.literal_patterns.proofs.HitLaws.{begins}
use Rattle.literal_patterns.proofs.text.begins.Goals as goal

pub returns : goal.returns
returns c =
    let text = c.args.text.now in
    let front = c.args.front.now in
    let same = starts_text c.starts_with.result front text c.starts_with.ensures.cases in
    let both = begins text front c.utf8.text c.utf8.front in (λ h. both.0 (sym same ∙ h), λ h. same ∙ both.1 h)
