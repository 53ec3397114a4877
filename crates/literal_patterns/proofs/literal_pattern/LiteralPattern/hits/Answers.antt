use Rattle.std.proofs.Common.{◌≡◌, ap, sym, ◌∙◌}
use Rattle.std.specs.Prelude.{String, string_bytes, nat_eq, not}
use Rattle.std.specs.List.{list_any}
use Rattle.std.specs.Cmp.Lexicographic.{pointwise}
use Rattle.std.specs.Str.{chars}
use Rattle.pattern_model.specs.Members.{is_space}
use Rattle.literal_patterns.proofs.HitLaws.{among, none_pass}
use Rattle.literal_patterns.proofs.literal_pattern.LiteralPattern.hits.Goals as goal

pub returns-in-Alternation : goal.returns-in-Alternation
returns-in-Alternation c =
    let text = c.args.text.now in
    let both = among text c.utf8.text c.in-Alternation.texts.items in
    let same = c.is_among.ensures ∙ ap (list_any (λ t. pointwise nat_eq text (string_bytes t))) c.deref.ensures.value in
    rw c.in-Alternation.is (λ h. both.0 (sym same ∙ h), λ h. same ∙ both.1 h)

pub returns-in-NoWhitespace : goal.returns-in-NoWhitespace
returns-in-NoWhitespace c =
    let both = none_pass is_space (chars c.args.text.now) in
    let same = ap not c.contains_ecma_whitespace.ensures in
    rw c.in-NoWhitespace.is (λ h. both.0 (sym same ∙ h), λ h. same ∙ both.1 h)
