use Rattle.std.proofs.Common.{sym, ◌∙◌}
use Rattle.flat_keywords.specs.Draft4.{draft4_names}
use Rattle.flat_keywords.specs.Names.{names_2020}
use Rattle.flat_keywords.proofs.KeywordNames.{past_shared}
use Rattle.flat_keywords.proofs.keyword.Keyword.from_name.Goals as goal

pub returns-in-Draft2020 : goal.returns-in-Draft2020
returns-in-Draft2020 c =
    let no = c.in_default in
    c.of_2020.ensures ∙ rw c.in-Draft2020.is (sym (past_shared
    c.args.name.now names_2020 no.not-enum no.not-minLength no.not-maxLength no.not-minItems
    no.not-maxItems no.not-uniqueItems no.not-minProperties no.not-maxProperties no.not-pattern no.not-required no.not-title
    no.not-description no.not-text))

pub returns-in-Draft4 : goal.returns-in-Draft4
returns-in-Draft4 c =
    let no = c.in_default in
    c.of_draft_4.ensures ∙ rw c.in-Draft4.is (sym (past_shared c.args.name.now (draft4_names
    c.in-Draft4.partners) no.not-enum no.not-minLength no.not-maxLength
    no.not-minItems no.not-maxItems no.not-uniqueItems no.not-minProperties no.not-maxProperties no.not-pattern no.not-required no.not-title
    no.not-description no.not-text))
