use Rattle.std.proofs.Common.{◌≡◌, IfSome, IfNone, subst}
use Rattle.std.specs.Str.{chars}
use Rattle.std.specs.Cow.{cow_str_bytes}
use Rattle.pattern_model.specs.Literals.{Analysis, IsAnalysis}
use Rattle.literal_patterns.specs.Analyses.{analysis_of}
use Rattle.literal_patterns.proofs.RunLaws.{match_none, prefix_alone}
use Rattle.literal_patterns.proofs.analysis.pattern_as_prefix.Goals as goal

pub returns-in-Some-clause-none : goal.returns-in-Some-clause-none
returns-in-Some-clause-none c =
    match_none (λ t. analysis_of c.in-Some.analysis ≡ Analysis.prefix (chars (cow_str_bytes t))) c.into_prefix.result c.into_prefix.ensures
    (prefix_alone (chars c.args.pattern.now) (analysis_of c.in-Some.analysis)
    (subst (λ o. IfSome o (λ a. IsAnalysis (chars c.args.pattern.now) (analysis_of a))) c.in-Some.is c.in_ok-analysis.ensures.some))

pub returns-in-None-clause-none : goal.returns-in-None-clause-none
returns-in-None-clause-none c = λ w h.
    subst (λ o. IfNone o ((a : Analysis) → IsAnalysis (chars c.args.pattern.now) a → ⊥)) c.in-None.is c.in_ok-analysis.ensures.none
    (Analysis.prefix w) h
