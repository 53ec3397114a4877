use Rattle.std.proofs.Common.{refl, ◌≡◌, false, true, ap, sym, ◌∙◌, drop, subst}
use Rattle.std.specs.Str.{chars}
use Rattle.pattern_model.specs.Literals.{Alternatives}
use Rattle.literal_patterns.proofs.RunLaws.{none_then, no_form, group_none, none_begun}
use Rattle.literal_patterns.proofs.analysis.analyze_pattern.Goals as goal

pub returns-then-is-clause-some : goal.returns-then-is-clause-some
unfolding chars
returns-then-is-clause-some c = c.if-is.ensures.0 refl

pub returns-in-None-clause-none : goal.returns-in-None-clause-none
returns-in-None-clause-none c = none_begun (chars c.args.pattern.now) c.in-None.ensures

pub returns-in_ok-analyze_text-in-None-past-clause-none : goal.returns-in_ok-analyze_text-in-None-past-clause-none
unfolding chars
returns-in_ok-analyze_text-in-None-past-clause-none c =
    none_then c.in_ok-analyze_text-in-None-past.field-0 c.in_ok-analyze_text-in-None-past.ensures.none
    (λ t. no_form (chars c.args.pattern.now) (chars c.in-Some.body.now) c.in-Some.ensures.0
    (λ e. let no : false ≡ true = c.if-is.ensures.1 e in cc) t (λ y vs e a. c.in-None-past.ensures y e))

pub returns-in_ok-analyze_alternatives-in-Some-past-clause-none : goal.returns-in_ok-analyze_alternatives-in-Some-past-clause-none
unfolding chars
returns-in_ok-analyze_alternatives-in-Some-past-clause-none c =
    none_then c.in_ok-analyze_alternatives-in-Some-past.field-0 c.in_ok-analyze_alternatives-in-Some-past.ensures.none
    (λ n. no_form (chars c.args.pattern.now) (chars c.in-Some.body.now) c.in-Some.ensures.0
    (λ e. let no : false ≡ true = c.if-is.ensures.1 e in cc)
    (group_none (chars c.in-Some.body.now) (chars c.in-Some-past.inner.now) c.in-Some-past.ensures.0)
    (λ y vs e a. n vs (subst (λ z. Alternatives z vs) (sym (ap (drop 1) (sym c.in-Some-past.ensures.0 ∙ e))) a)))
