use Rattle.std.proofs.Common.{sym, ◌∙◌}
use Rattle.std.specs.Str.{chars}
use Rattle.pattern_tree.proofs.NumberLemmas.{brace_high}
use Rattle.pattern_tree.proofs.number.code_point.Goals as goal

pub returns-then-number-gt1114111-clause-value : goal.returns-then-number-gt1114111-clause-value
returns-then-number-gt1114111-clause-value c =
    sym c.loop-c.invariant.1 ∙ brace_high c.loop-c.number c.in-Some.c c.in_ok-digit.digit (chars c.in-Some.next.now)
    (chars c.loop-c.after.now) c.in-Some.ensures.0 c.if-c-eq125.false c.in_ok-digit.ensures.value c.if-number-gt1114111.true
