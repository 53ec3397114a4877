use Rattle.std.proofs.Common.{rules, ap, sym, ◌∙◌, ◌∷◌}
use Rattle.std.specs.Str.{chars}
use Rattle.pattern_model.specs.Digits.{digits, digits_from}
use Rattle.pattern_tree.proofs.number.past_zeros.Goals as goal

pub loop-c-preserved : goal.loop-c-preserved
unfolding digits
loop-c-preserved c = (
  search rules,
  sym (ap (digits_from 0) c.in-Some.ensures.0 ∙ ap (λ z. digits_from 0 (z ∷ chars c.in-Some.next.now)) c.if-c-ne48.false)
      ∙ c.loop-c.invariant.1,
)
