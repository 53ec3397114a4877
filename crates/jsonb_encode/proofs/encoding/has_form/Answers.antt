use Rattle.std.proofs.Common.{sym, ap, ◌∙◌}
use Rattle.json_exact.specs.Trees.{tree}
use Rattle.jsonb_encode.specs.Limits.{all_fit}
use Rattle.jsonb_encode.specs.declared.number_form.NumericForm.{NumericForm}
use Rattle.jsonb_encode.proofs.Roots.{short_always, long_always}
use Rattle.jsonb_encode.proofs.encoding.has_form.Goals as goal

pub returns-in-Short : goal.returns-in-Short
returns-in-Short c = sym (ap (λ (f : NumericForm). all_fit f (tree c.args.value.now)) c.in-Short.is ∙ short_always (tree c.args.value.now))

pub returns-in-Long : goal.returns-in-Long
returns-in-Long c = sym (ap (λ (f : NumericForm). all_fit f (tree c.args.value.now)) c.in-Long.is ∙ long_always (tree c.args.value.now))
