use Rattle.std.proofs.Common.{ap, ◌∙◌}
use Rattle.json_model.specs.Decimal.{Decimal as Written}
use Rattle.json_model.specs.Tree.{number, scalar}
use Rattle.json_semantics.proofs.ConformanceLaws.{no_refusal, one_number, tree_number}
use Rattle.json_semantics.proofs.conformance.sample.number.Goals as goal

pub unreachable-requires : goal.unreachable-requires
unreachable-requires c =
    no_refusal c.in-Err.field-0 c.parse.result c.args.literal.now c.requires c.in-Err.is c.parse.ensures.not_a_number c.parse.ensures.too_wide
    c.parse.ensures.out_of_range

pub returns : goal.returns
returns c =
    λ w is. tree_number c.in-Ok.number
    ∙ ap (λ (n : Written). scalar (number n)) (one_number c.args.literal.now c.in-Ok.number w c.in-Ok.ensures.read is)
