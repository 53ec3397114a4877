use Rattle.std.proofs.Common.{ap, ◌∙◌, ◌||◌}
use Rattle.json_traits.specs.Weights.{same}
use Rattle.json_traits.proofs.types.json_type.JsonTypeBitOr.bitor.Goals as goal

pub returns : goal.returns
returns c = λ ty. c.insert.ensures ty ∙ ap (λ b. b || same ty c.args.other) (c.from.ensures ty)
