use Rattle.std.proofs.Common.{sym}
use Rattle.json_model.proofs.KindLaws.{number_some}
use Rattle.flat_keywords.proofs.read.read_limit.Goals as goal

pub returns-in-Some-of_number : goal.returns-in-Some-of_number
returns-in-Some-of_number g c =
    rw (number_some (g.N.HasTree.tree c.args.value.now) (sym c.to_number.ensures) c.in-Some.ensures) c.in-Some-of_number.ensures.some
