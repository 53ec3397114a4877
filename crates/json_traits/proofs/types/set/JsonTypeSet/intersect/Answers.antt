use Rattle.json_traits.proofs.BitLaws.{and_is}
use Rattle.json_traits.proofs.types.set.JsonTypeSet.intersect.Goals as goal

pub returns : goal.returns
returns c = λ ty. and_is c.args.self.bits c.args.other.bits ty
