use Rattle.json_traits.proofs.ByteLaws.{count_is}
use Rattle.json_traits.proofs.types.set.JsonTypeSet.len.Goals as goal

pub returns : goal.returns
returns c = count_is c.args.self.bits c.args.self.seven
