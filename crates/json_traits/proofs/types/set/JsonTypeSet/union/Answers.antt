use Rattle.std.proofs.lemmas.Nat.{or_lt}
use Rattle.json_traits.proofs.BitLaws.{or_is}
use Rattle.json_traits.proofs.types.set.JsonTypeSet.union.Goals as goal

pub returns : goal.returns
returns c = λ ty. or_is c.args.self.bits c.args.other.bits ty

pub invariant_of-result : goal.invariant_of-result
invariant_of-result c = record { seven = or_lt 7 c.args.self.bits c.args.other.bits c.args.self.seven c.args.other.seven }
