use Rattle.std.proofs.Common.{map}
use Rattle.json_exact.specs.Trees.{pairs, member_pair}
use Rattle.json_exact.proofs.SerdeOrderLaws.{ordered_is}
use Rattle.json_exact.proofs.from_serde.sorted.Goals as goal

pub returns-clause-sorted : goal.returns-clause-sorted
returns-clause-sorted c =
    ordered_is (map member_pair c.args.list.items) (pairs c.in-Ok.members) c.iter-members.ensures.rise c.in-Ok.ensures.same
