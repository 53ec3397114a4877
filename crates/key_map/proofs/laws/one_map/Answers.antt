use Rattle.key_map.proofs.Lookups.{one_list}
use Rattle.key_map.proofs.laws.one_map.Goals as goal

pub returns : goal.returns
returns g c = one_list c.args.one.now c.args.other.now c.members-members.ensures.rise c.members-others.ensures.rise
