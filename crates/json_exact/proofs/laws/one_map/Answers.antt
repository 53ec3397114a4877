use Rattle.key_map.proofs.Lookups.{one_list}
use Rattle.json_exact.specs.Trees.{pairs}
use Rattle.json_exact.proofs.laws.one_map.Goals as goal

pub returns : goal.returns
returns c = one_list (pairs c.args.one.now) (pairs c.args.other.now) c.iter-members.ensures.rise c.iter-others.ensures.rise
