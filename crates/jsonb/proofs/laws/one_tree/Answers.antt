use Rattle.jsonb_layout.proofs.Containers.{one_tree}
use Rattle.jsonb.proofs.laws.one_tree.Goals as goal

pub returns : goal.returns
returns c = one_tree c.args.bytes.now
