use Rattle.std.proofs.Common.{arith}
use Rattle.jsonb.proofs.Walks.{first_fits}
use Rattle.jsonb.proofs.items.Items.node.Goals as goal

pub node_of-requires-clause-room : goal.node_of-requires-clause-room
node_of-requires-clause-room c = omega (arith, first_fits _ _ c.requires.first, c.args.self.now.room)
