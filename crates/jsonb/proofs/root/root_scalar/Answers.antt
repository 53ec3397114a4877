use Rattle.std.proofs.Common.{subst, ap, length, arith}
use Rattle.jsonb.specs.inner.Values.{IsJsonTree}
use Rattle.jsonb.proofs.RootLaws.{lone_json, lone_is_item, lone_node}
use Rattle.jsonb.proofs.root.root_scalar.Goals as goal

pub node_of-requires-clause-room : goal.node_of-requires-clause-room
node_of-requires-clause-room c = omega (arith, c.piece-piece.ensures.short, ap length c.piece-piece.ensures.piece)

pub node_of-requires-clause-stands : goal.node_of-requires-clause-stands
node_of-requires-clause-stands c =
    subst IsJsonTree (lone_is_item c.args.item c.in-Some.found c.in-Some.ensures)
    (lone_json c.args.item c.in-Some.found c.in-Some.ensures c.in-Ok.ensures)

pub returns-in-Ok-clause-read : goal.returns-in-Ok-clause-read
returns-in-Ok-clause-read c = lone_node c.args.item c.in-Some.found c.node_of.result c.in-Some.ensures c.in-Ok.ensures c.node_of.ensures.tree
