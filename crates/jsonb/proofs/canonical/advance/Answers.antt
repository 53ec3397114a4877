use Rattle.jsonb.specs.Seated.{node_seat}
use Rattle.jsonb.proofs.CanonicalLaws.{advanced_by}
use Rattle.jsonb.proofs.canonical.advance.Goals as goal

pub returns : goal.returns
returns c =
    advanced_by c.args.values c.next.new.self (node_seat c.in-Some.value) c.args.pending.now.items c.put_off.new.pending.items
    c.look.new.pending.items c.look.result c.in-Some.ensures.steps c.in_ok-put_off.ensures c.look.ensures
