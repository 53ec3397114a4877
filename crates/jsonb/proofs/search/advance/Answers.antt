use Rattle.jsonb.proofs.Scalars.{moves_on}
use Rattle.jsonb.proofs.search.advance.Goals as goal

pub returns : goal.returns
returns c =
    moves_on c.pass_plain.ensures.same c.pass_plain.ensures.shorter c.args.suspended.now.items c.step.new.suspended.items c.args.found.now
    c.step.new.found _ c.step.ensures
