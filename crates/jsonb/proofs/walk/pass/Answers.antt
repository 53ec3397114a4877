use Rattle.jsonb.proofs.Walks.{pass_begins, pass_stops, pass_goes_on, pass_ends}
use Rattle.jsonb.proofs.walk.pass.Goals as goal

pub loop-init : goal.loop-init
loop-init c = pass_begins _ _

pub returns-in_err-behind : goal.returns-in_err-behind
returns-in_err-behind c = rw c.from_residual.ensures (pass_stops c.loop.invariant c.loop-test.true c.in_err-behind.ensures)

pub loop-preserved : goal.loop-preserved
loop-preserved c = pass_goes_on c.loop.invariant c.loop-test.true c.in_ok-behind.ensures

pub returns : goal.returns
returns c = pass_ends c.loop.invariant c.loop-test.false
