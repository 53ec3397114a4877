use Rattle.std.proofs.Common.{ap, subst, sym}
use Rattle.jsonb.specs.declared.found.Found.{Found}
use Rattle.jsonb.specs.inner.Frames.{next_of}
use Rattle.jsonb.proofs.AdvanceLaws.{SoFar, goes_on, stops, ends}
use Rattle.jsonb.proofs.search.container_faults.Goals as goal

pub returns-in-Err : goal.returns-in-Err
returns-in-Err c = stops (ap (next_of c.loop-goes_on.frame) c.loop-goes_on-test.true) c.loop-goes_on.invariant c.in-Err.error c.in-Err.ensures

pub returns : goal.returns
returns c =
    ends c.args.bytes.now c.loop-goes_on.found (next_of c.loop-goes_on.frame c.loop-goes_on.goes_on) c.loop-goes_on.suspended.items
    (ap (next_of c.loop-goes_on.frame) c.loop-goes_on-test.false) c.loop-goes_on.invariant

pub loop-goes_on-preserved : goal.loop-goes_on-preserved
loop-goes_on-preserved c =
    let next = next_of c.advance.new.frame c.in-Ok.next in
    let m = c.in-Ok.ensures in
    subst (λ (f : Found). SoFar c.args.bytes.now f next c.advance.new.suspended.items) (sym m.1)
    (goes_on (ap (next_of c.loop-goes_on.frame) c.loop-goes_on-test.true) c.loop-goes_on.invariant c.advance.new.suspended.items m.0 next m.2)
