use Rattle.jsonb.specs.inner.Views.{place}
use Rattle.jsonb.proofs.Scalars.{AddedLeft}
use Rattle.jsonb.proofs.search.read_scalars.Given as goal

abbrev pub invariant-loop-left : goal.invariant-loop-left
invariant-loop-left l = AddedLeft l.fn.found l.found l.fn.frame.left l.left (place l.current) (place l.fn.frame.start)

abbrev pub decreases-loop-left : goal.decreases-loop-left
decreases-loop-left l = l.left
