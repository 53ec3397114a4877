use Rattle.std.proofs.Common.{◌+◌}
use Rattle.jsonb.specs.inner.Frames.{next_of, next_weight, frames_weight}
use Rattle.jsonb.proofs.AdvanceLaws.{SoFar}
use Rattle.jsonb.proofs.search.container_faults.Given as goal

abbrev pub invariant-loop-goes_on : goal.invariant-loop-goes_on
invariant-loop-goes_on l = SoFar l.bytes l.found (next_of l.frame l.goes_on) l.suspended.items

abbrev pub decreases-loop-goes_on : goal.decreases-loop-goes_on
decreases-loop-goes_on l = next_weight (next_of l.frame l.goes_on) + frames_weight l.suspended.items
