use Rattle.std.proofs.Common.{◌≡◌, ◌+◌, ◌-◌, ◌%◌, ◌≤◌}
use Rattle.jsonb.specs.inner.Views.{place}
use Rattle.jsonb.proofs.LeapLaws.{Summed}
use Rattle.jsonb.proofs.leap.end_of.Given as goal

abbrev pub invariant-loop-left : goal.invariant-loop-left
invariant-loop-left g l = record {
  summed : Summed l.count l.left l.sum (place l.start);
  within : l.left ≤ l.count;
  ticks : l.steps + l.left ≡ l.fn.steps + l.count;
  few : (l.count - l.left) + (l.start.index + l.left + 31) % 32 ≤ 31;
}

abbrev pub decreases-loop-left : goal.decreases-loop-left
decreases-loop-left g l = l.left
