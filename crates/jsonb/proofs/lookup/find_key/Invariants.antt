use Rattle.std.proofs.Common.{◌<◌, ◌≤◌}
use Rattle.jsonb.specs.inner.Views.{place}
use Rattle.jsonb.proofs.HalvingLaws.{Narrowed, Halved}
use Rattle.jsonb.proofs.lookup.find_key.Given as goal

abbrev pub invariant-loop-size : goal.invariant-loop-size
invariant-loop-size g l = record {
  narrowed : Narrowed l.key l.count l.size (place l.first) (place l.start);
  halved : Halved l.count l.size l.fn.steps l.steps;
  within : l.size ≤ l.count;
  rise : l.fn.steps ≤ l.steps;
  some : l.size < l.count → l.fn.steps < l.steps;
}

abbrev pub decreases-loop-size : goal.decreases-loop-size
decreases-loop-size g l = l.size
