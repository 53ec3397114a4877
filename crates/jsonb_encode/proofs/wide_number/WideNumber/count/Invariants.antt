use Rattle.std.proofs.Common.{◌^◌, ◌<◌}
use Rattle.jsonb_encode.specs.inner.Wide.{size}
use Rattle.jsonb_encode.proofs.wide_number.WideNumber.count.Given as goal

abbrev pub invariant-loop-count : goal.invariant-loop-count
invariant-loop-count l = record {
  below : size l.self < 10000 ^ l.count;
  few : l.count < 2 ^ 62;
}

abbrev pub decreases-loop-count : goal.decreases-loop-count
decreases-loop-count l = l.count
