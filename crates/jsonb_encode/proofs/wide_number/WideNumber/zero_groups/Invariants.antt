use Rattle.std.proofs.Common.{◌≡◌, ◌-◌, ◌/◌, ◌%◌, ◌^◌, ◌<◌, ◌≤◌, ℕ}
use Rattle.jsonb_encode.specs.inner.Wide.{size}
use Rattle.jsonb_encode.proofs.wide_number.WideNumber.zero_groups.Given as goal

abbrev pub invariant-loop-zeros : goal.invariant-loop-zeros
invariant-loop-zeros l = record {
  within : l.zeros ≤ l.count;
  all : (i : ℕ) → i < l.zeros → size l.self / 10000 ^ i % 10000 ≡ 0;
}

abbrev pub decreases-loop-zeros : goal.decreases-loop-zeros
decreases-loop-zeros l = l.count - l.zeros
