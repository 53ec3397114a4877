use Rattle.std.proofs.Common.{◌+◌, ◌≡◌, length}
use Rattle.json_exact.specs.inner.Reading.{digit_count}
use Rattle.json_exact.proofs.literal_parts.digits_at_front.Given as goal

abbrev pub invariant-loop-rest : goal.invariant-loop-rest
invariant-loop-rest l = record {
  counted : digit_count l.bytes ≡ l.count + digit_count l.rest;
  few : l.count + length l.rest ≡ length l.bytes;
}

abbrev pub decreases-loop-rest : goal.decreases-loop-rest
decreases-loop-rest l = length l.rest
