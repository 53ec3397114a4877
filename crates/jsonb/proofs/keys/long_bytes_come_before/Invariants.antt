use Rattle.std.proofs.Common.{length}
use Rattle.jsonb.proofs.KeyBytes.{EightsSoFar}
use Rattle.jsonb.proofs.keys.long_bytes_come_before.Given as goal

abbrev pub invariant-loop-v : goal.invariant-loop-v
invariant-loop-v l = EightsSoFar l.a l.b l.x l.y

abbrev pub decreases-loop-v : goal.decreases-loop-v
decreases-loop-v l = length l.x
