use Rattle.std.proofs.Common.{length}
use Rattle.jsonb.proofs.Texts.{AsciiSoFar}
use Rattle.jsonb.proofs.ascii.is_ascii.Given as goal

abbrev pub invariant-loop-block : goal.invariant-loop-block
invariant-loop-block l = AsciiSoFar l.bytes l.rest

abbrev pub decreases-loop-block : goal.decreases-loop-block
decreases-loop-block l = length l.rest
