use Rattle.std.proofs.Common.{◌*◌}
use Rattle.std.specs.Simd.Lanes.{chunk}
use Rattle.bytecount.specs.Tallies.{Tallies}
use Rattle.bytecount.proofs.simd.generic.tallies.Given as goal

abbrev pub invariant-loop-i : goal.invariant-loop-i
invariant-loop-i g l = Tallies (g.T.ByteTest.passes l.test) 32 l.i (chunk l.from (32 * l.i) l.bytes) l.counts
