use Rattle.std.proofs.Common.{◌*◌}
use Rattle.std.specs.Simd.Lanes.{chunk}
use Rattle.bytecount.specs.Tallies.{WordTallies}
use Rattle.bytecount.proofs.integer_simd.word_tallies.Given as goal

abbrev pub invariant-loop-i : goal.invariant-loop-i
invariant-loop-i g l = WordTallies (g.T.ByteTest.passes l.test) l.i (chunk l.from (8 * l.i) l.bytes) l.counts
