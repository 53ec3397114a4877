use Rattle.std.proofs.Common.{◌≡◌, ◌*◌, take, count_by}
use Rattle.bytecount.proofs.simd.generic.count_all.Given as goal

abbrev pub invariant-loop-i : goal.invariant-loop-i
invariant-loop-i g l = l.total ≡ count_by (g.T.ByteTest.passes l.test) (take (8160 * l.i) l.bytes)
