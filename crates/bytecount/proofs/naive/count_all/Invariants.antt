use Rattle.std.proofs.Common.{◌≡◌, take, count_by}
use Rattle.bytecount.proofs.naive.count_all.Given as goal

abbrev pub invariant-loop-byte : goal.invariant-loop-byte
invariant-loop-byte g l = l.total ≡ count_by (g.T.ByteTest.passes l.test) (take l.byte-index l.bytes)
