use Rattle.std.proofs.Common.{◌-◌, ◌*◌, ◌/◌, ◌%◌, length, ap, ◌∙◌, arith, count_by}
use Rattle.bytecount.proofs.CountLaws.{chunk-rest}
use Rattle.bytecount.proofs.TallyLaws.{Tallies-fit, Tallies-both}
use Rattle.bytecount.proofs.simd.generic.count_rest.Goals as goal

pub overflow_add-counts : goal.overflow_add-counts
overflow_add-counts g c = Tallies-fit c.tallies-counts.ensures c.tail_marks.ensures (omega arith)

pub sum-requires-2 : goal.sum-requires-2
sum-requires-2 g c = (Tallies-both c.tallies-counts.ensures c.tail_marks.ensures).long

pub returns : goal.returns
returns g c =
    let p = g.T.ByteTest.passes c.args.test.now in
    let bytes = c.args.bytes.now in
    let vectors = (length bytes - c.args.from) / 32 in
    let size = (length bytes - c.args.from) % 32 in
    c.sum-2.ensures
    ∙ (Tallies-both c.tallies-counts.ensures c.tail_marks.ensures).total
    ∙ ap (count_by p) (chunk-rest c.args.from (32 * vectors) size bytes (omega arith))
