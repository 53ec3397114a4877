use Rattle.std.proofs.Common.{◌-◌, ◌*◌, ◌/◌, ◌%◌, length, ap, ◌∙◌, arith, count_by}
use Rattle.bytecount.proofs.CountLaws.{chunk-whole, chunk-rest}
use Rattle.bytecount.proofs.WordTallyLaws.{WordTallies-word, WordTallies-both, WordTallies-lt}
use Rattle.bytecount.proofs.integer_simd.count_rest.Goals as goal

pub returns-then-size-eq0 : goal.returns-then-size-eq0
returns-then-size-eq0 g c =
    let p = g.T.ByteTest.passes c.args.test.now in
    let bytes = c.args.bytes.now in
    let words = (length bytes - c.args.from) / 8 in
    let t = c.word_tallies-counts.ensures in
    c.byte_sum.ensures t.lanes (WordTallies-word t (omega arith))
    ∙ t.tallies.total
    ∙ ap (count_by p) (chunk-whole c.args.from (8 * words) bytes (omega arith))

pub overflow_add-counts : goal.overflow_add-counts
overflow_add-counts g c =
    record { fits = WordTallies-lt (WordTallies-both c.word_tallies-counts.ensures c.tail_word_marks.ensures) (omega arith) }

pub returns : goal.returns
returns g c =
    let p = g.T.ByteTest.passes c.args.test.now in
    let bytes = c.args.bytes.now in
    let words = (length bytes - c.args.from) / 8 in
    let size = (length bytes - c.args.from) % 8 in
    let t = WordTallies-both c.word_tallies-counts.ensures c.tail_word_marks.ensures in
    c.byte_sum-2.ensures t.lanes (WordTallies-word t (omega arith))
    ∙ t.tallies.total
    ∙ ap (count_by p) (chunk-rest c.args.from (8 * words) size bytes (omega arith))
