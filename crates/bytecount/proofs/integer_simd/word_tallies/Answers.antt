use Rattle.std.proofs.Common.{◌+◌, ◌*◌, subst, sym, arith}
use Rattle.std.specs.Simd.Lanes.{chunk}
use Rattle.bytecount.specs.Tallies.{WordTallies}
use Rattle.bytecount.proofs.CountLaws.{chunk-next}
use Rattle.bytecount.proofs.WordTallyLaws.{WordTallies-none, WordTallies-marks, WordTallies-both, WordTallies-lt}
use Rattle.bytecount.proofs.integer_simd.word_tallies.Goals as goal

pub loop-i-init : goal.loop-i-init
loop-i-init g c = WordTallies-none (g.T.ByteTest.passes c.args.test.now)

pub overflow_add-counts : goal.overflow_add-counts
overflow_add-counts g c =
    let p = g.T.ByteTest.passes c.args.test.now in
    let next = chunk (c.args.from + 8 * c.loop-i.i) 8 c.args.bytes.now in
    let one = WordTallies-marks p next c.word_marks-counts.result c.word_at.ensures.long (c.word_marks-counts.ensures next c.word_at.ensures) in
    record { fits = WordTallies-lt (WordTallies-both c.loop-i.invariant one) (omega arith) }

pub loop-i-preserved : goal.loop-i-preserved
loop-i-preserved g c =
    let p = g.T.ByteTest.passes c.args.test.now in
    let next = chunk (c.args.from + 8 * c.loop-i.i) 8 c.args.bytes.now in
    let one = WordTallies-marks p next c.word_marks-counts.result c.word_at.ensures.long (c.word_marks-counts.ensures next c.word_at.ensures) in
    subst (λ read. WordTallies p (c.loop-i.i + 1) read (c.loop-i.counts + c.word_marks-counts.result))
    (sym (chunk-next c.args.from 8 c.loop-i.i c.args.bytes.now)) (WordTallies-both c.loop-i.invariant one)
