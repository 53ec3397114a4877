use Rattle.std.proofs.Common.{◌-◌, ◌*◌, ◌/◌, ◌^◌, length, subst, arith}
use Rattle.std.specs.Simd.Lanes.{chunk}
use Rattle.bytecount.specs.Tallies.{WordTallies}
use Rattle.bytecount.proofs.CountLaws.{drop-last_chunk}
use Rattle.bytecount.proofs.WordTallyLaws.{WordTallies-shifted}
use Rattle.bytecount.proofs.integer_simd.tail_word_marks.Goals as goal

pub returns : goal.returns
returns g c =
    let p = g.T.ByteTest.passes c.args.test.now in
    let bytes = c.args.bytes.now in
    let last = chunk (length bytes - 8) 8 bytes in
    let marks = c.word_marks.ensures last c.word_at.ensures in
    subst (λ rest. WordTallies p 1 rest (c.word_marks.result / 2 ^ (64 - 8 * c.args.size)))
    (drop-last_chunk 8 c.args.size bytes (omega (arith, c.requires.enough)) (omega (arith, c.requires.short)))
    (WordTallies-shifted p c.args.size last c.word_marks.result c.word_at.ensures.long (omega (arith, c.requires.short)) marks)
