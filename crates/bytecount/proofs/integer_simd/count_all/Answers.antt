use Rattle.std.proofs.Common.{◌≡◌, ◌+◌, ◌*◌, ◌/◌, length, take, ap, ◌∙◌, arith, count_by}
use Rattle.std.specs.Simd.Lanes.{chunk}
use Rattle.bytecount.proofs.CountLaws.{count-more, count-more-le, count-split, count-le}
use Rattle.bytecount.proofs.WordTallyLaws.{WordTallies-word}
use Rattle.bytecount.proofs.integer_simd.count_all.Goals as goal

pub overflow_add-total : goal.overflow_add-total
overflow_add-total g c =
    let p = g.T.ByteTest.passes c.args.test.now in
    let bytes = c.args.bytes.now in
    let i = c.loop-i.i in
    let t = c.word_tallies.ensures in
    let sums : c.byte_sum-total.result ≡ count_by p (chunk (2040 * i) (8 * 255) bytes) =
    c.byte_sum-total.ensures t.lanes (WordTallies-word t (omega arith)) ∙ t.tallies.total in
    record { fits = omega (arith, sums, c.loop-i.invariant, count-more-le p (2040 * i) (8 * 255) bytes) }

pub loop-i-preserved : goal.loop-i-preserved
loop-i-preserved g c =
    let p = g.T.ByteTest.passes c.args.test.now in
    let bytes = c.args.bytes.now in
    let i = c.loop-i.i in
    let t = c.word_tallies.ensures in
    let sums : c.byte_sum-total.result ≡ count_by p (chunk (2040 * i) (8 * 255) bytes) =
    c.byte_sum-total.ensures t.lanes (WordTallies-word t (omega arith)) ∙ t.tallies.total in
    ap (λ n. n + c.byte_sum-total.result) c.loop-i.invariant
    ∙ ap (λ n. count_by p (take (2040 * i) bytes) + n) sums
    ∙ count-more p (2040 * i) (8 * 255) bytes
    ∙ ap (λ n. count_by p (take n bytes)) (omega arith)

pub returns : goal.returns
returns g c =
    let p = g.T.ByteTest.passes c.args.test.now in
    let bytes = c.args.bytes.now in
    let runs = length bytes / 2040 in
    let all : c.loop-i.i ≡ runs = omega arith in
    let before : c.loop-i.total ≡ count_by p (take (2040 * runs) bytes) =
    c.loop-i.invariant ∙ ap (λ n. count_by p (take (2040 * n) bytes)) all in
    omega (arith, before, c.count_rest-2.ensures, count-split p (2040 * runs) bytes)

pub overflow_add-result : goal.overflow_add-result
overflow_add-result g c = record { fits = omega (arith, returns g c, count-le (g.T.ByteTest.passes c.args.test.now) c.args.bytes.now) }
