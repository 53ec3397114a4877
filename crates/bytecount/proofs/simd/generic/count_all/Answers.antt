use Rattle.std.proofs.Common.{◌≡◌, ◌+◌, ◌*◌, ◌/◌, length, take, ap, ◌∙◌, arith, count_by}
use Rattle.std.specs.Simd.Lanes.{chunk}
use Rattle.bytecount.proofs.CountLaws.{count-more, count-more-le, count-split, count-le}
use Rattle.bytecount.proofs.simd.generic.count_all.Goals as goal

pub overflow_add-total : goal.overflow_add-total
overflow_add-total g c =
    let p = g.T.ByteTest.passes c.args.test.now in
    let bytes = c.args.bytes.now in
    let i = c.loop-i.i in
    let sums : c.sum-total.result ≡ count_by p (chunk (8160 * i) (32 * 255) bytes) = c.sum-total.ensures ∙ c.tallies.ensures.total in
    record { fits = omega (arith, sums, c.loop-i.invariant, count-more-le p (8160 * i) (32 * 255) bytes) }

pub loop-i-preserved : goal.loop-i-preserved
loop-i-preserved g c =
    let p = g.T.ByteTest.passes c.args.test.now in
    let bytes = c.args.bytes.now in
    let i = c.loop-i.i in
    let sums : c.sum-total.result ≡ count_by p (chunk (8160 * i) (32 * 255) bytes) = c.sum-total.ensures ∙ c.tallies.ensures.total in
    ap (λ n. n + c.sum-total.result) c.loop-i.invariant
    ∙ ap (λ n. count_by p (take (8160 * i) bytes) + n) sums
    ∙ count-more p (8160 * i) (32 * 255) bytes
    ∙ ap (λ n. count_by p (take n bytes)) (omega arith)

pub returns : goal.returns
returns g c =
    let p = g.T.ByteTest.passes c.args.test.now in
    let bytes = c.args.bytes.now in
    let runs = length bytes / 8160 in
    let all : c.loop-i.i ≡ runs = omega arith in
    let before : c.loop-i.total ≡ count_by p (take (8160 * runs) bytes) =
    c.loop-i.invariant ∙ ap (λ n. count_by p (take (8160 * n) bytes)) all in
    omega (arith, before, c.count_rest-2.ensures, count-split p (8160 * runs) bytes)

pub overflow_add-result : goal.overflow_add-result
overflow_add-result g c = record { fits = omega (arith, returns g c, count-le (g.T.ByteTest.passes c.args.test.now) c.args.bytes.now) }
