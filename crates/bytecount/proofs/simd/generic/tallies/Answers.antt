use Rattle.std.proofs.Common.{◌+◌, ◌*◌, ℕ, map, sym, subst, arith, Fits, w8}
use Rattle.std.specs.Simd.Lanes.{chunk, zip2, Each2}
use Rattle.std.proofs.lemmas.Simd.{length-chunk}
use Rattle.bytecount.specs.Tallies.{mark, Tallies}
use Rattle.bytecount.proofs.CountLaws.{chunk-next}
use Rattle.bytecount.proofs.TallyLaws.{Tallies-marks, Tallies-fit, Tallies-both}
use Rattle.bytecount.proofs.simd.generic.tallies.Goals as goal

pub marks-counts-requires : goal.marks-counts-requires
marks-counts-requires g c = length-chunk (c.args.from + 32 * c.loop-i.i) 32 c.args.bytes.now (omega arith)

pub overflow_add-counts : goal.overflow_add-counts
overflow_add-counts g c =
    let p = g.T.ByteTest.passes c.args.test.now in
    let next = chunk (c.args.from + 32 * c.loop-i.i) 32 c.args.bytes.now in
    let long = length-chunk (c.args.from + 32 * c.loop-i.i) 32 c.args.bytes.now (omega arith) in
    subst (λ marks. Each2 (λ (a b : ℕ). Fits w8 (a + b)) c.loop-i.counts marks) (sym c.marks-counts.ensures)
    (Tallies-fit c.loop-i.invariant (Tallies-marks p next long) (omega arith))

pub loop-i-preserved : goal.loop-i-preserved
loop-i-preserved g c =
    let p = g.T.ByteTest.passes c.args.test.now in
    let i = c.loop-i.i in
    let bytes = c.args.bytes.now in
    let next = chunk (c.args.from + 32 * i) 32 bytes in
    let long = length-chunk (c.args.from + 32 * i) 32 bytes (omega arith) in
    subst (λ marks. Tallies p 32 (i + 1) (chunk c.args.from (32 * (i + 1)) bytes) (zip2 (λ a b. a + b) c.loop-i.counts marks))
    (sym c.marks-counts.ensures)
    (subst (λ read. Tallies p 32 (i + 1) read (zip2 (λ a b. a + b) c.loop-i.counts (map (mark p) next))) (sym (chunk-next c.args.from 32 i bytes))
    (Tallies-both c.loop-i.invariant (Tallies-marks p next long)))
