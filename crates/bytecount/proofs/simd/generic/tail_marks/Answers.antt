use Rattle.std.proofs.Common.{◌≡◌, ◌-◌, leb, length, drop, map, replicate, sym, subst, arith, w8}
use Rattle.std.specs.List.{range_with_len}
use Rattle.std.specs.Simd.Lanes.{sel_l, zip2, chunk}
use Rattle.std.proofs.lemmas.Simd.{tops_compared, length-chunk}
use Rattle.bytecount.specs.Tallies.{Tallies, mark}
use Rattle.bytecount.proofs.CountLaws.{drop-last_chunk}
use Rattle.bytecount.proofs.TallyLaws.{Tallies-kept}
use Rattle.bytecount.proofs.simd.generic.tail_marks.Goals as goal

pub marks-requires : goal.marks-requires
marks-requires g c = length-chunk (length c.args.bytes.now - 32) 32 c.args.bytes.now (omega (arith, c.requires.enough))

pub returns : goal.returns
returns g c =
    let p = g.T.ByteTest.passes c.args.test.now in
    let bytes = c.args.bytes.now in
    let size = c.args.size in
    let last = chunk (length bytes - 32) 32 bytes in
    let long : length last ≡ 32 = length-chunk (length bytes - 32) 32 bytes (omega (arith, c.requires.enough)) in
    let mask = zip2 leb (replicate 32 (32 - size)) (range_with_len 0 32) in
    subst (λ ms. Tallies p 32 1 (drop (length bytes - size) bytes) (sel_l ms c.marks.result (replicate 32 0)))
    (sym (tops_compared w8 leb (replicate 32 (32 - size)) (range_with_len 0 32)))
    (subst (λ marks. Tallies p 32 1 (drop (length bytes - size) bytes) (sel_l mask marks (replicate 32 0)))
    (sym c.marks.ensures)
    (subst (λ rest. Tallies p 32 1 rest (sel_l mask (map (mark p) last) (replicate 32 0)))
    (drop-last_chunk 32 size bytes (omega (arith, c.requires.enough)) (omega (arith, c.requires.short)))
    (Tallies-kept p 32 size last long)))
