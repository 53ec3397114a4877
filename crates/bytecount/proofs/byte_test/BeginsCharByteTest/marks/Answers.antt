use Rattle.std.proofs.Common.{◌≡◌, ◌+◌, ◌%◌, leb, map, replicate, sym, subst, w8}
use Rattle.std.specs.Simd.Lanes.{sel_l, zip2}
use Rattle.std.proofs.lemmas.Simd.{tops_compared}
use Rattle.bytecount.specs.Bytes.{begins_char}
use Rattle.bytecount.specs.Tallies.{mark}
use Rattle.bytecount.proofs.LaneMarkLaws.{select-turned}
use Rattle.bytecount.proofs.byte_test.BeginsCharByteTest.marks.Goals as goal

pub returns : goal.returns
returns c =
    let bytes = c.args.lanes in
    let turned = zip2 (λ a b. (a + b) % 256) bytes (replicate 32 128) in
    subst (λ ms. sel_l ms (replicate 32 1) (replicate 32 0) ≡ map (mark begins_char) bytes)
    (sym (tops_compared w8 leb (replicate 32 64) turned)) (select-turned 32 bytes c.fits-lanes.1 c.requires)
