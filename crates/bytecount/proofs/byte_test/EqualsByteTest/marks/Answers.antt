use Rattle.std.proofs.Common.{◌≡◌, eqb, map, replicate, sym, subst, w8}
use Rattle.std.specs.Simd.Lanes.{sel_l}
use Rattle.std.proofs.lemmas.Simd.{tops_compared}
use Rattle.bytecount.specs.Tallies.{mark}
use Rattle.bytecount.proofs.LaneMarkLaws.{select-marks}
use Rattle.bytecount.proofs.byte_test.EqualsByteTest.marks.Goals as goal

pub returns : goal.returns
returns c =
    let bytes = c.args.lanes in
    let needle = c.args.self.now.needle in
    subst (λ ms. sel_l ms (replicate 32 1) (replicate 32 0) ≡ map (mark (λ b. eqb b needle)) bytes)
    (sym (tops_compared w8 eqb bytes (replicate 32 needle))) (select-marks eqb needle bytes 32 c.requires)
