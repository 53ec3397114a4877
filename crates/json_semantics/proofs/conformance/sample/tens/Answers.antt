use Rattle.std.specs.Prelude.{pos}
use Rattle.json_traits.specs.Numbers.{whole}
use Rattle.json_semantics.proofs.ConformanceLaws.{ten, twenty, thirty, three_built}
use Rattle.json_semantics.proofs.conformance.sample.tens.Goals as goal

pub number-requires : goal.number-requires
number-requires c = (whole (pos 10), ten)

pub number-requires-2 : goal.number-requires-2
number-requires-2 c = (whole (pos 20), twenty)

pub number-requires-3 : goal.number-requires-3
number-requires-3 c = (whole (pos 30), thirty)

pub returns : goal.returns
returns c =
    three_built c.array_of.result _ _ _ _ _ _ c.array_of.ensures (c.number.ensures (whole (pos 10)) ten) (c.number-2.ensures (whole (pos 20)) twenty)
    (c.number-3.ensures (whole (pos 30)) thirty)
