use Rattle.std.proofs.Common.{codes, ap, ◌∙◌, pos}
use Rattle.json_traits.specs.Numbers.{whole}
use Rattle.json_semantics.specs.Conformance.{one_member}
use Rattle.json_semantics.proofs.ConformanceLaws.{one, three_built}
use Rattle.json_semantics.proofs.conformance.sample.duplicates.Goals as goal

pub number-requires : goal.number-requires
number-requires c = (whole (pos 1), one)

pub number-requires-2 : goal.number-requires-2
number-requires-2 c = (whole (pos 1), one)

pub number-requires-3 : goal.number-requires-3
number-requires-3 c = (whole (pos 1), one)

pub returns : goal.returns
returns c =
    three_built c.array_of.result _ _ _ _ _ _ c.array_of.ensures (c.number-3.ensures (whole (pos 1)) one)
    (c.in_ok-first.ensures ∙ ap (one_member (codes "a")) (c.number.ensures (whole (pos 1)) one))
    (c.in_ok-second.ensures ∙ ap (one_member (codes "a")) (c.number-2.ensures (whole (pos 1)) one))
