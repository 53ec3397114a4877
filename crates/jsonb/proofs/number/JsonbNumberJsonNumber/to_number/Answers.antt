use Rattle.std.proofs.Common.{rules}
use Rattle.jsonb.proofs.NumberLaws.{parts_in, body_there, header_there, number_says, exact, number_is}
use Rattle.jsonb.proofs.number.JsonbNumberJsonNumber.to_number.Goals as goal

pub unreachable-requires : goal.unreachable-requires
unreachable-requires c = body_there _ c.args.self.now.stands c.in_default.ensures.read

pub unreachable-requires-in_default-header : goal.unreachable-requires-in_default-header
unreachable-requires-in_default-header c = header_there _ _ c.args.self.now.stands c.in-Some.ensures.read c.in_default-header.ensures.read

pub from_groups-requires-clause-groups : goal.from_groups-requires-clause-groups
from_groups-requires-clause-groups c =
    let (d, n, s) =
    number_says _ c.weight_of.result c.args.self.now.stands c.in-Some.ensures.read c.in-Some-header.ensures.read (search rules)
    c.weight_of.ensures in
    s.are

pub from_groups-requires-clause-exact : goal.from_groups-requires-clause-exact
from_groups-requires-clause-exact c =
    let (d, n, s) =
    number_says _ c.weight_of.result c.args.self.now.stands c.in-Some.ensures.read c.in-Some-header.ensures.read (search rules)
    c.weight_of.ensures in
    (parts_in d, s.worth)

pub unreachable-requires-in_default-from_groups : goal.unreachable-requires-in_default-from_groups
unreachable-requires-in_default-from_groups c =
    let (d, n, s) =
    number_says _ c.weight_of.result c.args.self.now.stands c.in-Some.ensures.read c.in-Some-header.ensures.read (search rules)
    c.weight_of.ensures in
    c.in_default-from_groups.ensures.value (parts_in d) s.worth s.narrow

pub new-requires-clause-few : goal.new-requires-clause-few
new-requires-clause-few c =
    let (d, n, s) =
    number_says _ c.weight_of.result c.args.self.now.stands c.in-Some.ensures.read c.in-Some-header.ensures.read (search rules)
    c.weight_of.ensures in
    s.few

pub new-requires-clause-exact : goal.new-requires-clause-exact
new-requires-clause-exact c =
    let (d, n, s) =
    number_says _ c.weight_of.result c.args.self.now.stands c.in-Some.ensures.read c.in-Some-header.ensures.read (search rules)
    c.weight_of.ensures in
    exact _ _ _ d _ s (c.in-Some-from_groups.ensures.value (parts_in d) s.worth)

pub returns : goal.returns
returns c =
    let (d, n, s) =
    number_says _ c.weight_of.result c.args.self.now.stands c.in-Some.ensures.read c.in-Some-header.ensures.read (search rules)
    c.weight_of.ensures in
    number_is _ c.new.result n s (c.in-Some-from_groups.ensures.value (parts_in d) s.worth) c.new.ensures.places c.new.ensures.worth
