use Rattle.std.proofs.Common.{map, ap, ◌∙◌, arith}
use Rattle.jsonb.specs.Seated.{member_tree}
use Rattle.jsonb.specs.inner.Views.{place}
use Rattle.jsonb.proofs.MemberLaws.{passes, members_stand, object_rises, object_length, few_members}
use Rattle.jsonb.proofs.SeatHolds.{seats_are, object_trees}
use Rattle.jsonb.proofs.SeatTrees.{members_given}
use Rattle.jsonb.proofs.Walks.{skip_behind}
use Rattle.jsonb.proofs.object.JsonbObjectObject.members.Goals as goal

pub unreachable-requires : goal.unreachable-requires
unreachable-requires c = passes c.args.self.now c.in_default.ensures

pub invariant_of-result : goal.invariant_of-result
invariant_of-result c =
    let o = c.args.self.now in
    let b = skip_behind o.keys.count (place o.keys.start) (place c.in-Some.start) c.in-Some.ensures in
    record { words = omega (arith, b.words, o.keys.words); room = omega (arith, b.end, o.keys.room) }

pub invariant_of-result-2 : goal.invariant_of-result-2
invariant_of-result-2 c = record { stands = members_stand c.args.self.now c.in-Some.ensures }

pub returns-clause-seats : goal.returns-clause-seats
returns-clause-seats c = seats_are c.args.self.now c.in-Some.ensures

pub returns-clause-pairs : goal.returns-clause-pairs
returns-clause-pairs c = object_trees c.args.self.now

pub returns-clause-gives : goal.returns-clause-gives
returns-clause-gives c = members_given _ _ (ap (map member_tree) (seats_are c.args.self.now c.in-Some.ensures) ∙ object_trees c.args.self.now)

pub returns-clause-rise : goal.returns-clause-rise
returns-clause-rise c = object_rises c.args.self.now.keys.count (place c.args.self.now.keys.start) c.args.self.now.stands

pub returns-clause-few : goal.returns-clause-few
returns-clause-few c =
    let o = c.args.self.now in
    omega (arith, o.keys.start.words_fit, few_members o, object_length o.keys.count (place o.keys.start) o.stands)
