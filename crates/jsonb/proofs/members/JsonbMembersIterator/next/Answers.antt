use Rattle.std.proofs.Common.{◌-◌, ◌∷◌, List, ℕ, length, sym, ap, subst, ◌≡◌, true, ◌∙◌, arith}
use Rattle.std.specs.Prelude.{option_map}
use Rattle.std.specs.Str.{is_utf8}
use Rattle.jsonb_layout.specs.Seats.{Seat}
use Rattle.jsonb_layout.specs.inner.SeatReading.{seat_at}
use Rattle.jsonb.specs.Seated.{member_seats}
use Rattle.jsonb.specs.inner.Views.{place}
use Rattle.jsonb.proofs.MemberLaws.{keys_go_on, values_go_on, member_is}
use Rattle.jsonb.proofs.SeatTrees.{no_members_left, members_go_on}
use Rattle.jsonb.proofs.Walks.{item_behind}
use Rattle.jsonb.proofs.members.JsonbMembersIterator.next.Goals as goal

pub returns-then-left-eq0-clause-steps : goal.returns-then-left-eq0-clause-steps
returns-then-left-eq0-clause-steps c = let e = no_members_left c.args.self.now c.if-left-eq0.true in (e, e)

pub unreachable-requires : goal.unreachable-requires
unreachable-requires c = keys_go_on c.args.self.now (omega arith) c.in_default.ensures

pub unreachable-requires-in_default-next_item : goal.unreachable-requires-in_default-next_item
unreachable-requires-in_default-next_item c = values_go_on c.args.self.now (omega arith) c.in_default-next_item.ensures

pub text_of-name-requires : goal.text_of-name-requires
text_of-name-requires c =
    let m = member_is c.args.self.now (omega arith) c.in-Some.ensures c.in-Some-next_item.ensures in
    subst (λ (b : List ℕ). is_utf8 b ≡ true) (sym c.piece.ensures.piece) m.name

pub node-node-requires-clause-first : goal.node-node-requires-clause-first
node-node-requires-clause-first c = ap (option_map (λ x. x.0)) (sym c.in-Some-next_item.ensures)

pub node-node-requires-clause-stands : goal.node-node-requires-clause-stands
node-node-requires-clause-stands c = (member_is c.args.self.now (omega arith) c.in-Some.ensures c.in-Some-next_item.ensures).value

pub invariant_of-self : goal.invariant_of-self
invariant_of-self c =
    let left = c.args.self.now.values in
    let b = item_behind c.in-Some-next_item.ensures in
    record { words = omega (arith, b.words, left.words); room = omega (arith, b.end, left.room) }

pub invariant_of-self-2 : goal.invariant_of-self-2
invariant_of-self-2 c = record { stands = (member_is c.args.self.now (omega arith) c.in-Some.ensures c.in-Some-next_item.ensures).more }

pub returns-clause-steps : goal.returns-clause-steps
returns-clause-steps c =
    let v = c.args.self.now.values in
    let rest = member_seats v.payload (v.count - 1) (place c.in-Some.keys) (place c.in-Some-next_item.start) in
    members_go_on c.args.self.now (omega arith) c.in-Some.ensures c.in-Some-next_item.ensures
    ∙ ap (λ (k : List ℕ). (k, seat_at v.payload (place v.start) c.in-Some-next_item.item) ∷ rest)
    (sym (c.text_of-name.ensures ∙ c.piece.ensures.piece))
    ∙ ap (λ (s : Seat). (c.text_of-name.result.now, s) ∷ rest) (sym c.node-node.ensures.seat)

pub returns-clause-goes : goal.returns-clause-goes
returns-clause-goes c =
    let e = members_go_on c.args.self.now (omega arith) c.in-Some.ensures c.in-Some-next_item.ensures in
    record { on = λ _. (tt, tt, omega (arith, ap length e)); keeps = tt; rests = λ _. tt }
