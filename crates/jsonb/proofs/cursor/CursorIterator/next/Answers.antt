use Rattle.std.proofs.Common.{◌-◌, ◌∷◌, length, sym, ap, ◌∙◌, arith}
use Rattle.std.specs.Prelude.{option_map}
use Rattle.jsonb_layout.specs.Seats.{Seat}
use Rattle.jsonb_layout.specs.inner.SeatReading.{seats_at}
use Rattle.jsonb.specs.inner.Views.{place}
use Rattle.jsonb.proofs.CursorLaws.{elements_go_on, element_is}
use Rattle.jsonb.proofs.SeatTrees.{no_seats_left, seats_go_on}
use Rattle.jsonb.proofs.Walks.{item_behind}
use Rattle.jsonb.proofs.cursor.CursorIterator.next.Goals as goal

pub returns-then-left-eq0-clause-steps : goal.returns-then-left-eq0-clause-steps
returns-then-left-eq0-clause-steps c = let e = no_seats_left c.args.self.now.left c.if-left-eq0.true in (e, e)

pub unreachable-requires : goal.unreachable-requires
unreachable-requires c = elements_go_on c.args.self.now (omega arith) c.in_default.ensures

pub node-node-requires-clause-first : goal.node-node-requires-clause-first
node-node-requires-clause-first c = ap (option_map (λ x. x.0)) (sym c.in-Some.ensures)

pub node-node-requires-clause-stands : goal.node-node-requires-clause-stands
node-node-requires-clause-stands c = (element_is c.args.self.now (omega arith) c.in-Some.ensures).value

pub invariant_of-self : goal.invariant_of-self
invariant_of-self c =
    let left = c.args.self.now.left in
    let b = item_behind c.in-Some.ensures in
    record { words = omega (arith, b.words, left.words); room = omega (arith, b.end, left.room) }

pub invariant_of-self-2 : goal.invariant_of-self-2
invariant_of-self-2 c = record { stands = (element_is c.args.self.now (omega arith) c.in-Some.ensures).more }

pub returns-clause-steps : goal.returns-clause-steps
returns-clause-steps c =
    let left = c.args.self.now.left in
    seats_go_on left (omega arith) c.in-Some.ensures
    ∙ ap (λ (s : Seat). s ∷ seats_at left.payload (left.count - 1) (place c.in-Some.start)) (sym c.node-node.ensures.seat)

pub returns-clause-goes : goal.returns-clause-goes
returns-clause-goes c =
    let e = seats_go_on c.args.self.now.left (omega arith) c.in-Some.ensures in
    record { on = λ _. (tt, tt, omega (arith, ap length e)); keeps = tt; rests = λ _. tt }
