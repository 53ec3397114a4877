use Rattle.std.proofs.Common.{ap, sym, ◌∙◌, arith}
use Rattle.std.specs.Prelude.{option_map}
use Rattle.jsonb_layout.specs.Seats.{Seat}
use Rattle.jsonb_layout.proofs.Tools.{some}
use Rattle.jsonb.proofs.LookupLaws.{keys_there, members_counted, few_in_all, no_value, no_seat, some_members, others_there, value_goes_on, value_behind, value_stands, value_is, value_seat}
use Rattle.jsonb.proofs.object.JsonbObject.get_counted.Goals as goal

pub find_key-requires : goal.find_key-requires
find_key-requires g c = record { keys = keys_there c.args.self.now }

pub returns-in_err-behind-clause-found : goal.returns-in_err-behind-clause-found
returns-in_err-behind-clause-found g c = rw c.from_residual.ensures (no_value c.args.key.now c.args.self.now c.in_err-behind.ensures.read)

pub returns-in_err-behind-clause-seat : goal.returns-in_err-behind-clause-seat
returns-in_err-behind-clause-seat g c = rw c.from_residual.ensures (no_seat c.args.key.now c.args.self.now c.in_err-behind.ensures.read)

pub returns-in_err-behind-clause-few : goal.returns-in_err-behind-clause-few
returns-in_err-behind-clause-few g c = few_in_all c.args.self.now _ _ _ c.in_err-behind.ensures.few (omega arith)

pub returns-in_err-behind-clause-some : goal.returns-in_err-behind-clause-some
returns-in_err-behind-clause-some g c = λ h. c.in_err-behind.ensures.some (omega (arith, h, members_counted c.args.self.now))

pub overflow_sub-self : goal.overflow_sub-self
overflow_sub-self g c = some_members c.args.key.now c.args.self.now c.in_ok-behind.ensures.read

pub leap-start-requires : goal.leap-start-requires
leap-start-requires g c = record { there = others_there c.args.key.now c.args.self.now c.in_ok-behind.ensures.read }

pub unreachable-requires : goal.unreachable-requires
unreachable-requires g c =
    value_goes_on c.args.key.now c.args.self.now c.in_ok-behind.ensures.read c.leap-start.ensures.read c.in_default.ensures.read

pub invariant_of-value : goal.invariant_of-value
invariant_of-value g c =
    let b = value_behind c.args.key.now c.args.self.now c.in_ok-behind.ensures.read c.leap-start.ensures.read in
    record { words = omega (arith, b.words, c.args.self.now.keys.words); room = omega (arith, b.end, c.args.self.now.keys.room) }

pub node-requires-clause-first : goal.node-requires-clause-first
node-requires-clause-first g c = ap (option_map (λ x. x.0)) (sym c.in-Some.ensures.read)

pub node-requires-clause-stands : goal.node-requires-clause-stands
node-requires-clause-stands g c =
    value_stands c.args.key.now c.args.self.now c.in_ok-behind.ensures.read c.leap-start.ensures.read c.in-Some.ensures.read

pub returns-clause-found : goal.returns-clause-found
returns-clause-found g c =
    c.node.ensures.tree
    ∙ value_is c.args.key.now c.args.self.now c.in_ok-behind.ensures.read c.leap-start.ensures.read c.in-Some.ensures.read

pub returns-clause-seat : goal.returns-clause-seat
returns-clause-seat g c =
    ap (some {A = Seat}) c.node.ensures.seat
    ∙ value_seat c.args.key.now c.args.self.now c.in_ok-behind.ensures.read c.leap-start.ensures.read c.in-Some.ensures.read

pub returns-clause-rise : goal.returns-clause-rise
returns-clause-rise g c =
    omega (arith, c.in_ok-behind.ensures.rise, c.leap-start.ensures.rise, c.in-Some.ensures.rise)

pub returns-clause-few : goal.returns-clause-few
returns-clause-few g c =
    few_in_all c.args.self.now _ _ _ c.in_ok-behind.ensures.few (omega (arith, c.leap-start.ensures.few, c.in-Some.ensures.few))

pub returns-clause-some : goal.returns-clause-some
returns-clause-some g c = λ h. omega (arith, c.in_ok-behind.ensures.rise, c.leap-start.ensures.rise, c.in-Some.ensures.steps)
