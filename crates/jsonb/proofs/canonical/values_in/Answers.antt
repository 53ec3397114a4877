use Rattle.std.proofs.Common.{arith}
use Rattle.jsonb.specs.Seated.{seats_left}
use Rattle.jsonb.proofs.CanonicalLaws.{array_values, array_weight, object_values, object_weight}
use Rattle.jsonb.proofs.FrameLaws.{opened_as}
use Rattle.jsonb.proofs.MemberLaws.{opens, not_lone, array_stands, object_stands}
use Rattle.jsonb.proofs.canonical.values_in.Goals as goal

pub unreachable-requires : goal.unreachable-requires
unreachable-requires c = opens c.args.bytes.now c.requires.json c.in_default.ensures.read

pub values_behind-requires : goal.values_behind-requires
values_behind-requires c = object_stands c.args.bytes.now c.requires.json (opened_as c.args.bytes.now c.in-Object.is c.in-Some.ensures.read)

pub unreachable-requires-in-Lone : goal.unreachable-requires-in-Lone
unreachable-requires-in-Lone c = not_lone c.args.bytes.now c.requires.json (opened_as c.args.bytes.now c.in-Lone.is c.in-Some.ensures.read)

pub invariant_of-result : goal.invariant_of-result
invariant_of-result c =
    record { stands = array_stands c.args.bytes.now c.requires.json (opened_as c.args.bytes.now c.in-Array.is c.in-Some.ensures.read) }

pub returns-in-Array-clause-canonical : goal.returns-in-Array-clause-canonical
returns-in-Array-clause-canonical c =
    let i = c.in-Some.items in
    let e = opened_as c.args.bytes.now c.in-Array.is c.in-Some.ensures.read in
    array_values c.args.begin i.payload i.count c.args.bytes.now (λ i. omega (arith, c.type_inv.bytes i)) c.requires.json e

pub returns-in-Array-clause-weight : goal.returns-in-Array-clause-weight
returns-in-Array-clause-weight c =
    let i = c.in-Some.items in
    let e = opened_as c.args.bytes.now c.in-Array.is c.in-Some.ensures.read in
    array_weight c.args.begin i.payload i.count c.args.bytes.now (λ i. omega (arith, c.type_inv.bytes i)) c.requires.json e

pub returns-in-Object-clause-canonical : goal.returns-in-Object-clause-canonical
returns-in-Object-clause-canonical c =
    let i = c.in-Some.items in
    let e = opened_as c.args.bytes.now c.in-Object.is c.in-Some.ensures.read in
    object_values c.args.begin i.payload i.count c.args.bytes.now (λ i. omega (arith, c.type_inv.bytes i)) c.requires.json
    (seats_left c.values_behind.result) e c.values_behind.ensures

pub returns-in-Object-clause-weight : goal.returns-in-Object-clause-weight
returns-in-Object-clause-weight c =
    let i = c.in-Some.items in
    let e = opened_as c.args.bytes.now c.in-Object.is c.in-Some.ensures.read in
    object_weight c.args.begin i.payload i.count c.args.bytes.now (λ i. omega (arith, c.type_inv.bytes i)) c.requires.json
    (seats_left c.values_behind.result) e c.values_behind.ensures
