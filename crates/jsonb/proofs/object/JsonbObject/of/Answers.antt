use Rattle.std.proofs.Common.{arith}
use Rattle.jsonb.proofs.FrameLaws.{opened_as}
use Rattle.jsonb.proofs.MemberLaws.{opens, not_lone, object_stands, object_is, array_no_object}
use Rattle.jsonb.proofs.SeatHolds.{object_holds, object_trees}
use Rattle.jsonb.proofs.object.JsonbObject.of.Goals as goal

pub unreachable-requires : goal.unreachable-requires
unreachable-requires c = opens c.args.bytes.now c.requires.json c.in_default.ensures.read

pub invariant_of-result : goal.invariant_of-result
invariant_of-result c =
    record { stands = object_stands c.args.bytes.now c.requires.json (opened_as c.args.bytes.now c.in-Object.is c.in-Some.ensures.read) }

pub returns-in-Object-clause-tree : goal.returns-in-Object-clause-tree
returns-in-Object-clause-tree c = object_is c.args.bytes.now c.requires.json (opened_as c.args.bytes.now c.in-Object.is c.in-Some.ensures.read)

pub returns-in-Array-clause-tree : goal.returns-in-Array-clause-tree
returns-in-Array-clause-tree c = array_no_object c.args.bytes.now c.requires.json (opened_as c.args.bytes.now c.in-Array.is c.in-Some.ensures.read)

pub unreachable-requires-in-Lone : goal.unreachable-requires-in-Lone
unreachable-requires-in-Lone c = not_lone c.args.bytes.now c.requires.json (opened_as c.args.bytes.now c.in-Lone.is c.in-Some.ensures.read)

pub returns-in-Object-clause-held : goal.returns-in-Object-clause-held
returns-in-Object-clause-held c =
    let e = opened_as c.args.bytes.now c.in-Object.is c.in-Some.ensures.read in
    object_holds c.args.begin c.in-Some.keys.payload c.args.bytes.now c.requires.json e (λ i. omega (arith, c.type_inv.bytes i))
    c.in-Some.ensures.payload

pub returns-in-Object-clause-pairs : goal.returns-in-Object-clause-pairs
returns-in-Object-clause-pairs c =
    let e = opened_as c.args.bytes.now c.in-Object.is c.in-Some.ensures.read in
    object_trees (record { keys = c.in-Some.keys; stands = object_stands c.args.bytes.now c.requires.json e })
