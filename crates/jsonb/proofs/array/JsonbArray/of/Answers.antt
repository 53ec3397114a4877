use Rattle.std.proofs.Common.{arith}
use Rattle.jsonb.specs.inner.Views.{place}
use Rattle.jsonb.proofs.FrameLaws.{opened_as}
use Rattle.jsonb.proofs.MemberLaws.{opens, not_lone, array_stands, array_is, object_no_array}
use Rattle.jsonb.proofs.SeatHolds.{array_holds}
use Rattle.jsonb.proofs.SeatTrees.{element_seats}
use Rattle.jsonb.proofs.array.JsonbArray.of.Goals as goal

pub unreachable-requires : goal.unreachable-requires
unreachable-requires c = opens c.args.bytes.now c.requires.json c.in_default.ensures.read

pub invariant_of-result : goal.invariant_of-result
invariant_of-result c =
    record { stands = array_stands c.args.bytes.now c.requires.json (opened_as c.args.bytes.now c.in-Array.is c.in-Some.ensures.read) }

pub returns-in-Array-clause-tree : goal.returns-in-Array-clause-tree
returns-in-Array-clause-tree c = array_is c.args.bytes.now c.requires.json (opened_as c.args.bytes.now c.in-Array.is c.in-Some.ensures.read)

pub returns-in-Object-clause-tree : goal.returns-in-Object-clause-tree
returns-in-Object-clause-tree c = object_no_array c.args.bytes.now c.requires.json (opened_as c.args.bytes.now c.in-Object.is c.in-Some.ensures.read)

pub unreachable-requires-in-Lone : goal.unreachable-requires-in-Lone
unreachable-requires-in-Lone c = not_lone c.args.bytes.now c.requires.json (opened_as c.args.bytes.now c.in-Lone.is c.in-Some.ensures.read)

pub returns-in-Array-clause-held : goal.returns-in-Array-clause-held
returns-in-Array-clause-held c =
    let e = opened_as c.args.bytes.now c.in-Array.is c.in-Some.ensures.read in
    array_holds c.args.begin c.in-Some.elements.payload c.args.bytes.now c.requires.json e (λ i. omega (arith, c.type_inv.bytes i))
    c.in-Some.ensures.payload

pub returns-in-Array-clause-trees : goal.returns-in-Array-clause-trees
returns-in-Array-clause-trees c =
    let i = c.in-Some.elements in
    let e = opened_as c.args.bytes.now c.in-Array.is c.in-Some.ensures.read in
    element_seats i.payload i.count (place i.start) (array_stands c.args.bytes.now c.requires.json e)
