use Rattle.jsonb.proofs.PlaceLaws.{same_identity, same_place}
use Rattle.jsonb.proofs.laws.are_one_place.Goals as goal

pub returns-in-Some-Some-clause-told : goal.returns-in-Some-Some-clause-told
returns-in-Some-Some-clause-told c =
    λ v w h k. same_place c.args.root.now c.args.left.now c.args.right.now v w h k c.in-Some-Some.left
    c.in-Some-Some.right c.eq.result c.in-Some-Some.ensures.identity c.in-Some-Some.ensures'.identity c.eq.ensures

pub returns-in-Some-Some-clause-identities : goal.returns-in-Some-Some-clause-identities
returns-in-Some-Some-clause-identities c = λ v w h k. same_identity c.args.root.now c.args.left.now c.args.right.now v w h k
