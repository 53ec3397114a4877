use Rattle.jsonb.specs.inner.Views.{place}
use Rattle.jsonb.proofs.SeatTrees.{element_seats, elements_given}
use Rattle.jsonb.proofs.array.JsonbArrayArray.elements.Goals as goal

pub returns-clause-gives : goal.returns-clause-gives
returns-clause-gives c =
    let i = c.args.self.now.elements in
    elements_given _ _ (element_seats i.payload i.count (place i.start) c.args.self.now.stands)

pub returns-clause-trees : goal.returns-clause-trees
returns-clause-trees c =
    let i = c.args.self.now.elements in
    element_seats i.payload i.count (place i.start) c.args.self.now.stands
