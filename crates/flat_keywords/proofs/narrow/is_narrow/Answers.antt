use Rattle.flat_keywords.proofs.narrow.is_narrow.Goals as goal

pub returns-in-Enum-clause-right : goal.returns-in-Enum-clause-right
returns-in-Enum-clause-right g c = rw c.in-Enum.is c.are_choices.ensures.right
