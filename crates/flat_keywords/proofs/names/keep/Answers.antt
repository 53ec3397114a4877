use Rattle.flat_keywords.proofs.names.keep.Goals as goal

pub returns : goal.returns
returns c = λ _. (c.in-Ok.copy, c.in-Ok-push.ensures.items, c.in-Ok.ensures.ok)
