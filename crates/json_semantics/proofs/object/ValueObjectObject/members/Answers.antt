use Rattle.json_model.proofs.KindLaws.{pairs_in_from}
use Rattle.json_exact.specs.Trees.{pairs}
use Rattle.json_traits.proofs.GivesLaws.{gives_rest}
use Rattle.json_semantics.specs.Iteration.{member_pair, members_left}
use Rattle.json_semantics.proofs.object.ValueObjectObject.members.Goals as goal

pub returns-clause-gives : goal.returns-clause-gives
returns-clause-gives c =
    rw (pairs_in_from (pairs c.args.self.now.members.now), ← c.new.ensures.left) (gives_rest member_pair members_left c.new.result)
