use Rattle.json_semantics.proofs.EquivalenceLaws.{same_self, same_turned, same_chain}
use Rattle.json_semantics.proofs.laws.same_is_an_equivalence.Goals as goal

pub returns-clause-reflexive : goal.returns-clause-reflexive
returns-clause-reflexive c = same_self

pub returns-clause-symmetric : goal.returns-clause-symmetric
returns-clause-symmetric c = same_turned

pub returns-clause-transitive : goal.returns-clause-transitive
returns-clause-transitive c = same_chain
