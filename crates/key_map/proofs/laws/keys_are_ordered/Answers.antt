use Rattle.std.proofs.Common.{refl}
use Rattle.json_model.proofs.KeyOrderLaws.{key_total, not_before, key_trans}
use Rattle.key_map.proofs.laws.keys_are_ordered.Goals as goal

pub returns-clause-total : goal.returns-clause-total
returns-clause-total c = key_total

pub returns-clause-irreflexive : goal.returns-clause-irreflexive
returns-clause-irreflexive c = λ a e. not_before a a e refl

pub returns-clause-transitive : goal.returns-clause-transitive
returns-clause-transitive c = key_trans
