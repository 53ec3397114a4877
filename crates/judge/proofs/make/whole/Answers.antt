use Rattle.std.proofs.Common.{refl, pos}
use Rattle.serde_json.specs.Data as serde
use Rattle.json_exact.proofs.SerdeNumberLaws.{natural_is, whole_exact}
use Rattle.judge.proofs.MadePairs.{natural_tree}
use Rattle.judge.proofs.make.whole.Goals as goal

pub new-requires-clause-exact : goal.new-requires-clause-exact
new-requires-clause-exact c = whole_exact (pos c.args.number) c.from_u64.result c.from_u64.ensures.value

pub returns : goal.returns
returns c =
    natural_tree c.args.number c.new.result (natural_is (serde.unsigned c.args.number) c.args.number c.from_u64.result c.new.result refl
    c.from_u64.ensures.value c.new.ensures.worth c.new.ensures.places)
