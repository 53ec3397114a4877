use Rattle.std.proofs.Common.{map, sym, ap, ◌∙◌}
use Rattle.json_model.specs.Keys.{rises}
use Rattle.json_exact.proofs.TreeLaws.{pairs-of, members-pairs, value_pair, keys-same}
use Rattle.json_exact.proofs.map.Map.iter.Goals as goal

pub returns-clause-pairs : goal.returns-clause-pairs
returns-clause-pairs c = sym (members-pairs c.members.result.now) ∙ ap (map value_pair) c.members.ensures.members ∙ sym (pairs-of c.args.self.now)

pub returns-clause-rise : goal.returns-clause-rise
returns-clause-rise c = ap rises (ap (map (λ p. p.0)) (pairs-of c.args.self.now) ∙ keys-same c.args.self.now.members) ∙ c.members.ensures.rise
