use Rattle.std.proofs.Common.{map}
use Rattle.json_model.proofs.KindLaws.{trees_in_from}
use Rattle.json_exact.specs.Trees.{tree}
use Rattle.json_traits.proofs.GivesLaws.{gives_rest}
use Rattle.json_semantics.specs.Iteration.{elements_left}
use Rattle.json_semantics.specs.Trees.{node_tree}
use Rattle.json_semantics.proofs.array.ValueArrayArray.elements.Goals as goal

pub returns-clause-gives : goal.returns-clause-gives
returns-clause-gives c = rw (trees_in_from (map tree c.args.self.now.elements.now), ← c.new.ensures) (gives_rest node_tree elements_left c.new.result)
