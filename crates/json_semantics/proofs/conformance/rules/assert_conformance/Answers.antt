use Rattle.json_semantics.proofs.ConformanceLaws.{no_memory}
use Rattle.json_semantics.proofs.conformance.rules.assert_conformance.Goals as goal

pub returns-in_err-wanted : goal.returns-in_err-wanted
returns-in_err-wanted g c = no_memory (g.F.Node.HasTree.tree c.args.root.now) c.from_residual.result c.from_residual.ensures.1
