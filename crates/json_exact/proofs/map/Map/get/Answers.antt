use Rattle.std.proofs.Common.{sym, ap, ◌∙◌}
use Rattle.std.specs.Prelude.{option_map}
use Rattle.json_exact.specs.Trees.{tree}
use Rattle.json_exact.proofs.TreeLaws.{under, seen-tree}
use Rattle.json_exact.proofs.map.Map.get.Goals as goal

pub returns : goal.returns
returns c = seen-tree c.get.result ∙ ap (option_map tree) c.get.ensures ∙ sym (under c.args.key.now c.args.self.now)
