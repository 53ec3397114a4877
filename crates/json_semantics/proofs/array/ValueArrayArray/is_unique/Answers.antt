use Rattle.std.proofs.Common.{List, map, subst, sym}
use Rattle.std.specs.Prelude.{◌↔◌, IsTrue, IfOk}
use Rattle.json_model.proofs.KindLaws.{trees_in_from}
use Rattle.json_model.specs.Same.{IsUnique}
use Rattle.json_model.specs.Tree.{Tree}
use Rattle.json_exact.specs.Trees.{tree}
use Rattle.json_semantics.proofs.array.ValueArrayArray.is_unique.Goals as goal

pub returns : goal.returns
returns c =
    subst (λ (ts : List Tree). IfOk c.is_unique.result (λ b. IsTrue b ↔ IsUnique ts)) (sym (trees_in_from (map tree c.args.self.now.elements.now)))
    c.is_unique.ensures
