use Rattle.std.proofs.Common.{map, refl}
use Rattle.std.proofs.lemmas.List.{length-map}
use Rattle.json_model.proofs.KindLaws.{trees_in_from}
use Rattle.json_exact.specs.Trees.{tree}
use Rattle.json_semantics.proofs.array.ValueArrayArray.len.Goals as goal

pub returns : goal.returns
returns c = rw (trees_in_from (map tree c.args.self.now.elements.now)) (simp length-map refl)
