use Rattle.rust_pattern_model.proofs.OneTree.{trees_alike}
use Rattle.rust_pattern_model.proofs.laws.trees_of_a_text_are_alike.Goals as goal

pub returns : goal.returns
returns c = trees_alike
