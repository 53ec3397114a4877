use Rattle.rust_pattern_model.proofs.TextReads.{text_read}
use Rattle.rust_pattern_model.proofs.laws.texts_keep_their_trees.Goals as goal

pub returns : goal.returns
returns c = text_read
