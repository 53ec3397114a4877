use Rattle.pattern_model.proofs.Widened.{widened_reads}
use Rattle.pattern_tree.proofs.laws.widened_reads_ecma.Goals as goal

pub returns : goal.returns
returns c = widened_reads
