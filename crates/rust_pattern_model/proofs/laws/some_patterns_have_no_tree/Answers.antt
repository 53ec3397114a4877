use Rattle.rust_pattern_model.proofs.NoTree.{no_space_tree, no_operation_tree}
use Rattle.rust_pattern_model.proofs.laws.some_patterns_have_no_tree.Goals as goal

pub returns-clause-escape : goal.returns-clause-escape
returns-clause-escape c = no_space_tree

pub returns-clause-operation : goal.returns-clause-operation
returns-clause-operation c = no_operation_tree
