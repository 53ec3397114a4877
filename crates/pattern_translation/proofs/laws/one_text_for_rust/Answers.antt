use Rattle.pattern_model.specs.Tree.{tokens_of}
use Rattle.pattern_translation.proofs.OneText.{one_text, same_text}
use Rattle.pattern_translation.proofs.laws.one_text_for_rust.Goals as goal

pub returns-clause-text : goal.returns-clause-text
returns-clause-text c = one_text

pub returns-clause-rows : goal.returns-clause-rows
returns-clause-rows c = λ x t v w. same_text x (tokens_of t) v w
