use Rattle.line_program.proofs.Steps.{stopped_unbegun}
use Rattle.line_program.proofs.lines.answer_line.Goals as goal

pub returns-in_default-clause-stops : goal.returns-in_default-clause-stops
returns-in_default-clause-stops g c = stopped_unbegun _ _ c.requires.«open».short
