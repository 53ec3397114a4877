use Rattle.std.proofs.Common.{sym, ◌∙◌}
use Rattle.line_program.proofs.KnownBytes.{empty_from_test, some_from_test}
use Rattle.line_program.proofs.Steps.{rest_answered, rest_none, rest_stopped}
use Rattle.line_program.proofs.lines.finish.Goals as goal

pub returns-then-is_empty-clause-rest : goal.returns-then-is_empty-clause-rest
returns-then-is_empty-clause-rest g c = rest_none _ _ (empty_from_test _ (sym c.is_empty.ensures ∙ c.if-is_empty.true))

pub returns-clause-rest : goal.returns-clause-rest
returns-clause-rest g c =
    let some = some_from_test _ (sym c.is_empty.ensures ∙ c.if-is_empty.false) in
    rest_answered _ _ _ _ c.answer_line.result some c.answer_line.ensures.answered

pub returns-clause-stops : goal.returns-clause-stops
returns-clause-stops g c =
    let some = some_from_test _ (sym c.is_empty.ensures ∙ c.if-is_empty.false) in
    rest_stopped _ _ _ _ c.answer_line.result some c.requires.«open».one c.answer_line.ensures.stops
