use Rattle.std.proofs.lemmas.Result.{err_from_is_err_and}
use Rattle.line_program.proofs.Steps.{still_open, stopped_extending}
use Rattle.line_program.proofs.lines.end_line.Goals as goal

pub answer_line-requires-clause-open : goal.answer_line-requires-clause-open
answer_line-requires-clause-open g c = record { one = c.requires.one; short = c.if-part-le-MAX_LINE.true }

pub answer_line-requires-2-clause-open : goal.answer_line-requires-2-clause-open
answer_line-requires-2-clause-open g c =
    let is_open = still_open _ _ _ c.extend_line.result _ c.in_ok-extend_line.was c.extend_line.ensures c.requires.«open» c.requires.one in
    rw c.deref.ensures.value is_open

pub returns-in_err-extend_line-clause-stops : goal.returns-in_err-extend_line-clause-stops
returns-in_err-extend_line-clause-stops g c =
    let p = err_from_is_err_and c.from_residual.result c.from_residual.ensures.1 in
    rw (p.1, p.2) (stopped_extending _ _ _ c.extend_line.result _ _ c.in_err-extend_line.was c.extend_line.ensures)
