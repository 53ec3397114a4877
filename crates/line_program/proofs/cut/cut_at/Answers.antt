use Rattle.line_program.proofs.Cuts.{cut_there, lacks_before, lacks_whole}
use Rattle.line_program.proofs.cut.cut_at.Goals as goal

pub returns-in_err-place : goal.returns-in_err-place
returns-in_err-place c = rw c.from_residual.ensures (lacks_whole _ _ c.in_err-place.ensures)

pub returns : goal.returns
returns c =
    let within = c.in_ok-place.ensures.0.high in
    (cut_there _ _ _ within c.in_ok-place.ensures.1, lacks_before _ _ _ c.in_ok-place.ensures.0)
