use Rattle.std.proofs.Common.{refl, ◌∙◌, arith}
use Rattle.std.proofs.lemmas.Result.{err_from_is_err_and}
use Rattle.line_program.proofs.Steps.{fed_line, fed_none, fed_open, fed_stops, fed_stops_whole, fed_whole}
use Rattle.line_program.proofs.lines.feed.Goals as goal

pub loop-part-init : goal.loop-part-init
loop-part-init g c = record { serves = c.requires.serves; fed = fed_none _ _ _ c.requires.«open»; later = omega arith; kept = λ each. refl }

pub end_line-requires : goal.end_line-requires
end_line-requires g c = record { serves = c.loop-part.invariant.serves; «open» = c.loop-part.invariant.fed.is_open; one = c.in-Some.ensures.1 }

pub loop-part-preserved : goal.loop-part-preserved
loop-part-preserved g c = record {
  serves = c.in_ok-end_line.ensures.serves;
  fed = fed_line _ _ _ _ _ _ _ _ _ _ c.loop-part.invariant.fed c.in-Some.ensures.0 c.in_ok-end_line.ensures.emptied c.in_ok-end_line.ensures.answered;
  later = omega arith;
  kept = λ each. (c.in_ok-end_line.ensures.once each).ok ∙ c.loop-part.invariant.kept each;
}

pub returns-in_err-end_line-clause-stops : goal.returns-in_err-end_line-clause-stops
returns-in_err-end_line-clause-stops g c =
    let p = err_from_is_err_and c.from_residual.result c.from_residual.ensures.1 in
    rw (p.1, p.2) (fed_stops _ _ _ _ _ _ _ _ _ _ c.loop-part.invariant.fed c.in-Some.ensures.0 c.in-Some.ensures.1 c.in_err-end_line.ensures.stops)

pub returns-clause-open : goal.returns-clause-open
returns-clause-open g c = fed_open _ _ _ _ _ _ _ c.extend_line.result c.loop-part.invariant.fed c.extend_line.ensures c.in_default.ensures

pub returns-clause-feeds : goal.returns-clause-feeds
returns-clause-feeds g c = fed_whole _ _ _ _ _ _ _ c.extend_line.result c.loop-part.invariant.fed c.extend_line.ensures

pub returns-clause-stops : goal.returns-clause-stops
returns-clause-stops g c = fed_stops_whole _ _ _ _ _ _ _ c.extend_line.result c.loop-part.invariant.fed c.extend_line.ensures c.in_default.ensures
