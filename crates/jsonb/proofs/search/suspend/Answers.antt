use Rattle.std.proofs.Common.{sym, ap, ◌∙◌, arith}
use Rattle.std.proofs.lemmas.Bool.{eqb-true, eqb-false}
use Rattle.jsonb.specs.declared.found.Found.{Found}
use Rattle.std.proofs.Common.{Option}
use Rattle.jsonb.specs.inner.Frames.{combine, frames_found}
use Rattle.jsonb.specs.inner.Views.{place}
use Rattle.jsonb.proofs.FoundLaws.{nothing_combine}
use Rattle.jsonb.proofs.FrameLaws.{at_end, past_end, put_off}
use Rattle.jsonb.proofs.search.suspend.Goals as goal

pub returns-then-is_empty-clause-found : goal.returns-then-is_empty-clause-found
returns-then-is_empty-clause-found c =
    sym (nothing_combine (frames_found c.args.suspended.now.items))
    ∙ ap (λ (a : Option Found). combine a (frames_found c.args.suspended.now.items))
    (sym (at_end c.args.frame.left (place c.args.frame.start) c.if-frame-eq0.true (eqb-true _ 0 (sym c.if-is_empty.ensures))))

pub returns-then-frame-eq0-clause-cause : goal.returns-then-frame-eq0-clause-cause
returns-then-frame-eq0-clause-cause c =
    past_end c.args.frame.left (place c.args.frame.start) c.if-frame-eq0.true (eqb-false _ 0 (sym c.if-is_empty.ensures))

pub returns-in-Ok-clause-found : goal.returns-in-Ok-clause-found
returns-in-Ok-clause-found c = (put_off c.args.suspended.now.items c.push.new.self.items c.args.frame c.in-Ok.ensures.ok).0

pub returns-in-Ok-clause-weight : goal.returns-in-Ok-clause-weight
returns-in-Ok-clause-weight c = omega (arith, (put_off c.args.suspended.now.items c.push.new.self.items c.args.frame c.in-Ok.ensures.ok).1)
