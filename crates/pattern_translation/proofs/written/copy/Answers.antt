use Rattle.std.proofs.Common.{rules, arith}
use Rattle.pattern_translation.proofs.CopyLaws.{copied, copied_one, copied_to_the_end}
use Rattle.pattern_translation.proofs.written.copy.Goals as goal

pub returns-then-left-end : goal.returns-then-left-end
returns-then-left-end c = λ own e.
    let (done, more, f, g, k) = c.loop-c.invariant.1 own e in
    copied own done more c.loop-c.left.now c.args.end.now _ _ c.loop-c.invariant.0 c.utf8.end (omega (arith, c.if-left-end.true)) f g k

pub loop-c-preserved : goal.loop-c-preserved
loop-c-preserved c = (
  search rules,
  λ own e.
      let (done, more, f, g, k) = c.loop-c.invariant.1 own e in
      copied_one own done more c.loop-c.left.now c.in-Some.after.now c.args.end.now _ _ _ c.in-Some.c c.loop-c.invariant.0 c.utf8.end
      (omega (arith, c.if-left-end.false)) c.in-Some.ensures.0 f g k c.in_ok-push.ensures.bytes,
)

pub returns : goal.returns
returns c = λ own e.
    let (done, more, f, g, k) = c.loop-c.invariant.1 own e in
    copied_to_the_end own done more c.loop-c.left.now c.args.end.now _ _ c.in_default.ensures f g k
