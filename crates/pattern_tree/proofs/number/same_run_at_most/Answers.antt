use Rattle.std.proofs.Common.{refl, sym}
use Rattle.std.specs.Str.{chars}
use Rattle.pattern_model.specs.Digits.{digits}
use Rattle.pattern_tree.proofs.NumberLemmas.{same_end, same_none, same_decides}
use Rattle.pattern_tree.proofs.number.same_run_at_most.Goals as goal

pub loop-c-init : goal.loop-c-init
unfolding digits
loop-c-init c = (c.utf8.x, c.utf8.y, c.requires, (0, refl, refl))

pub returns-then-not-is_digit : goal.returns-then-not-is_digit
returns-then-not-is_digit c =
    let (n, e, f) = c.loop-c.invariant.3 in
    same_end n c.in-Some.c (chars c.in-Some.left_next.now) (chars c.loop-c.left.now) (chars c.loop-c.right.now) _ _ c.in-Some.ensures.0
    (sym c.if-not-is_digit.ensures) c.loop-c.invariant.2 e f

pub returns-then-c-d : goal.returns-then-c-d
returns-then-c-d c =
    let (n, e, f) = c.loop-c.invariant.3 in
    same_decides n c.in-Some.c c.in-Some-split_first.d (chars c.in-Some.left_next.now) (chars c.in-Some-split_first.right_next.now)
    (chars c.loop-c.left.now) (chars c.loop-c.right.now) _ _
    c.in-Some.ensures.0 c.in-Some-split_first.ensures.0 (sym c.if-not-is_digit.ensures) c.if-c-d.true c.loop-c.invariant.2 e f

pub returns : goal.returns
returns c =
    let (n, e, f) = c.loop-c.invariant.3 in
    same_none n (chars c.loop-c.left.now) (chars c.loop-c.right.now) _ _ c.in_default.ensures c.loop-c.invariant.2 e f
