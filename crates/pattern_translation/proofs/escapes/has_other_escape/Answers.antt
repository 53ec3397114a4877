use Rattle.std.proofs.Common.{rules, ◌≡◌, ap, sym, ◌∙◌, arith, false}
use Rattle.std.specs.Prelude.{◌==◌, if◌then◌else◌, not}
use Rattle.std.specs.Str.{chars}
use Rattle.std.proofs.lemmas.Bool.Decides.{nat_tests}
use Rattle.rust_pattern_model.specs.Refusals.{has_other_escape}
use Rattle.rust_pattern_model.proofs.EscapeScan.{past_escape, past_other}
use Rattle.pattern_translation.proofs.escapes.has_other_escape.Goals as goal

pub loop-c-preserved-then-c-eq92 : goal.loop-c-preserved-then-c-eq92
loop-c-preserved-then-c-eq92 c = (
  c.rest-left.utf8,
  ap (has_other_escape c.loop-c.in_class) c.rest-left.ensures.value
      ∙ (past_escape c.loop-c.in_class c.in-Some.c (chars c.in-Some.after.now) (chars c.loop-c.left.now) c.in-Some.ensures.0 c.if-c-eq92.true
      (sym c.if-is_other_escape.ensures) ∙ c.loop-c.invariant.1),
)

pub loop-c-preserved-then-in_class : goal.loop-c-preserved-then-in_class
loop-c-preserved-then-in_class c =
    let other : c.in-Some.c == 92 ≡ false = grind (arith, nat_tests) in (
      search rules,
      ap (λ k. has_other_escape (if k then not (c.in-Some.c == 93) else c.in-Some.c == 91) (chars c.in-Some.after.now)) (sym c.if-in_class.true)
          ∙ (past_other c.loop-c.in_class c.in-Some.c (chars c.in-Some.after.now) (chars c.loop-c.left.now) c.in-Some.ensures.0 other
          ∙ c.loop-c.invariant.1),
    )

pub loop-c-preserved : goal.loop-c-preserved
loop-c-preserved c =
    let other : c.in-Some.c == 92 ≡ false = grind (arith, nat_tests) in (
      search rules,
      ap (λ k. has_other_escape (if k then not (c.in-Some.c == 93) else c.in-Some.c == 91) (chars c.in-Some.after.now)) (sym c.if-in_class.false)
          ∙ (past_other c.loop-c.in_class c.in-Some.c (chars c.in-Some.after.now) (chars c.loop-c.left.now) c.in-Some.ensures.0 other
          ∙ c.loop-c.invariant.1),
    )
