use Rattle.std.proofs.Common.{rules, true, subst, IfSome, IfNone}
use Rattle.std.specs.Prelude.{string_bytes}
use Rattle.std.specs.Str.{chars}
use Rattle.pattern_model.specs.Tokens.{token_from}
use Rattle.pattern_tree.specs.Nodes.{IsRefused}
use Rattle.rust_pattern_model.specs.Translation.{Writes}
use Rattle.pattern_translation.specs.inner.Adding.{AddsToken}
use Rattle.pattern_translation.proofs.TokenWriting.{next_added, all_added, not_refused}
use Rattle.pattern_translation.proofs.pattern_text.write_pattern.Goals as goal

pub returns-in_default-2 : goal.returns-in_default-2
returns-in_default-2 c = λ ts r n.
    let (more, w, q, m, e, k) = c.loop-c.invariant.1 ts r n in
    absurd (not_refused (chars c.loop-c.left.now) c.in-Some.c (chars c.in-Some.after.now) more c.in-Some.ensures.0 q m
    (subst (λ o. IfNone o (IsRefused (token_from true c.in-Some.c (chars c.in-Some.after.now)))) c.in_default-2.is c.in_ok-end.ensures.none))

pub loop-c-preserved : goal.loop-c-preserved
loop-c-preserved c =
    let token = subst (λ o. IfSome o (λ end. AddsToken (string_bytes c.loop-c.out) (string_bytes c.write_next.new.out) c.in-Some.c
    (chars c.in-Some.after.now) (chars end.now))) c.in-Some-2.is c.in_ok-end.ensures.token in (
      search rules,
      λ ts r n.
          let (more, w, q, m, e, k) = c.loop-c.invariant.1 ts r n in
          next_added (chars c.loop-c.left.now) c.in-Some.c (chars c.in-Some.after.now) (chars c.in-Some-2.end.now) more w _ _
          (λ v. Writes (chars c.args.pattern.now) ts v) c.in-Some.ensures.0 token q m e k,
    )

pub returns : goal.returns
returns c = λ ts r n.
    let (more, w, q, m, e, k) = c.loop-c.invariant.1 ts r n in
    all_added (chars c.loop-c.left.now) more w _ (λ v. Writes (chars c.args.pattern.now) ts v) c.in_default.ensures q e k
