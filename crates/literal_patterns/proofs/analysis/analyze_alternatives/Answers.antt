use Rattle.std.proofs.Common.{rules, refl, ◌≡◌, false, true}
use Rattle.std.specs.Str.{chars}
use Rattle.std.specs.Cow.{cow_str_bytes}
use Rattle.literal_patterns.proofs.AlternativeLaws.{reached_start, reached_more, reached_last, reached_none}
use Rattle.literal_patterns.proofs.analysis.analyze_alternatives.Goals as goal

pub loop-texts-init : goal.loop-texts-init
loop-texts-init c = (c.utf8.inner, reached_start (chars c.args.inner.now) c.new-texts.result.items c.new-texts.ensures.items)

pub loop-texts-preserved : goal.loop-texts-preserved
loop-texts-preserved c = (
  search rules,
  reached_more (chars c.args.inner.now) (chars c.loop-texts.left.now) (cow_str_bytes c.in_ok-text.text) (chars c.in_ok-text.rest.now)
      (chars c.in-Some.more.now) c.loop-texts.texts.items c.push.new.self.items c.in_ok-into_owned.field-0 c.loop-texts.invariant.1
      c.in_ok-text.ensures.0 c.in-Some.ensures.0 c.in_ok-into_owned.ensures.ok c.in_ok-push.ensures.items,
)

pub returns-in-None-clause-some : goal.returns-in-None-clause-some
unfolding chars
returns-in-None-clause-some c =
    reached_last (chars c.args.inner.now) (chars c.loop-texts.left.now) (cow_str_bytes c.in_ok-text.text) (chars c.in_ok-text.rest.now)
    c.loop-texts.texts.items c.push.new.self.items c.sort_unstable.new.self.items c.in_ok-into_owned.field-0 c.loop-texts.invariant.1
    c.in_ok-text.ensures.0 (c.if-is.ensures.0 refl) c.in_ok-into_owned.ensures.ok c.in_ok-push.ensures.items
    c.sort_unstable.ensures.permutation c.sort_unstable.ensures.sorted

pub returns-in-None-2-clause-none : goal.returns-in-None-2-clause-none
unfolding chars
returns-in-None-2-clause-none c =
    reached_none (chars c.args.inner.now) (chars c.loop-texts.left.now) (cow_str_bytes c.in_ok-text.text) (chars c.in_ok-text.rest.now)
    c.loop-texts.texts.items c.loop-texts.invariant.1 c.in_ok-text.ensures.0 c.in-None-2.ensures
    (λ e. let no : false ≡ true = c.if-is.ensures.1 e in cc)
