use Rattle.std.proofs.Common.{sym}
use Rattle.jsonb.specs.inner.Views.{place}
use Rattle.jsonb.proofs.KeyEnds.{few_words, ends_begin, ends_word, ends_miss, ends_stop, ends_go_on, ends_done}
use Rattle.jsonb.proofs.keys.pass_later_keys.Goals as goal

pub loop-init : goal.loop-init
loop-init c = ends_begin c.args.count c.args.first.now (place c.args.here.now) c.if-here-count.false

pub next_key-requires : goal.next_key-requires
next_key-requires c = ends_word c.loop.invariant c.loop-test.true

pub returns-then-here-count : goal.returns-then-here-count
returns-then-here-count c = sym (few_words c.args.count _ (place c.args.here.now) c.if-here-count.true)

pub returns-in_default : goal.returns-in_default
returns-in_default c = sym (ends_miss c.loop.invariant c.loop-test.true c.in_default.ensures)

pub returns-then-not-comes_before : goal.returns-then-not-comes_before
returns-then-not-comes_before c =
    sym
    (ends_stop c.loop.invariant (place c.in-Some.behind) c.in-Some.key.now c.loop-test.true c.in-Some.ensures c.if-not-comes_before.ensures)

pub loop-preserved : goal.loop-preserved
loop-preserved c =
    ends_go_on c.loop.invariant (place c.in-Some.behind) c.in-Some.key.now c.loop-test.true c.in-Some.ensures c.if-not-comes_before.ensures

pub returns : goal.returns
returns c = sym (ends_done c.loop.invariant c.loop-test.false)
