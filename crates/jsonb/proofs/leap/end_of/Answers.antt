use Rattle.std.proofs.Common.{◌≡◌, ℕ, ◌+◌, ◌-◌, ◌%◌, ◌^◌, ◌≤◌, ap, sym, subst, ◌∙◌, arith}
use Rattle.jsonb_layout.specs.inner.Reading.{Place}
use Rattle.jsonb_layout.proofs.Tools.{some}
use Rattle.jsonb.specs.inner.Views.{place}
use Rattle.jsonb.proofs.LeapLaws.{Summed, sum_begins, sum_fits, words_there, sum_goes_on, sum_ends, sum_whole, is_whole, is_part}
use Rattle.jsonb.proofs.leap.end_of.Goals as goal

pub loop-left-init : goal.loop-left-init
loop-left-init g c = record {
  summed = sum_begins c.args.count (place c.args.start) c.requires.there;
  within = omega arith;
  ticks = omega arith;
  few = omega arith;
}

pub entry_word_counted-requires : goal.entry_word_counted-requires
entry_word_counted-requires g c = omega (arith, words_there c.loop-left.invariant.summed, c.loop-left-test.true)

pub overflow_add-sum : goal.overflow_add-sum
overflow_add-sum g c = omega (arith, sum_fits c.loop-left.invariant.summed, c.args.start.payload_fits)

pub overflow_add-start : goal.overflow_add-start
overflow_add-start g c = omega (arith, c.args.start.words_fit, words_there c.loop-left.invariant.summed)

pub returns-then-start-left-eq0-clause-end : goal.returns-then-start-left-eq0-clause-end
returns-then-start-left-eq0-clause-end g c =
    sum_ends c.loop-left.invariant.summed c.loop-left-test.true (is_whole (c.args.start.index + (c.loop-left.left - 1)) c.if-start-left-eq0.true)
    ∙ ap some (ap (λ (w : ℕ). c.loop-left.sum + w % 2 ^ 28) (sym c.entry_word_counted.ensures.word))

pub loop-left-preserved : goal.loop-left-preserved
loop-left-preserved g c =
    let w = c.entry_word_counted.ensures.word in
    let one = c.loop-left-test.true in
    let before = c.loop-left.invariant in
    let part = c.if-start-left-eq0.false in
    record {
      summed =
          subst (λ (w : ℕ). Summed c.args.count (c.loop-left.left - 1) (c.loop-left.sum + w % 2 ^ 28) (place c.args.start)) (sym w)
          (sum_goes_on before.summed one (is_part (c.args.start.index + (c.loop-left.left - 1)) part));
      within = omega (arith, before.within);
      ticks = omega (arith, before.ticks, one, c.entry_word_counted.ensures.steps);
      few = omega (arith, before.few, before.within, one, part);
    }

pub overflow_add-result : goal.overflow_add-result
overflow_add-result g c = omega (arith, sum_fits c.loop-left.invariant.summed, c.args.start.payload_fits)

pub returns-clause-end : goal.returns-clause-end
returns-clause-end g c = sum_whole (none_left (c.loop-left.invariant.summed) c.loop-left-test.false)
  where
    none_left : {count left sum : ℕ} {p : Place} → Summed count left sum p → left ≤ 0 → Summed count 0 sum p
    none_left {count = count} {left = left} {sum = sum} {p = p} s le =
        subst (λ (n : ℕ). Summed count n sum p) (let z : left ≡ 0 = omega arith in z) s
