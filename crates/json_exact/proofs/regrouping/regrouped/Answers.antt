use Rattle.std.proofs.Common.{arith, ℕ, subst, ◌*◌, ◌+◌}
use Rattle.json_exact.specs.inner.DecimalInverseLaws.{ten_pos}
use Rattle.json_exact.specs.inner.SignificantGroups.{HoldsGroups}
use Rattle.json_exact.proofs.RegroupLaws.{filling, one_digit, full_group, all_read}
use Rattle.json_exact.proofs.regrouping.regrouped.Goals as goal
use Rattle.json_exact.proofs.regrouping.regrouped.Goals.{then-filled-eq4, else-filled-eq4}

pub loop-index-init : goal.loop-index-init
loop-index-init c = record {
  few = c.requires.padding;
  below = ten_pos c.args.padding;
  whole = (0, omega arith, omega (arith, c.new-groups.ensures.len));
  held = (0, c.new-groups.ensures.holds, omega arith);
}

pub overflow_mul-group : goal.overflow_mul-group
overflow_mul-group c =
    let f = (filling c.loop-index.group c.loop-index.filled 0 c.loop-index.invariant.few c.loop-index.invariant.below (omega arith)).0 in omega arith

pub overflow_add-group : goal.overflow_add-group
overflow_add-group c =
    let f = (filling c.loop-index.group c.loop-index.filled c.digit_or_zero.result c.loop-index.invariant.few c.loop-index.invariant.below
    c.digit_or_zero.ensures.below).0 in omega arith

pub push-requires-clause-group : goal.push-requires-clause-group
push-requires-clause-group c =
    (filling c.loop-index.group c.loop-index.filled c.digit_or_zero.result c.loop-index.invariant.few c.loop-index.invariant.below
    c.digit_or_zero.ensures.below).0

pub loop-index-preserved : goal.loop-index-preserved
loop-index-preserved c =
    let i = c.loop-index.invariant in
    let (n, h, e) = i.held in
    let (k, w, l) = i.whole in
    elim c.if-filled-eq4.branch [
      | then-filled-eq4 b ↦ rw (b.groups-is, b.group-is, b.filled-is) (record {
        few = omega arith;
        below = omega arith;
        whole = (k + 1, (let t = b.if-filled-eq4.true in omega arith), (let g = b.push.ensures.len in omega arith));
        held = (
          n * 10000 + (c.loop-index.group * 10 + c.digit_or_zero.result),
          b.push.ensures.holds n h,
          full_group n _ _ _ c.args.digits.now c.loop-index.index b.if-filled-eq4.true e c.digit_or_zero.ensures.digit,
        );
      })
      | else-filled-eq4 b ↦ rw (b.groups-is, b.group-is, b.filled-is) (record {
        few = (let f = i.few in let t = b.if-filled-eq4.false in omega arith);
        below = (filling c.loop-index.group c.loop-index.filled c.digit_or_zero.result i.few i.below c.digit_or_zero.ensures.below).1;
        whole = (k, omega arith, l);
        held = (n, h, one_digit n _ _ _ c.args.digits.now c.loop-index.index e c.digit_or_zero.ensures.digit);
      })
    ]

pub returns-clause-holds : goal.returns-clause-holds
returns-clause-holds c =
    let i = c.loop-index.invariant in
    let (n, h, e) = i.held in
    let (k, w, l) = i.whole in
    let end = c.loop-index-test.false in
    let most = c.loop-index.auto.index-end in
    subst (λ (x : ℕ). HoldsGroups c.loop-index.groups x)
    (all_read n _ _ c.args.padding c.loop-index.index k c.args.digits.now c.told-digits c.requires.padding (omega arith) i.few w i.below e) h
