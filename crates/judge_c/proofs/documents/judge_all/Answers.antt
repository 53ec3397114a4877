use Rattle.std.proofs.Common.{ℕ, ◌<◌, ◌+◌, ◌≢◌, length, arith, get_or, slice_set, get_or-set_other, get_or-set_same, below_more, subst, sym}
use Rattle.judge_c.specs.Many.{IsCoded, IsCodedAt}
use Rattle.judge_c.specs.inner.Read.{IsChecked}
use Rattle.judge_c.proofs.documents.judge_all.Goals as goal

pub loop-i-preserved : goal.loop-i-preserved
loop-i-preserved g c =
    let has = IsChecked (g.R.Rules.passes c.args.rules.now) in
    let ds = c.args.documents.now in
    let os = c.args.offsets.now in
    let cs = c.loop-i.codes in
    let at = c.loop-i.i in
    let v = c.code_at.result in
    let lt : at < length cs = omega arith in
    below_more (λ (j : ℕ). IsCodedAt has ds os (slice_set cs at v) j) at
    (λ j h. let ne : j ≢ at = omega arith in
    subst (λ (n : ℕ). IsCoded has ds (get_or os j 0) (get_or os (j + 1) 0) n) (sym (get_or-set_other cs at j v 0 ne))
    (c.loop-i.invariant j h))
    (subst (λ (n : ℕ). IsCoded has ds (get_or os at 0) (get_or os (at + 1) 0) n) (sym (get_or-set_same cs at v 0 lt)) c.code_at.ensures)

pub returns : goal.returns
returns g c = λ i lt. c.loop-i.invariant i (omega arith)
