use Rattle.std.proofs.Common.{inl, inr, arith}
use Rattle.json_exact.proofs.NarrowLaws.{narrow_less_group, wide_group}
use Rattle.json_exact.proofs.PushLaws.{put, put_zero, put_over}
use Rattle.json_exact.proofs.significant_groups.SignificantGroups.push.Goals as goal
use Rattle.json_exact.proofs.significant_groups.SignificantGroups.push.Goals.{then-self-lt11, else-self-lt11+then-group-ne0, else-self-lt11+else-group-ne0}

pub returns-clause-holds : goal.returns-clause-holds
returns-clause-holds c = λ n h. elim c.if-self-lt11.branch [
  | then-self-lt11 w ↦
      rw w.self-is
      (put 10000 10 (omega arith) _ _ _ _ n w.if-self-lt11.true c.requires.group
      (λ e f. elim c.else-self-eq0.either [ inl x ↦ x.1 f | inr y ↦ y e ]) h)
  | else-self-lt11+then-group-ne0 w ↦
      rw w.self-is
      (put_over 10000 10 (omega arith) _ _ _ _ n w.if-self-lt11.false (λ big. wide_group n _ big c.requires.group w.if-group-ne0.true)
      (narrow_less_group n _ c.requires.group) h)
  | else-self-lt11+else-group-ne0 w ↦
      rw (w.self-is, w.if-group-ne0.false) (put_zero 10000 10 (omega arith) _ _ _ n w.if-self-lt11.false (narrow_less_group n 0 (omega arith)) h)
]
