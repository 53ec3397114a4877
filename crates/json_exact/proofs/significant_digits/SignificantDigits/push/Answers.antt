use Rattle.std.proofs.Common.{inl, inr, arith}
use Rattle.json_exact.proofs.NarrowLaws.{narrow_less, wide_digit}
use Rattle.json_exact.proofs.PushLaws.{put, put_zero, put_over}
use Rattle.json_exact.proofs.significant_digits.SignificantDigits.push.Goals as goal
use Rattle.json_exact.proofs.significant_digits.SignificantDigits.push.Goals.{then-self-lt38, else-self-lt38+then-digit-ne0, else-self-lt38+else-digit-ne0}

pub returns-clause-holds : goal.returns-clause-holds
returns-clause-holds c = λ n h. elim c.if-self-lt38.branch [
  | then-self-lt38 w ↦
      rw w.self-is
      (put 10 37 (omega arith) _ _ _ _ n w.if-self-lt38.true c.requires.digit (λ e f. elim c.else-self-eq0.either [ inl x ↦ x.1 f | inr y ↦ y e ]) h)
  | else-self-lt38+then-digit-ne0 w ↦
      rw w.self-is
      (put_over 10 37 (omega arith) _ _ _ _ n w.if-self-lt38.false (λ big. wide_digit n _ big c.requires.digit w.if-digit-ne0.true)
      (narrow_less n _ c.requires.digit) h)
  | else-self-lt38+else-digit-ne0 w ↦
      rw (w.self-is, w.if-digit-ne0.false) (put_zero 10 37 (omega arith) _ _ _ n w.if-self-lt38.false (narrow_less n 0 (omega arith)) h)
]
