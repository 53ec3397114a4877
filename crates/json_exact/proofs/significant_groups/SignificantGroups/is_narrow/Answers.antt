use Rattle.std.proofs.Common.{eqb-true, eq-eqb, get_or, inl, inr}
use Rattle.std.proofs.lemmas.Bool.{cases_lt}
use Rattle.json_exact.proofs.FieldLaws.{keeps_of}
use Rattle.json_exact.proofs.GroupLaws.{not_narrow}
use Rattle.json_exact.proofs.NarrowGroupLaws.{one_digit, two_digits, three_digits, four_digits}
use Rattle.json_exact.proofs.significant_groups.SignificantGroups.is_narrow.Goals as goal

pub returns-then-self : goal.returns-then-self
returns-then-self c = λ n h. (λ t. absurd cc, λ a. absurd (not_narrow _ _ _ _ h c.if-self.true a))

pub returns-then-first-lt10 : goal.returns-then-first-lt10
returns-then-first-lt10 c = λ n h. one_digit _ _ n (keeps_of _ _ _ n h c.if-self.false) c.if-first-lt10.true

pub returns-then-first-lt100 : goal.returns-then-first-lt100
returns-then-first-lt100 c = λ n h. two_digits _ _ n (keeps_of _ _ _ n h c.if-self.false) c.if-first-lt10.false c.if-first-lt100.true

pub returns-then-self-ne0 : goal.returns-then-self-ne0
returns-then-self-ne0 c = λ n h.
    let k = keeps_of _ _ _ n h c.if-self.false in (
      λ t. absurd cc,
      λ a. absurd (elim (cases_lt (get_or c.args.self.now.groups 0 0) 1000) [
        | inl lt ↦ c.if-self-ne0.true ((three_digits _ _ n k c.if-first-lt100.false lt).1 a).0
        | inr ge ↦ c.if-self-ne0.true ((four_digits _ _ n k ge).1 a).0
      ]),
    )

pub returns-then-first-lt1000 : goal.returns-then-first-lt1000
returns-then-first-lt1000 c = λ n h.
    let s = three_digits _ _ n (keeps_of _ _ _ n h c.if-self.false) c.if-first-lt100.false c.if-first-lt1000.true in
    (λ t. s.0 (c.if-self-ne0.false, eqb-true _ _ t), λ a. eq-eqb _ _ (s.1 a).1)

pub returns : goal.returns
returns c = λ n h.
    let s = four_digits _ _ n (keeps_of _ _ _ n h c.if-self.false) c.if-first-lt1000.false in
    (λ t. s.0 (c.if-self-ne0.false, eqb-true _ _ t), λ a. eq-eqb _ _ (s.1 a).1)
