use Rattle.std.proofs.Common.{sym, ap, ◌∙◌, eqb-true, eq-eqb}
use Rattle.std.proofs.lemmas.Bool.{both_ways}
use Rattle.json_exact.specs.declared.decimal.Decimal.TheInside.{Inside}
use Rattle.json_exact.proofs.EqualityLaws.{unequal, tested, beq_same, beq_other}
use Rattle.json_exact.proofs.decimal.DecimalPartialEq.eq.Goals as goal
use Rattle.json_exact.proofs.decimal.DecimalPartialEq.eq.Goals.{then-self-other, else-self-other}

pub returns-then-self-other-2 : goal.returns-then-self-other-2
returns-then-self-other-2 c = elim c.if-self-other.branch [
  | then-self-other w ↦
      tested c.self.inside c.other.inside _ _ c.eq.result
      (record { fields = c.self.invariant; view_is = c.self.view_is }) (record { fields = c.other.invariant; view_is = c.other.view_is })
      (beq_same _ _ w.if-self-other.true) (eqb-true _ _ (sym w.value-is ∙ c.if-self-other-2.true)) c.eq.ensures
  | else-self-other w ↦ absurd (both_ways c.if-self-other.value (w.value-is ∙ w.if-self-other.false) c.if-self-other-2.true)
]

pub returns-else-self-other-2 : goal.returns-else-self-other-2
returns-else-self-other-2 c = c.if-self-other-2.false ∙ sym (unequal c.self.inside c.other.inside _ _
    (record { fields = c.self.invariant; view_is = c.self.view_is }) (record { fields = c.other.invariant; view_is = c.other.view_is })
    (λ e. elim c.if-self-other.branch [
      | then-self-other w ↦ both_ways c.if-self-other.value c.if-self-other-2.false (w.value-is ∙ eq-eqb _ _ (ap (λ (a : Inside). a.top) e))
      | else-self-other w ↦ beq_other _ _ w.if-self-other.false (ap (λ (a : Inside). a.negative) e)
    ]))
