use Rattle.std.proofs.Common.{◌≡◌, ap, sym, ◌∙◌}
use Rattle.std.specs.Str.{chars}
use Rattle.std.specs.Prelude.{nat_lt}
use Rattle.pattern_model.specs.Digits.{digits}
use Rattle.pattern_tree.specs.Capped.{run}
use Rattle.pattern_tree.proofs.NumberLemmas.{runs_decide}
use Rattle.pattern_tree.proofs.number.at_most.Goals as goal

pub returns-else-left_run-right_run : goal.returns-else-left_run-right_run
unfolding digits
returns-else-left_run-right_run c =
    let x = chars c.past_zeros-left.result.now in
    let y = chars c.past_zeros-right.result.now in
    let e = c.run-left_run.ensures in
    let f = c.run-right_run.ensures in
    let ne : (run x ≡ run y) → ⊥ = λ k. c.if-left_run-right_run.false (e ∙ (k ∙ sym f)) in
    ap (λ z. nat_lt z c.run-right_run.result) e ∙ (ap (λ z. nat_lt (run x) z) f
    ∙ runs_decide x y _ _ c.past_zeros-left.ensures.first c.past_zeros-right.ensures.first ne c.past_zeros-left.ensures.value
    c.past_zeros-right.ensures.value)
