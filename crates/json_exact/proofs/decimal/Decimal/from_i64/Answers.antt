use Rattle.std.proofs.Common.{◌*◌, ◌≡◌, ◌∙◌, ap, sym, nat_abs, ℕ, ℤ, pos, w64, to_z, of_z, rules}
use Rattle.std.specs.Prelude.{int_lt}
use mir.Val.{SFits}
use Rattle.std.proofs.lemmas.Int.{to_z-of_z}
use Rattle.json_exact.specs.Exact.{parts}
use Rattle.json_model.specs.Decimal.{signed}
use Rattle.json_exact.proofs.SignLaws.{times}
use Rattle.json_exact.proofs.MachineLaws.{few_digits, all_up}
use Rattle.json_exact.proofs.GroupLaws.{not_wide}
use Rattle.json_exact.proofs.decimal.Decimal.from_i64.Goals as goal

pub from_significant-requires-clause-kept : goal.from_significant-requires-clause-kept
from_significant-requires-clause-kept c = not_wide _ _ _ _ c.of_number-groups.ensures.holds (few_digits c.unsigned_abs.result c.unsigned_abs.type_inv)

pub from_significant-requires-clause-exact : goal.from_significant-requires-clause-exact
from_significant-requires-clause-exact c = (
  c.unsigned_abs.result,
  c.unsigned_abs.result * parts,
  c.of_number-groups.ensures.holds,
  few_digits c.unsigned_abs.result c.unsigned_abs.type_inv,
  all_up c.unsigned_abs.result,
)

pub returns-clause-value : goal.returns-clause-value
returns-clause-value c =
    let f : SFits w64 c.args.value = search rules in
    let e : to_z w64 (of_z w64 c.args.value) ≡ c.args.value = to_z-of_z w64 c.args.value f in
    c.from_significant.ensures.value c.unsigned_abs.result (c.unsigned_abs.result * parts) c.of_number-groups.ensures.holds
    (all_up c.unsigned_abs.result)
    ∙ ap (λ (v : ℤ). signed (int_lt v (pos 0)) (c.unsigned_abs.result * parts)) e
    ∙ ap (λ (n : ℕ). signed (int_lt c.args.value (pos 0)) (n * parts)) (c.unsigned_abs.ensures.value ∙ ap nat_abs e)
    ∙ sym (times c.args.value parts)
