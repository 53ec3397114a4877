use Rattle.std.proofs.Common.{◌≤◌, ℕ, subst}
use Rattle.jsonb_encode.proofs.Numbers.{narrow_of, range_of}
use Rattle.jsonb_encode.proofs.laws.numbers_are_narrow_and_in_range.Goals as goal

pub returns-clause-narrow : goal.returns-clause-narrow
returns-clause-narrow c =
    narrow_of c.decimal-decimal.result c.args.number.now c.decimal-decimal.ensures c.decimals_are_within_limits.ensures

pub returns-clause-in_range : goal.returns-clause-in_range
returns-clause-in_range c =
    let few = subst (λ (k : ℕ). k ≤ 16383) c.fraction_digits-few.ensures.places c.fraction_digits-few.ensures.few in
    range_of c.decimal-decimal.result c.args.number.now c.decimal-decimal.ensures few c.decimals_are_within_limits.ensures
