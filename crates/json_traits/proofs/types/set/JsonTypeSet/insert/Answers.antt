use Rattle.std.proofs.Common.{◌||◌, ℕ, Bool, ap, ◌∙◌, arith}
use Rattle.std.proofs.lemmas.Nat.{or_lt}
use Rattle.json_traits.specs.Weights.{is_set}
use Rattle.json_traits.proofs.BitLaws.{or_is, weight_is, weight_below}
use Rattle.json_traits.proofs.types.set.JsonTypeSet.insert.Goals as goal

pub returns : goal.returns
returns c =
    λ other. or_is c.args.self.bits c.weight.result other ∙
    ap (λ (x : Bool). is_set c.args.self.bits other || x) (ap (λ (w : ℕ). is_set w other) c.weight.ensures ∙ weight_is c.args.ty other)

pub invariant_of-result : goal.invariant_of-result
invariant_of-result c =
    record { seven = or_lt 7 c.args.self.bits c.weight.result c.args.self.seven (omega (arith, c.weight.ensures, weight_below c.args.ty)) }
