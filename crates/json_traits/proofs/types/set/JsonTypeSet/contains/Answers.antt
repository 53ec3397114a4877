use Rattle.std.proofs.Common.{not, ℕ, nat_eq, bit_and, ap, ◌∙◌}
use Rattle.json_traits.proofs.ByteLaws.{test_is}
use Rattle.json_traits.proofs.types.set.JsonTypeSet.contains.Goals as goal

pub returns : goal.returns
returns c = ap (λ (w : ℕ). not (nat_eq (bit_and c.args.self.bits w) 0)) c.weight.ensures ∙ test_is c.args.self.bits c.args.ty c.args.self.seven
