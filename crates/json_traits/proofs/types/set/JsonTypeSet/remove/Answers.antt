use Rattle.std.proofs.Common.{◌&&◌, ℕ, ◌-◌, Bool, ap, ◌∙◌}
use Rattle.json_traits.specs.Weights.{is_set}
use Rattle.json_traits.proofs.BitLaws.{and_is, mask_is}
use Rattle.json_traits.proofs.types.set.JsonTypeSet.remove.Goals as goal

pub returns : goal.returns
returns c =
    λ other. and_is c.args.self.bits (255 - c.weight.result) other ∙
    ap (λ (x : Bool). is_set c.args.self.bits other && x) (ap (λ (w : ℕ). is_set (255 - w) other) c.weight.ensures ∙ mask_is c.args.ty other)
