-- What a decimal tells of the number that it is the value of.
use Rattle.std.proofs.Common.{◌≡◌, ℤ, pos, sym, subst}
use Rattle.std.specs.Prelude.{◌*ℤ◌, ◌↔◌}
use Rattle.std.proofs.Math.IntN.{*ℤ-one}
use Rattle.json_model.specs.Decimal.{Decimal}
use Rattle.json_model.specs.Tree.{Tree, scalar, number}
use Rattle.json_exact.specs.Exact.{IsWorth, parts}
use Rattle.json_exact.proofs.WorthLaws.{same_as_written}
use Rattle.json_traits.specs.Numbers.{decimal_in, whole, IsValue}

-- a decimal is z exactly where the value of what it is written as is
pub value_as_written : (d z : ℤ) (w : Decimal) → IsWorth d w → (d ≡ z *ℤ pos parts) ↔ IsValue z w
unfolding lib.IntN.one
value_as_written d z w f = same_as_written d (z *ℤ pos parts) w (whole z) f (*ℤ-one (z *ℤ pos parts))

-- a call that tells whether a decimal is z tells whether the value of the tree is
pub told_of_tree : {P : Type 0} (d z : ℤ) (w : Decimal) (t : Tree) → t ≡ scalar (number w) → IsWorth d w → P ↔ (d ≡ z *ℤ pos parts) → P ↔
    IsValue z (decimal_in t)
told_of_tree {P} d z w t is f h =
    let v = value_as_written d z w f in
    subst (λ (t : Tree). P ↔ IsValue z (decimal_in t)) (sym is) (λ p. v.0 (h.0 p), λ q. h.1 (v.1 q))
