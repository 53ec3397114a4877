-- Which values a set of types allows, of those whose own type it does not hold.
use Rattle.std.proofs.Common.{◌≡◌, Bool, true, false, refl, sym, ap, subst, ◌∙◌, inl, inr, Option, Some}
use Rattle.std.specs.Prelude.{IsTrue, ◌↔◌, option_map}
use Rattle.json_model.specs.Decimal.{IsWhole}
use Rattle.json_model.specs.Tree.{Tree, scalar, array, object, null, boolean, number, string}
use Rattle.json_model.specs.Parts.{if_number, is_number}
use Rattle.json_traits.specs.Kinds.{type_of}
use Rattle.json_traits.specs.Numbers.{decimal_in}
use Rattle.json_traits.specs.Sets.{holds}
use Rattle.json_traits.specs.Allowed.{AllowsType}
use Rattle.json_traits.specs.declared.types.json_type.JsonType.TheVariants.{Integer}
use Rattle.json_traits.specs.declared.types.set.JsonTypeSet.{JsonTypeSet}

-- what is read as a number is the tree itself, and a number
same_tree : (t m : Tree) → Some m ≡ if_number t → (m ≡ t) × IsTrue (is_number t)
same_tree (scalar null) m e = absurd cc
same_tree (scalar (boolean b)) m e = absurd cc
same_tree (scalar (number d)) m e = (cc, refl)
same_tree (scalar (string s)) m e = absurd cc
same_tree (array ts) m e = absurd cc
same_tree (object ms) m e = absurd cc

-- a number is allowed by a set of integers exactly where it is whole
pub allows_number : {N : Type 0} (tree : N → Tree) (set : JsonTypeSet) (t : Tree) (o : Option N) (n : N) (b : Bool)
    → option_map tree o ≡ if_number t → o ≡ Some n → holds set (type_of t) ≡ false → holds set Integer ≡ true
    → IsTrue b ↔ IsWhole (decimal_in (tree n)) → IsTrue b ↔ AllowsType set t
allows_number tree set t o n b e is own integer h =
    let s = same_tree t (tree n) (ap (option_map tree) (sym is) ∙ e) in (
      λ whole. (Integer, integer, inr (refl, (s.1, subst (λ (m : Tree). IsWhole (decimal_in m)) s.0 (h.0 whole)))),
      λ (ty, held, of). elim of [
        | inl i ↦ absurd (neither (sym (ap (holds set) i ∙ own) ∙ held))
        | inr (i, (a, whole)) ↦ h.1 (subst (λ (m : Tree). IsWhole (decimal_in m)) (sym s.0) whole)
      ],
    )
  where
    neither : false ≡ true → ⊥
    neither e = cc
