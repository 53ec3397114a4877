-- Whether a key is one of the names that are left.
use Rattle.std.proofs.Common.{◌≡◌, ◌+◌, ◌<◌, ℕ, List, ◌∷◌, drop, length, map, get_or, subst, inl, inr}
use Rattle.std.specs.Prelude.{◌↔◌, String, string_bytes}
use Rattle.json_traits.proofs.WalkLaws.{leads}
use Rattle.judge_tree.specs.Verdict.{IsOneOf}

module _ {Z : Type 0} (names : List (String Z)) (i : ℕ) (n : String Z) (k : List ℕ) (lt : i < length names) (e : n ≡ get_or names i n) (Q : Type 0)
    (left : IsOneOf (map string_bytes (drop i names)) k ↔ Q) where
  here : IsOneOf (map string_bytes (n ∷ drop (i + 1) names)) k ↔ Q
  here = subst (λ (zs : List (String Z)). IsOneOf (map string_bytes zs) k ↔ Q) (leads names i n lt e) left

  -- the name is the key
  pub name_is : string_bytes n ≡ k → Q
  name_is same = here.0 (inl same)

  -- the name is another, so the names after it decide
  pub name_is_not : (string_bytes n ≡ k → ⊥) → IsOneOf (map string_bytes (drop (i + 1) names)) k ↔ Q
  name_is_not other = (λ s. here.0 (inr s), λ q. elim (here.1 q) [ inl same ↦ absurd (other same) | inr s ↦ s ])
