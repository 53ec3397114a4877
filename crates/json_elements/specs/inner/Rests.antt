-- What is left of two containers that are compared side by side.
use Rattle.std.specs.Prelude.{◌≡◌, ◌<◌, ℕ, ◌+◌, Bool, List, [], ◌∷◌, ⊤, IsTrue, ◌↔◌}
use Rattle.json_model.specs.Parts.{elements_from, members_from}
use Rattle.json_model.specs.Same.{Same, SameElements}
use Rattle.json_model.specs.Tree.{Tree}
use Rattle.json_traits.proofs.PlaceLaws.{SameAtPlaces}
use Rattle.json_elements.specs.inner.Weights.{weight, elements_weight, members_weight}
use Rattle.json_elements.specs.declared.equality.Compared.{Compared}
use Rattle.json_elements.specs.declared.equality.Compared.TheVariants as compared
use Rattle.json_elements.specs.declared.equality.NextOfBoth.{NextOfBoth}
use Rattle.json_elements.specs.declared.equality.NextOfBoth.TheVariants as next
use Rattle.json_elements.specs.declared.equality.Rest.{Rest}
use Rattle.json_elements.specs.declared.equality.Rest.TheVariants.{Arrays, Objects}
use Rattle.json_elements.specs.declared.step.Step.{Step}
use Rattle.json_elements.specs.declared.step.Step.TheVariants.{Next, Done}

module _ {E M : Type 0} (trees : E → List Tree) (pairs : M → List (List ℕ × Tree)) where
  -- what is left of both is the same
  abbrev pub Agrees : Rest E M → Type 0
  Agrees (Arrays a b) = SameElements (elements_from (trees a)) (elements_from (trees b))
  Agrees (Objects a b) = SameAtPlaces (members_from (pairs a)) (members_from (pairs b))

  abbrev pub AllAgree : List (Rest E M) → Type 0
  AllAgree [] = ⊤
  AllAgree (r ∷ rs) = Agrees r × AllAgree rs

  -- what is left to do for one pair of containers, and for those around it
  abbrev pub rest_weight : Rest E M → ℕ
  rest_weight (Arrays a b) = 1 + elements_weight (elements_from (trees a))
  rest_weight (Objects a b) = 1 + members_weight (members_from (pairs a))

  abbrev pub rests_weight : List (Rest E M) → ℕ
  rests_weight [] = 0
  rests_weight (r ∷ rs) = rest_weight r + rests_weight rs

  -- what a look at two values tells
  abbrev pub IsCompared : Tree → Tree → Compared E M → Type 0
  IsCompared t u compared.Equal = Same t u
  IsCompared t u compared.Apart = Same t u → ⊥
  IsCompared t u (compared.Inside r) = (Agrees r ↔ Same t u) × (rest_weight r < weight t)

  -- the next of both
  abbrev pub IsNextOfBoth : {N : Type 0} → (N → Tree) → Rest E M → NextOfBoth N → Rest E M → Type 0
  IsNextOfBoth tree before (next.Pair l r) after =
      (Agrees before ↔ (Same (tree l) (tree r) × Agrees after)) × (rest_weight before ≡ weight (tree l) + rest_weight after)
  IsNextOfBoth tree before next.End after = Agrees before
  IsNextOfBoth tree before next.Apart after = Agrees before → ⊥

  -- one step: what is left decides as what was left before does, and is less
  abbrev pub AdvancesRests : Rest E M → List (Rest E M) → Step (Rest E M) Bool → List (Rest E M) → Type 0
  AdvancesRests r rs (Done b) after = IsTrue b ↔ (Agrees r × AllAgree rs)
  AdvancesRests r rs (Next q) after =
      ((Agrees q × AllAgree after) ↔ (Agrees r × AllAgree rs)) × (rest_weight q + rests_weight after < rest_weight r + rests_weight rs)
