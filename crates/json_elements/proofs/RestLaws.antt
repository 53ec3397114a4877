-- What is left of containers that are compared side by side.
use Rattle.std.proofs.Common.{◌≡◌, ◌<◌, ℕ, ◌+◌, List, [], ◌∷◌, ◌++◌, refl, sym, subst, arith}
use Rattle.std.specs.Prelude.{◌↔◌}
use Rattle.json_model.specs.Parts.{members_from}
use Rattle.json_model.specs.Same.{Same}
use Rattle.json_model.specs.Tree.{Tree, object}
use Rattle.json_traits.proofs.PlaceLaws.{SameAtPlaces, pairs_by_place}
use Rattle.json_elements.specs.Parts.{keys_rise}
use Rattle.json_elements.specs.declared.equality.Rest.{Rest}
use Rattle.json_elements.specs.declared.equality.Rest.TheVariants.{Arrays, Objects}
use Rattle.json_elements.specs.declared.step.Step.TheVariants.{Next}
use Rattle.json_elements.specs.inner.Rests.{Agrees, AllAgree, AdvancesRests, rest_weight, rests_weight}
use Rattle.json_elements.specs.inner.Weights.{weight, members_weight}

-- two objects are compared by their members, side by side
pub objects_compared : (ps qs : List (List ℕ × Tree)) (t u : Tree) → object (members_from ps) ≡ t → object (members_from qs) ≡ u
    → keys_rise ps → keys_rise qs
    → (SameAtPlaces (members_from ps) (members_from qs) ↔ Same t u) × (1 + members_weight (members_from ps) < weight t)
objects_compared ps qs t u e f rise also =
    let places = pairs_by_place ps qs rise also in
    subst (λ (v : Tree). (SameAtPlaces (members_from ps) (members_from qs) ↔ Same v u) × (1 + members_weight (members_from ps) < weight v)) e
    (subst (λ (v : Tree). (SameAtPlaces (members_from ps) (members_from qs) ↔ Same (object (members_from ps)) v)
    × (1 + members_weight (members_from ps) < weight (object (members_from ps)))) f
    ((places.1, places.0), omega arith))

module _ {E M : Type 0} (trees : E → List Tree) (pairs : M → List (List ℕ × Tree)) where
  -- one more pair of containers
  all_more : (rs : List (Rest E M)) (r : Rest E M) → AllAgree trees pairs (rs ++ r ∷ []) ↔ (Agrees trees pairs r × AllAgree trees pairs rs)
  all_more [] r = (λ h. h, λ h. h)
  all_more (q ∷ rs) r = let more = all_more rs r in (λ h. let m = more.0 h.1 in (m.0, (h.0, m.1)), λ h. (h.1.0, more.1 (h.0, h.1.1)))

  weight_more : (rs : List (Rest E M)) (r : Rest E M)
      → rests_weight trees pairs (rs ++ r ∷ []) ≡ rest_weight trees pairs r + rests_weight trees pairs rs
  weight_more [] r = refl
  weight_more (q ∷ rs) r = let more = weight_more rs r in omega arith

  some_weight : (r : Rest E M) → 0 < rest_weight trees pairs r
  some_weight (Arrays a b) = omega arith
  some_weight (Objects a b) = omega arith

  module _ (r : Rest E M) (rs : List (Rest E M)) where
    -- two containers are next, and what is left around them is put off
    pub goes_in : (q after : Rest E M) (t u : Tree) (new : List (Rest E M)) → new ≡ rs ++ after ∷ []
        → (Agrees trees pairs r ↔ (Same t u × Agrees trees pairs after)) × (rest_weight trees pairs r ≡ weight t + rest_weight trees pairs after)
        → (Agrees trees pairs q ↔ Same t u) × (rest_weight trees pairs q < weight t)
        → AdvancesRests trees pairs r rs (Next q) new
    goes_in q after t u new e next inside =
        subst (AdvancesRests trees pairs r rs (Next q)) (sym e)
        (let more = all_more rs after in
        let same = weight_more rs after in (
          (λ h. (next.0.1 (inside.0.0 h.0, (more.0 h.1).0), (more.0 h.1).1), λ h. (inside.0.1 (next.0.0 h.0).0, more.1 ((next.0.0 h.0).1, h.1))),
          omega (arith, same, next.1, inside.1),
        ))

    -- nothing is left, and what was put off last is next
    pub goes_out : (q : Rest E M) (new : List (Rest E M)) → rs ≡ new ++ q ∷ [] → Agrees trees pairs r → AdvancesRests trees pairs r rs (Next q) new
    goes_out q new e agrees =
        subst (λ (old : List (Rest E M)). AdvancesRests trees pairs r old (Next q) new) (sym e)
        (let more = all_more new q in
        let same = weight_more new q in
        let some = some_weight r in ((λ h. (agrees, more.1 h), λ h. more.0 h.1), omega (arith, same, some)))
