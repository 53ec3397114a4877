-- Names that are keys, in part and in another order.
use Rattle.std.proofs.Common.{◌≡◌, ℕ, zero, suc, ◌+◌, ◌<◌, Bool, true, false, cond, List, [], ◌∷◌, ◌++◌, length, take, drop, get_or, refl, sym, ap, subst, ◌∙◌, add-one, Some}
use Rattle.std.proofs.Math.Seq.{take-suc}
use Rattle.std.specs.Prelude.{IsSome, String, string_bytes, bytes_eq, slice_get, ◌↔◌}
use Rattle.std.specs.List.{AllByRecursion}
use Rattle.std.specs.List.Sorted.{IsPermutation}
use Rattle.std.proofs.lemmas.List.{take-append-drop}
use Rattle.std.proofs.lemmas.List.Elements.{All-from_recursion, recursion_from_All}
use Rattle.std.proofs.lemmas.List.Sorted.{All-permutation, IsPermutation-sym}
use Rattle.std.proofs.lemmas.Slice.Eq.{bytes_eq-Decides}
use Rattle.json_model.specs.Tree.{Tree}
use Rattle.json_model.specs.Parts.{lookup}
use Rattle.flat_keywords.specs.inner.Passes.{HasKeys}

-- ---- the first names, and the others

all_of_both : {X : Type 0} (P : X → Type 0) (xs ys : List X) → AllByRecursion P (xs ++ ys) ↔ (AllByRecursion P xs × AllByRecursion P ys)
all_of_both P [] ys = (λ h. (tt, h), λ h. h.1)
all_of_both P (x ∷ xs) ys = let r = all_of_both P xs ys in (λ h. let q = r.0 h.1 in ((h.0, q.0), q.1), λ h. (h.0.0, r.1 (h.0.1, h.1)))

-- where the first n names are keys, all are where the others are
pub others_decide : {Z : Type 0} (n : ℕ) (names : List (String Z)) (ps : List (List ℕ × Tree)) → HasKeys (take n names) ps
    → HasKeys (drop n names) ps ↔ HasKeys names ps
others_decide {Z = Z} n names ps first =
    let r = all_of_both (λ (name : String Z). IsSome (lookup (string_bytes name) ps)) (take n names) (drop n names) in
    let whole = take-append-drop n names in (
      λ h. subst (λ (l : List (String Z)). HasKeys l ps) whole (r.1 (first, h)),
      λ h. (r.0 (subst (λ (l : List (String Z)). HasKeys l ps) (sym whole) h)).1,
    )

-- in any order the same is asked
pub in_any_order : {Z : Type 0} (names others : List (String Z)) (ps : List (List ℕ × Tree)) → IsPermutation names others
    → HasKeys names ps ↔ HasKeys others ps
in_any_order {Z = Z} names others ps moved = (move names others moved, move others names (IsPermutation-sym names others moved))
  where
    Has : String Z → Type 0
    Has name = IsSome (lookup (string_bytes name) ps)

    move : (xs ys : List (String Z)) → IsPermutation xs ys → HasKeys xs ps → HasKeys ys ps
    move xs ys m h = recursion_from_All Has ys (All-permutation Has xs ys m (All-from_recursion Has xs h))

-- a key that stands in the pairs has a value
pub is_key : (ps : List (List ℕ × Tree)) (i : ℕ) (p : List ℕ × Tree) → slice_get ps i ≡ Some p → IsSome (lookup p.0 ps)
is_key [] i p e = absurd cc
is_key (q ∷ ps) zero p e =
    let same : q ≡ p = cc in
    let one : bytes_eq p.0 q.0 ≡ true = (bytes_eq-Decides p.0 q.0).1 (ap (λ (r : List ℕ × Tree). r.0) (sym same)) in
    rw one refl
is_key (q ∷ ps) (suc i) p e = go (bytes_eq p.0 q.0) (is_key ps i p e)
  where
    go : (b : Bool) → IsSome (lookup p.0 ps) → IsSome (cond b (Some q.1) (lookup p.0 ps))
    go true h = refl
    go false h = h

-- one name more that is a key
pub one_more : {Z : Type 0} (n : ℕ) (names : List (String Z)) (name : String Z) (ps : List (List ℕ × Tree)) → n < length names
    → name ≡ get_or names n name → IsSome (lookup (string_bytes name) ps) → HasKeys (take n names) ps → HasKeys (take (n + 1) names) ps
one_more {Z = Z} n names name ps lt is found first =
    let longer : take (n + 1) names ≡ take n names ++ name ∷ [] =
    rw (add-one n) (take-suc names n name lt ∙ ap (λ (z : String Z). take n names ++ z ∷ []) (sym is)) in
    subst (λ (l : List (String Z)). HasKeys l ps) (sym longer)
    ((all_of_both (λ (name : String Z). IsSome (lookup (string_bytes name) ps)) (take n names) (name ∷ [])).1 (first, (found, tt)))
