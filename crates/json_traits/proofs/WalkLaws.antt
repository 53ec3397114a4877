-- Walks over what is left of a list, and how deep parts nest.
use Rattle.std.proofs.Common.{◌≡◌, ◌+◌, ◌≤◌, ◌<◌, ℕ, List, [], ◌∷◌, drop, length, get_or, subst, sym, suc, add-one, arith}
use Rattle.std.proofs.Math.Seq.{drop-cons}
use Rattle.std.proofs.lemmas.List.{drop_all}
use Rattle.std.specs.List.{AllByRecursion}
use Rattle.std.specs.Prelude.{◌↔◌}
use Rattle.json_model.specs.Nest.{nest, nest_elements, nest_members}
use Rattle.json_model.specs.Parts.{elements_from, members_from}
use Rattle.json_model.specs.Tree.{Tree}

module _ {A : Type 0} (P : A → Type 0) (ys : List A) (k : ℕ) (Q : Type 0) (left : AllByRecursion P (drop k ys) ↔ Q) where
  -- the next meets P, so what is left without it decides
  pub goes_on : (y : A) → drop k ys ≡ y ∷ drop (k + 1) ys → P y → AllByRecursion P (drop (k + 1) ys) ↔ Q
  goes_on y back p =
      let h = subst (λ (zs : List A). AllByRecursion P zs ↔ Q) back left in
      (λ r. h.0 (p, r), λ q. (h.1 q).1)

  -- the next does not, so not all do
  pub stops : (y : A) → drop k ys ≡ y ∷ drop (k + 1) ys → (P y → ⊥) → Q → ⊥
  stops y back n q = n ((subst (λ (zs : List A). AllByRecursion P zs ↔ Q) back left).1 q).0

  -- nothing is left, so all do
  pub ends : length ys ≤ k → Q
  ends le = left.0 (subst (AllByRecursion P) (sym (drop_all k ys le)) tt)

-- the element at a place leads what is left there
pub leads : {A : Type 0} (xs : List A) (i : ℕ) (x : A) → i < length xs → x ≡ get_or xs i x → drop i xs ≡ x ∷ drop (i + 1) xs
leads xs i x lt e = let d = drop-cons xs i x lt in let one : i + 1 ≡ suc i = add-one i in cc

-- containers nest at most so deep where each of their parts does
pub elements_within : (m : ℕ) (ts : List Tree) → AllByRecursion (λ t. nest t ≤ m) ts ↔ (nest_elements (elements_from ts) ≤ m)
elements_within m [] = (λ h. omega arith, λ h. tt)
elements_within m (t ∷ ts) =
    let r = elements_within m ts in (λ h. let a = h.0 in let b = r.0 h.1 in omega arith, λ h. (omega arith, r.1 (omega arith)))

pub members_within : (m : ℕ) (ps : List (List ℕ × Tree)) → AllByRecursion (λ p. nest p.1 ≤ m) ps ↔ (nest_members (members_from ps) ≤ m)
members_within m [] = (λ h. omega arith, λ h. tt)
members_within m (p ∷ ps) = let r = members_within m ps in (λ h. let a = h.0 in let b = r.0 h.1 in omega arith, λ h. (omega arith, r.1 (omega arith)))
