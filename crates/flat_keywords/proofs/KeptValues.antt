-- What reading the elements of `enum` keeps from element to element, and what looking through the values kept finds.
use Rattle.std.proofs.Common.{◌≡◌, ℕ, zero, suc, ◌+◌, ◌≤◌, List, [], ◌∷◌, ◌++◌, length, take, map, Some, None, inl, inr, sym, ap, subst, ◌∙◌, arith, take_all, add-one}
use Rattle.std.specs.Prelude.{IsSome, slice_get}
use Rattle.std.specs.List.{AllByRecursion}
use Rattle.std.proofs.lemmas.Option.{slice_get_past}
use Rattle.json_exact.specs.Trees.{tree}
use Rattle.json_exact.specs.declared.value.Value.{Value}
use Rattle.json_model.specs.Parts.{as_array, elements_of}
use Rattle.json_model.specs.Same.{Same}
use Rattle.json_model.specs.Tree.{Tree}
use Rattle.json_traits.proofs.BuildingLaws.{built_more}
use Rattle.json_traits.proofs.GivesLaws.{AtItem}
use Rattle.flat_keywords.specs.Validity.{HasDeep, IsDeep, Suits}
use Rattle.flat_keywords.specs.Verdict.{IsOneOf}
use Rattle.flat_keywords.specs.inner.Passes.{AreListed, IsListed}
use Rattle.flat_keywords.specs.declared.keyword.Keyword.TheVariants.{Enum}
use Rattle.flat_keywords.proofs.Compiling.{all_snoc}

abbrev IsShallow : Tree → Type 0
IsShallow v = IsDeep v → ⊥

-- the values are of the first k trees, none of which is deep
pub record Kept (ts : List Tree) (values : List Value) (k : ℕ) : Type 0 where
  pub trees : map tree values ≡ take k ts
  pub shallow : AllByRecursion IsShallow (take k ts)

pub starts : (ts : List Tree) (values : List Value) → values ≡ [] → Kept ts values 0
starts ts values e = record { trees = ap (map tree) e; shallow = tt }

pub goes_on : (ts : List Tree) (values new : List Value) (value : Value) (k : ℕ) (y : Tree) → AtItem ts k y → Kept ts values k
    → new ≡ values ++ value ∷ [] → tree value ≡ y → (IsDeep y → ⊥) → Kept ts new (k + 1)
goes_on ts values new value k y at s e is shallow = record {
  trees = built_more values new value ts k y e s.trees is at.front;
  shallow = rw at.front (all_snoc IsShallow (take k ts) y s.shallow shallow);
}

-- a deep tree at a place is one of the trees
pub deep_at : (ts : List Tree) (k : ℕ) (y : Tree) → slice_get ts k ≡ Some y → IsDeep y → HasDeep ts
deep_at [] k y e h = absurd (let z : None ≡ Some y = sym (slice_get_past [] k (omega arith)) ∙ e in cc)
deep_at (t ∷ ts) zero y e h = let s : t ≡ y = cc in inl (subst IsDeep (sym s) h)
deep_at (t ∷ ts) (suc k) y e h = inr (deep_at ts k y e h)

none_deep : (ts : List Tree) → AllByRecursion IsShallow ts → HasDeep ts → ⊥
none_deep [] a h = h
none_deep (t ∷ ts) a (inl h) = a.0 h
none_deep (t ∷ ts) a (inr h) = none_deep ts a.1 h

-- all elements of a list were read
pub ends : (v : Tree) (values : List Value) (k : ℕ) → IsSome (as_array v) → length (elements_of v) ≤ k → Kept (elements_of v) values k
    → Suits Enum v × AreListed v values
ends v values k list le s =
    let all : take k (elements_of v) ≡ elements_of v = take_all k (elements_of v) le in
    let trees : map tree values ≡ elements_of v = s.trees ∙ all in (
      record {
        form = list;
        pattern = λ h. h;
        literal = λ h. h;
        not_deep =
            none_deep (elements_of v) (subst (λ (l : List Tree). AllByRecursion IsShallow l) all s.shallow);
      },
      λ d. (λ h. subst (IsOneOf d) trees h, λ h. subst (IsOneOf d) (sym trees) h),
    )

-- ---- looking through the values

-- an equal value at a place is one of the values
pub listed_at : (d : Tree) (values : List Value) (k : ℕ) (value : Value) → slice_get values k ≡ Some value → Same d (tree value)
    → IsListed d values
listed_at d [] k value e h = absurd (let z : None ≡ Some value = sym (slice_get_past [] k (omega arith)) ∙ e in cc)
listed_at d (v ∷ vs) zero value e h = let s : v ≡ value = cc in inl (subst (λ (u : Value). Same d (tree u)) (sym s) h)
listed_at d (v ∷ vs) (suc k) value e h = inr (listed_at d vs k value e h)

not_listed : (d : Tree) (values : List Value) (k : ℕ) (value : Value) → slice_get values k ≡ Some value
    → (IsListed d (take k values) → ⊥) → (Same d (tree value) → ⊥) → IsListed d (take (suc k) values) → ⊥
not_listed d [] k value e none other h = h
not_listed d (v ∷ vs) zero value e none other (inl h) = let s : v ≡ value = cc in other (subst (λ (u : Value). Same d (tree u)) s h)
not_listed d (v ∷ vs) zero value e none other (inr h) = h
not_listed d (v ∷ vs) (suc k) value e none other (inl h) = none (inl h)
not_listed d (v ∷ vs) (suc k) value e none other (inr h) = not_listed d vs k value e (λ g. none (inr g)) other h

-- where none of the first is equal, and the next is not, none of them is
pub not_yet : (d : Tree) (values : List Value) (k : ℕ) (value : Value) → slice_get values k ≡ Some value
    → (IsListed d (take k values) → ⊥) → (Same d (tree value) → ⊥) → IsListed d (take (k + 1) values) → ⊥
not_yet d values k value e none other =
    subst (λ (n : ℕ). IsListed d (take n values) → ⊥) (sym (add-one k)) (not_listed d values k value e none other)
