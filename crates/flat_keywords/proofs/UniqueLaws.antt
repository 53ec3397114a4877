-- Whether the elements of an array are unique is decided, and equal documents have it alike.
use Rattle.std.proofs.Common.{inl, inr, ℕ, zero, suc, List, [], ◌∷◌, arith}
use Rattle.std.specs.Prelude.{IfSome, IsSomeAnd, slice_get}
use Rattle.std.specs.List.{AllByRecursion}
use Rattle.json_model.specs.Parts.{as_array, trees_in}
use Rattle.json_model.specs.Rising.{KeysRise, KeysRiseInElements}
use Rattle.json_model.specs.Same.{IsUnique, Same, SameElements}
use Rattle.json_model.specs.Tree.{Tree, scalar, array, object, Elements, no_elements, element}
use Rattle.json_semantics.proofs.EquivalenceLaws.{same_chain, same_turned}
use Rattle.literal_patterns.proofs.DecidedPatterns.{Decided}
use Rattle.flat_keywords.proofs.Decided.{decided_all, decided_not}
use Rattle.flat_keywords.proofs.DecidedSame.{decided_same}

-- ---- a list with one element more

-- the tree is none of the others
abbrev IsNoneOf : Tree → List Tree → Type 0
IsNoneOf t ts = AllByRecursion (λ u. Same t u → ⊥) ts

-- none of the others is at any place
none_at : (t : Tree) (ts : List Tree) (j : ℕ) → IsNoneOf t ts → IsSomeAnd (slice_get ts j) (λ u. Same t u) → ⊥
none_at t [] j h s = s
none_at t (u ∷ ts) zero h s = h.0 s
none_at t (u ∷ ts) (suc j) h s = none_at t ts j h.1 s

at_none : (t : Tree) (ts : List Tree) → ((j : ℕ) → IsSomeAnd (slice_get ts j) (λ u. Same t u) → ⊥) → IsNoneOf t ts
at_none t [] h = tt
at_none t (u ∷ ts) h = (h 0, at_none t ts (λ j. h (suc j)))

unique_more : (t : Tree) (ts : List Tree) → IsNoneOf t ts → IsUnique ts → IsUnique (t ∷ ts)
unique_more t ts none unique zero zero lt s = absurd (omega (arith, lt))
unique_more t ts none unique zero (suc j) lt s = none_at t ts j none s
unique_more t ts none unique (suc i) zero lt s = absurd (omega (arith, lt))
unique_more t ts none unique (suc i) (suc j) lt s = unique i j (omega (arith, lt)) s

unique_first : (t : Tree) (ts : List Tree) → IsUnique (t ∷ ts) → IsNoneOf t ts
unique_first t ts unique = at_none t ts (λ j s. unique 0 (suc j) (omega arith) s)

unique_rest : (t : Tree) (ts : List Tree) → IsUnique (t ∷ ts) → IsUnique ts
unique_rest t ts unique i j lt s = unique (suc i) (suc j) (omega (arith, lt)) s

-- ---- it is decided

pub decided_unique : (ts : List Tree) → Decided (IsUnique ts)
decided_unique [] = inl (λ i j lt s. s)
decided_unique (t ∷ ts) = go (decided_all (λ u. Same t u → ⊥) (λ u. decided_not (decided_same t u)) ts) (decided_unique ts)
  where
    go : Decided (IsNoneOf t ts) → Decided (IsUnique ts) → Decided (IsUnique (t ∷ ts))
    go (inl none) (inl unique) = inl (unique_more t ts none unique)
    go (inl none) (inr n) = inr (λ h. n (unique_rest t ts h))
    go (inr n) d = inr (λ h. n (unique_first t ts h))

-- ---- equal documents

-- a tree that is none of the first elements is none of equal ones
none_on : (t u : Tree) (ts us : Elements) → KeysRise t → KeysRise u → KeysRiseInElements ts → KeysRiseInElements us → Same t u → SameElements ts us
    → IsNoneOf t (trees_in ts) → IsNoneOf u (trees_in us)
none_on t u no_elements no_elements e f g h s r none = tt
none_on t u no_elements (element y us) e f g h s r none = absurd r
none_on t u (element x ts) no_elements e f g h s r none = absurd r
none_on t u (element x ts) (element y us) e f g h s r none = (
  λ equal. none.0 (same_chain t u x e f g.0 s (same_chain u y x f h.0 g.0 equal (same_turned x y g.0 h.0 r.0))),
  none_on t u ts us e f g.1 h.1 s r.1 none.1,
)

elements_on : (ts us : Elements) → KeysRiseInElements ts → KeysRiseInElements us → SameElements ts us
    → IsUnique (trees_in ts) → IsUnique (trees_in us)
elements_on no_elements no_elements g h r unique = unique
elements_on no_elements (element y us) g h r unique = absurd r
elements_on (element x ts) no_elements g h r unique = absurd r
elements_on (element x ts) (element y us) g h r unique =
    unique_more y (trees_in us) (none_on x y ts us g.0 h.0 g.1 h.1 r.0 r.1 (unique_first x (trees_in ts) unique))
    (elements_on ts us g.1 h.1 r.1 (unique_rest x (trees_in ts) unique))

-- the elements of a document are unique where those of an equal one are
pub unique_on : (d e : Tree) → KeysRise d → KeysRise e → Same d e → IfSome (as_array d) IsUnique → IfSome (as_array e) IsUnique
unique_on (scalar a) (scalar b) f g s h = tt
unique_on (scalar a) (array us) f g s h = absurd s
unique_on (scalar a) (object ns) f g s h = tt
unique_on (array ts) (scalar b) f g s h = tt
unique_on (array ts) (array us) f g s h = elements_on ts us f g s h
unique_on (array ts) (object ns) f g s h = tt
unique_on (object ms) (scalar b) f g s h = tt
unique_on (object ms) (array us) f g s h = absurd s
unique_on (object ms) (object ns) f g s h = tt
