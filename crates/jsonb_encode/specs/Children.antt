-- An array whose elements are containers that are given by their bytes (PostgreSQL, `jsonb.h`).
use Rattle.std.specs.Prelude.{◌≡◌, ℕ, ◌+◌, List, [], ◌∷◌, ◌++◌, length}
use Rattle.json_model.specs.Tree.{Scalar, Tree, scalar, Elements, no_elements, element}
use Rattle.jsonb_layout.specs.Layout.{Item}
use Rattle.jsonb_layout.specs.Stands.{padding, Stands}

-- the item of a container at a place of a payload
abbrev pub child_item : List ℕ → ℕ → Item
child_item c at = record { kind = 5; piece = padding at ++ c }

-- the items of containers from a place on
abbrev pub child_items : List (List ℕ) → ℕ → List Item
child_items [] at = []
child_items (c ∷ cs) at = child_item c at ∷ child_items cs (at + length (child_item c at).piece)

-- the bytes stand for a tree that is an array or an object, and no scalar
abbrev pub StandsAsContainer : Tree → List ℕ → Type 0
StandsAsContainer t c = Stands c t × ((s : Scalar) → t ≡ scalar s → ⊥)

-- containers stand for trees, each for the one of its number
abbrev pub AreContainers : Elements → List (List ℕ) → Type 0
AreContainers no_elements [] = Unit {0}
AreContainers no_elements (c ∷ cs) = ⊥
AreContainers (element t ts) [] = ⊥
AreContainers (element t ts) (c ∷ cs) = StandsAsContainer t c × AreContainers ts cs
