-- Which bytes stand for which tree: the grammar of `jsonb` (PostgreSQL, `jsonb.h`), over the whole slice. That a root
-- scalar is no container is this project's own.
use Rattle.std.specs.Prelude.{◌≡◌, ℕ, ◌+◌, IsTrue, List, [], ◌∷◌, ◌++◌, length, replicate, map, if◌then◌else◌}
use Rattle.json_model.specs.Tree.{Scalar, null, boolean, number, string, Tree, scalar, array, object, Elements, no_elements, element, Members, no_members, member, keys}
use Rattle.json_model.specs.Keys.{rises}
use Rattle.jsonb_layout.specs.Numeric.{Numeric}
use Rattle.jsonb_layout.specs.Layout.{Item, pieces, Laid, pad}
use Rattle.jsonb_layout.specs.declared.form.Form.TheVariants.{Array, Object, Lone}

-- the zero bytes that bring a place to a multiple of four
abbrev pub padding : ℕ → List ℕ
padding at = replicate (pad at) 0

abbrev pub IsPadded : (List ℕ → Type 0) → ℕ → List ℕ → Type 0
IsPadded P at piece = (q : List ℕ) × (piece ≡ padding at ++ q) × P q

-- An item at a place stands for a scalar.
abbrev pub IsScalar : Scalar → ℕ → Item → Type 0
IsScalar (string s) at x = (x.kind ≡ 0) × (x.piece ≡ s)
IsScalar (number d) at x = (x.kind ≡ 1) × IsPadded (λ q. Numeric q d) at x.piece
IsScalar (boolean b) at x = (x.kind ≡ (if b then 3 else 2)) × (x.piece ≡ [])
IsScalar null at x = (x.kind ≡ 4) × (x.piece ≡ [])

abbrev pub key_item : List ℕ → Item
key_item k = record { kind = 0; piece = k }

-- An array's items from place 0 on are Placed.
abbrev pub IsArray : (ℕ → List Item → Type 0) → List ℕ → Type 0
IsArray Placed b = (items : List Item) × Laid b Array items × Placed 0 items

-- An object's keys come first and rise. The other items, from the end of the keys on, are Placed.
abbrev pub IsObject : List (List ℕ) → (ℕ → List Item → Type 0) → List ℕ → Type 0
IsObject ks Placed b =
    (items : List Item) × Laid b Object (map key_item ks ++ items) × IsTrue (rises ks) × Placed (length (pieces (map key_item ks))) items

abbrev mutual
  -- An item at a place stands for a tree.
  pub IsItem : Tree → ℕ → Item → Type 0
  IsItem (scalar s) at x = IsScalar s at x
  IsItem (array ts) at x = (x.kind ≡ 5) × IsPadded (IsArray (AreElements ts)) at x.piece
  IsItem (object ms) at x = (x.kind ≡ 5) × IsPadded (IsObject (keys ms) (AreValues ms)) at x.piece

  -- Items from a place on stand for trees, each for the one of its number.
  pub AreElements : Elements → ℕ → List Item → Type 0
  AreElements no_elements at [] = Unit {0}
  AreElements no_elements at (x ∷ xs) = ⊥
  AreElements (element t ts) at [] = ⊥
  AreElements (element t ts) at (x ∷ xs) = IsItem t at x × AreElements ts (at + length x.piece) xs

  pub AreValues : Members → ℕ → List Item → Type 0
  AreValues no_members at [] = Unit {0}
  AreValues no_members at (x ∷ xs) = ⊥
  AreValues (member k t ms) at [] = ⊥
  AreValues (member k t ms) at (x ∷ xs) = IsItem t at x × AreValues ms (at + length x.piece) xs

-- The bytes stand for the tree, all of them.
abbrev pub Stands : List ℕ → Tree → Type 0
Stands b (scalar s) = (x : Item) × Laid b Lone (x ∷ []) × IsScalar s 0 x
Stands b (array ts) = IsArray (AreElements ts) b
Stands b (object ms) = IsObject (keys ms) (AreValues ms) b
