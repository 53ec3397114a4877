-- Which bytes are canonical for which tree: the layout's grammar (PostgreSQL, `jsonb.h`) with each number in the one form that
-- PostgreSQL stores (`numeric.c`: `make_result`). The grammar allows a number other forms too, and nothing else any choice.
-- A tree has canonical bytes where its keys rise, each number is in range, and each container is within the limits of the layout.
use Rattle.std.specs.Prelude.{◌≡◌, ℕ, ◌+◌, List, [], ◌∷◌, length, if◌then◌else◌}
use Rattle.std.specs.List.{AllByRecursion}
use Rattle.json_model.specs.Decimal.{Decimal}
use Rattle.json_model.specs.Tree.{Scalar, null, boolean, number, string, Tree, scalar, array, object, Elements, no_elements, element, Members, no_members, member, keys}
use Rattle.json_exact.specs.Parsed.{IsInRange}
use Rattle.jsonb_layout.specs.Layout.{Item, Laid}
use Rattle.jsonb_layout.specs.Seats.{Seat}
use Rattle.jsonb_layout.specs.Stands.{IsPadded, IsArray, IsObject}
use Rattle.jsonb_layout.specs.declared.form.Form.TheVariants.{Lone}
use Rattle.jsonb_encode.specs.Number.{numeric}
use Rattle.jsonb_encode.specs.declared.number_form.NumericForm.TheVariants.{Short}

-- The bytes are the number in the form `Short`, which has room for its weight and its fraction digits: it is below 10 ^ 131072, with at
-- most 16383 of them.
abbrev pub IsCanonicalNumber : Decimal → List ℕ → Type 0
IsCanonicalNumber d q = IsInRange d × (q ≡ numeric Short d)

-- An item at a place is canonical for a scalar.
abbrev pub IsCanonicalScalar : Scalar → ℕ → Item → Type 0
IsCanonicalScalar (string s) at x = (x.kind ≡ 0) × (x.piece ≡ s)
IsCanonicalScalar (number d) at x = (x.kind ≡ 1) × IsPadded (IsCanonicalNumber d) at x.piece
IsCanonicalScalar (boolean b) at x = (x.kind ≡ (if b then 3 else 2)) × (x.piece ≡ [])
IsCanonicalScalar null at x = (x.kind ≡ 4) × (x.piece ≡ [])

abbrev mutual
  -- An item at a place is canonical for a tree.
  pub IsCanonicalItem : Tree → ℕ → Item → Type 0
  IsCanonicalItem (scalar s) at x = IsCanonicalScalar s at x
  IsCanonicalItem (array ts) at x = (x.kind ≡ 5) × IsPadded (IsArray (AreCanonicalElements ts)) at x.piece
  IsCanonicalItem (object ms) at x = (x.kind ≡ 5) × IsPadded (IsObject (keys ms) (AreCanonicalValues ms)) at x.piece

  -- Items from a place on are canonical for trees, each for the one of its number.
  pub AreCanonicalElements : Elements → ℕ → List Item → Type 0
  AreCanonicalElements no_elements at [] = Unit {0}
  AreCanonicalElements no_elements at (x ∷ xs) = ⊥
  AreCanonicalElements (element t ts) at [] = ⊥
  AreCanonicalElements (element t ts) at (x ∷ xs) = IsCanonicalItem t at x × AreCanonicalElements ts (at + length x.piece) xs

  pub AreCanonicalValues : Members → ℕ → List Item → Type 0
  AreCanonicalValues no_members at [] = Unit {0}
  AreCanonicalValues no_members at (x ∷ xs) = ⊥
  AreCanonicalValues (member k t ms) at [] = ⊥
  AreCanonicalValues (member k t ms) at (x ∷ xs) = IsCanonicalItem t at x × AreCanonicalValues ms (at + length x.piece) xs

-- The bytes are canonical for the tree, all of them.
abbrev pub IsCanonical : List ℕ → Tree → Type 0
IsCanonical b (scalar s) = (x : Item) × Laid b Lone (x ∷ []) × IsCanonicalScalar s 0 x
IsCanonical b (array ts) = IsArray (AreCanonicalElements ts) b
IsCanonical b (object ms) = IsObject (keys ms) (AreCanonicalValues ms) b

-- ---- a value that lies in a slice

-- The own bytes of a value are canonical for the tree: as an item they have no padding.
abbrev pub SeatIsCanonical : Seat → Tree → Type 0
SeatIsCanonical s t = IsCanonicalItem t 0 (record { kind = s.kind; piece = s.bytes })

-- They are canonical for some tree, which is the one that they stand for.
abbrev pub HasCanonicalBytes : Seat → Type 0
HasCanonicalBytes s = (t : Tree) × SeatIsCanonical s t

abbrev pub AllHaveCanonicalBytes : List Seat → Type 0
AllHaveCanonicalBytes cs = AllByRecursion HasCanonicalBytes cs
