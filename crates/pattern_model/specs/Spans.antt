-- Where tokens and class items stand in a text, in bytes of its UTF-8 (RFC 3629). This project's own.
use Rattle.std.specs.Prelude.{◌≡◌, ℕ, ◌+◌, Bool, true, List, [], ◌∷◌, ◌++◌, ◌⊎◌, drop, length, Some}
use lib.Utf8.{encodes}
use Rattle.pattern_model.specs.Text.{Text, is_at}
use Rattle.pattern_model.specs.Tree.{Item, Token}
use Rattle.pattern_model.specs.Classes.{Atom, class_atom, item_of_atom, range_of}
use Rattle.pattern_model.specs.Tokens.{token_from}

-- so many bytes stand in x before y, with which it ends
abbrev pub IsAfter : Text → ℕ → Text → Type 0
IsAfter x at y = (front : Text) × (x ≡ front ++ y) × (at ≡ length (encodes front))

-- a token stands in a text from one place to another
pub record TokenStands (wide : Bool) (x : Text) (start : ℕ) (t : Token) (end : ℕ) : Type 0 where
  pub first : ℕ
  pub after : Text
  pub rest : Text
  pub starts : IsAfter x start (first ∷ after)
  pub read : token_from wide first after ≡ Some (t, rest)
  pub ends : IsAfter x end rest

-- an item of a class, from one place to another
pub record PlacedItem : Type 0 where
  pub item : Item
  pub start : ℕ
  pub end : ℕ

-- one atom, which the first text begins with and the second follows
pub record ReadsAtom (x : Text) (i : Item) (y : Text) : Type 0 where
  pub atom : Atom
  pub read : class_atom x ≡ Some (atom, y)
  pub is : item_of_atom atom ≡ i

-- two atoms with a hyphen between them
pub record ReadsRange (x : Text) (i : Item) (y : Text) : Type 0 where
  pub first : Atom
  pub last : Atom
  pub rest : Text
  pub begins : class_atom x ≡ Some (first, rest)
  pub hyphen : is_at 45 rest ≡ true
  pub ends : class_atom (drop 1 rest) ≡ Some (last, y)
  pub is : range_of first last ≡ Some i

-- an item is read from the beginning of a text, up to another
abbrev pub ReadsItem : Text → Item → Text → Type 0
ReadsItem x i y = ReadsAtom x i y ⊎ ReadsRange x i y

-- an item stands in a text where its place says
pub record ItemStands (x : Text) (p : PlacedItem) : Type 0 where
  pub first : Text
  pub rest : Text
  pub starts : IsAfter x p.start first
  pub read : ReadsItem first p.item rest
  pub ends : IsAfter x p.end rest

-- items stand side by side, from one place to another
abbrev pub ItemsStand : Text → ℕ → List PlacedItem → ℕ → Type 0
ItemsStand x start [] end = start ≡ end
ItemsStand x start (p ∷ ps) end = (p.start ≡ start) × ItemStands x p × ItemsStand x p.end ps end

-- the same, of a text that is read from a place on: items are read up to another text and place, each of so many bytes
abbrev pub ItemsRead : Text → ℕ → List PlacedItem → Text → ℕ → Type 0
ItemsRead x a [] y b = (x ≡ y) × (a ≡ b)
ItemsRead x a (p ∷ ps) y b =
    (p.start ≡ a) × ((z : Text) × ReadsItem x p.item z × (p.end + length (encodes z) ≡ a + length (encodes x)) × ItemsRead z p.end ps y b)
