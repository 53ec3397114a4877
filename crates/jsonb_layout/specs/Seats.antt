-- Where the values of a slice lie in it (PostgreSQL, `jsonb.h`: `JsonbContainer`, `JEntry`), and the two numbers that tell one
-- from another, which are this project's own.
use Rattle.std.specs.Prelude.{◌≡◌, ℕ, ◌+◌, ◌-◌, ◌*◌, ◌%◌, ◌^◌, List, [], ◌∷◌, ◌++◌, length, drop, slice_get, Option, Some, Bool, ◌==◌, ◌||◌, if◌then◌else◌}
use Rattle.json_model.specs.Parts.{trees_in}
use Rattle.json_model.specs.Tree.{Tree, scalar, array, object, values}
use Rattle.jsonb_layout.specs.Layout.{Item, pieces, Laid, pad}
use Rattle.jsonb_layout.specs.declared.form.Form.{Form}
use Rattle.jsonb_layout.specs.declared.form.Form.TheVariants.{Array, Object, Lone}
use Rattle.jsonb_layout.specs.Options.{◌>>=◌}
use Rattle.jsonb_layout.specs.Stands.{IsItem}

-- ---- the places of a tree

-- the trees in a tree: the elements of an array, or the members' values of an object
abbrev pub trees_of : Tree → List Tree
trees_of (scalar s) = []
trees_of (array ts) = trees_in ts
trees_of (object ms) = trees_in (values ms)

-- The way to a place of a tree is the number of a tree in it, then of one in that, and so on. The whole tree is at the
-- empty way.
abbrev pub tree_at : List ℕ → Tree → Option Tree
tree_at [] t = Some t
tree_at (i ∷ is) t = slice_get (trees_of t) i >>= tree_at is

-- ---- where a value lies

-- A value in a slice: where it is, its kind, and its own bytes, without padding.
pub record Seat : Type 0 where
  pub at : ℕ
  pub kind : ℕ
  pub bytes : List ℕ

-- the two numbers that tell it from every other value of the slice
abbrev pub pair_of : Seat → ℕ × ℕ
pair_of s = (s.at, s.kind * 2 ^ 28 + length s.bytes % 2 ^ 28)

-- numbers and containers have padding
abbrev pub is_padded : ℕ → Bool
is_padded kind = kind == 1 || kind == 5

-- the own bytes of an item whose piece is at a place of the payload
abbrev pub own_bytes : ℕ → Item → List ℕ
own_bytes at x = if is_padded x.kind then drop (pad at) x.piece else x.piece

-- A value is where its own bytes begin, and one without bytes where its entry word is.
abbrev pub where_it_is : List ℕ → ℕ → ℕ → ℕ
where_it_is own word begin = if length own == 0 then word else begin

-- The seat of an item, with these items before it, of the n items of a container that begins at `start`.
abbrev pub item_seat : ℕ → ℕ → List Item → Item → Seat
item_seat start n before x =
    let at = length (pieces before) in
    let own = own_bytes at x in
    record {
      at = where_it_is own (start + 4 + 4 * length before) (start + 4 + 4 * n + at + (length x.piece - length own));
      kind = x.kind;
      bytes = own;
    }

-- ---- values in values

-- Each item of an array is a value. In an object the values come behind as many keys.
abbrev pub AreKeys : Form → List Item → List Item → Type 0
AreKeys Array keys xs = keys ≡ []
AreKeys Object keys xs = length keys ≡ length xs
AreKeys Lone keys xs = ⊥

-- An array or object at s holds value number i at c.
pub record Holds (s : Seat) (i : ℕ) (c : Seat) : Type 0 where
  pub form : Form
  pub keys : List Item
  pub before : List Item
  pub item : Item
  pub after : List Item
  pub container : s.kind ≡ 5
  pub laid : Laid s.bytes form (keys ++ (before ++ item ∷ after))
  pub values : AreKeys form keys (before ++ item ∷ after)
  pub number : length before ≡ i
  pub seat : c ≡ item_seat s.at (length (keys ++ (before ++ item ∷ after))) (keys ++ before) item

abbrev pub AreHeld : Seat → List Seat → Type 0
AreHeld s cs = (i : ℕ) (c : Seat) → slice_get cs i ≡ Some c → Holds s i c

-- from s the way leads to c
abbrev pub Leads : List ℕ → Seat → Seat → Type 0
Leads [] s c = s ≡ c
Leads (i ∷ is) s c = (m : Seat) × Holds s i m × Leads is m c

-- ---- the whole

-- An array or object is the whole slice, and has no entry word. A root scalar is the one item of its container, which is
-- never without one.
abbrev pub root_seat : List ℕ → Form → List Item → Seat
root_seat b Array xs = record { at = 0; kind = 5; bytes = b }
root_seat b Object xs = record { at = 0; kind = 5; bytes = b }
root_seat b Lone [] = record { at = 0; kind = 5; bytes = b }
root_seat b Lone (x ∷ xs) = item_seat 0 1 [] x

abbrev pub IsRoot : List ℕ → Seat → Type 0
IsRoot b s = (form : Form) × (items : List Item) × Laid b form items × (s ≡ root_seat b form items)

-- In the slice, the value at this place of the tree lies at s.
abbrev pub IsSeat : List ℕ → List ℕ → Seat → Type 0
IsSeat b way s = (r : Seat) × IsRoot b r × Leads way r s

-- The own bytes of a value stand for the tree: as an item they have no padding.
abbrev pub SeatStands : Seat → Tree → Type 0
SeatStands s t = IsItem t 0 (record { kind = s.kind; piece = s.bytes })
