-- The bytes of a tree: the layout's containers and items (PostgreSQL, `jsonb.h`), with numbers in one form. In the form `Short`
-- they are the canonical bytes of the tree, which PostgreSQL stores where it takes the tree: it refuses a text with the character NUL.
use Rattle.std.specs.Prelude.{ℕ, ◌+◌, ◌*◌, ◌^◌, List, [], ◌∷◌, ◌++◌, length, map, if◌then◌else◌}
use Rattle.json_model.specs.Tree.{Scalar, null, boolean, number, string, Tree, scalar, array, object, Elements, no_elements, element, Members, no_members, member, keys}
use Rattle.jsonb_layout.specs.Layout.{Item, pieces, entries, words, flags}
use Rattle.jsonb_layout.specs.Stands.{padding, key_item}
use Rattle.jsonb_layout.specs.declared.form.Form.{Form}
use Rattle.jsonb_layout.specs.declared.form.Form.TheVariants.{Array, Object, Lone}
use Rattle.jsonb_encode.specs.Number.{numeric}
use Rattle.jsonb_encode.specs.declared.number_form.NumericForm.{NumericForm}
use Rattle.jsonb_encode.specs.declared.number_form.NumericForm.TheVariants.{Short}

-- the header word, the entry words, and the pieces
abbrev pub container : Form → ℕ → List Item → List ℕ
container form count items = words ((flags form * 2 ^ 28 + count) ∷ entries 0 0 items) ++ pieces items

-- the item of a scalar at a place of a payload
abbrev pub scalar_item : NumericForm → Scalar → ℕ → Item
scalar_item f (string s) at = record { kind = 0; piece = s }
scalar_item f (number d) at = record { kind = 1; piece = padding at ++ numeric f d }
scalar_item f (boolean b) at = record { kind = if b then 3 else 2; piece = [] }
scalar_item f null at = record { kind = 4; piece = [] }

-- the keys of an object as items, and how many bytes they have
abbrev pub key_items : Members → List Item
key_items ms = map key_item (keys ms)

abbrev pub key_bytes : Members → ℕ
key_bytes ms = length (pieces (key_items ms))

abbrev pub count_elements : Elements → ℕ
count_elements no_elements = 0
count_elements (element t ts) = 1 + count_elements ts

abbrev pub count_members : Members → ℕ
count_members no_members = 0
count_members (member k t ms) = 1 + count_members ms

unfoldable mutual
  -- the item of a tree at a place of a payload
  pub item : NumericForm → Tree → ℕ → Item
  item f (scalar s) at = scalar_item f s at
  item f (array ts) at = record { kind = 5; piece = padding at ++ container Array (count_elements ts) (element_items f ts 0) }
  item f (object ms) at =
      record { kind = 5; piece = padding at ++ container Object (count_members ms) (key_items ms ++ value_items f ms (key_bytes ms)) }

  -- the items of trees from a place on
  pub element_items : NumericForm → Elements → ℕ → List Item
  element_items f no_elements at = []
  element_items f (element t ts) at = item f t at ∷ element_items f ts (at + length (item f t at).piece)

  pub value_items : NumericForm → Members → ℕ → List Item
  value_items f no_members at = []
  value_items f (member k t ms) at = item f t at ∷ value_items f ms (at + length (item f t at).piece)

-- all items of an array, and of an object: its keys and then its values
abbrev pub array_items : NumericForm → Elements → List Item
array_items f ts = element_items f ts 0

abbrev pub object_items : NumericForm → Members → List Item
object_items f ms = key_items ms ++ value_items f ms (key_bytes ms)

-- the bytes of a tree in a form
unfoldable pub encoded : NumericForm → Tree → List ℕ
encoded f (scalar s) = container Lone 1 (scalar_item f s 0 ∷ [])
encoded f (array ts) = container Array (count_elements ts) (array_items f ts)
encoded f (object ms) = container Object (count_members ms) (object_items f ms)

-- the one byte string of a tree's canonical form
abbrev pub canonical : Tree → List ℕ
canonical t = encoded Short t
