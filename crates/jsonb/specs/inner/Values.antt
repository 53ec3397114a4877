-- What bytes of a kind stand for, as it is computed, and which of that is JSON. A node is made only of bytes that were read
-- whole before, so that all of this is there.
use Rattle.std.specs.Prelude.{ℕ, zero, suc, List, [], ◌∷◌, Option, Some, None, Bool, true, false, not, ◌&&◌, ◌==◌, if◌then◌else◌, IsTrue, nat_lt, length, drop, ◌^◌, ◌≤◌}
use Rattle.json_model.specs.Tree.{null, boolean, number, string, Tree, scalar, array, object, Members}
use Rattle.json_model.specs.Parts.{pairs_in}
use Rattle.jsonb_layout.specs.Options.{◌>>=◌}
use Rattle.jsonb_layout.specs.inner.Reading.{Place, numeric_of, item_at, keys_at}
use Rattle.jsonb_layout.specs.Layout.{pad}
use Rattle.jsonb_layout.specs.inner.Trees.{read, elements_by, members}
use Rattle.jsonb.specs.Found.{tree_found, members_found}
use Rattle.jsonb.specs.declared.found.Found.{Found}
use Rattle.jsonb.specs.declared.kind.Kind.{Kind}
use Rattle.jsonb.specs.declared.kind.Kind.TheVariants as kinds
use Rattle.jsonb_layout.specs.declared.form.Form.{Form}
use Rattle.jsonb_layout.specs.declared.form.Form.TheVariants.{Array, Object, Lone}

-- the tree that bytes of a kind stand for
abbrev pub value_of : Kind → List ℕ → Option Tree
value_of kinds.String b = Some (scalar (string b))
value_of kinds.Number b = numeric_of b >>= λ d. Some (scalar (number d))
value_of kinds.False b = Some (scalar (boolean false))
value_of kinds.True b = Some (scalar (boolean true))
value_of kinds.Null b = Some (scalar null)
value_of kinds.Container b = read b

abbrev pub or_null : Option Tree → Tree
or_null None = scalar null
or_null (Some t) = t

-- ---- what is JSON

abbrev pub is_clean : Found → Bool
is_clean f = not f.not_text && not f.wide

abbrev pub is_json_tree : Option Tree → Bool
is_json_tree None = false
is_json_tree (Some t) = is_clean (tree_found t)

abbrev pub IsJsonTree : Option Tree → Type 0
IsJsonTree r = IsTrue (is_json_tree r)

-- a number's bytes are fewer than 2 ^ 28
abbrev pub is_short : Kind → List ℕ → Bool
is_short kinds.Number b = nat_lt (length b) (2 ^ 28)
is_short _ b = true

-- ---- items

-- the number of a kind in an entry word (PostgreSQL, `jsonb.h`: JENTRY_ISSTRING, JENTRY_ISNUMERIC and so on)
abbrev pub kind_number : Kind → ℕ
kind_number kinds.String = 0
kind_number kinds.Number = 1
kind_number kinds.False = 2
kind_number kinds.True = 3
kind_number kinds.Null = 4
kind_number kinds.Container = 5

abbrev pub kind_of : ℕ → Option Kind
kind_of n =
    if n == 0 then Some kinds.String else
    if n == 1 then Some kinds.Number else
    if n == 2 then Some kinds.False else
    if n == 3 then Some kinds.True else
    if n == 4 then Some kinds.Null else
    if n == 5 then Some kinds.Container else
    None

-- a piece of a kind without its padding
abbrev pub own_of : Kind → ℕ → List ℕ → List ℕ
own_of kinds.String at p = p
own_of kinds.Number at p = drop (pad at) p
own_of kinds.False at p = p
own_of kinds.True at p = p
own_of kinds.Null at p = p
own_of kinds.Container at p = drop (pad at) p

-- a piece of a kind is at least as long as its padding
abbrev pub HasPad : Kind → ℕ → List ℕ → Type 0
HasPad kinds.String at p = Unit {0}
HasPad kinds.Number at p = pad at ≤ length p
HasPad kinds.False at p = Unit {0}
HasPad kinds.True at p = Unit {0}
HasPad kinds.Null at p = Unit {0}
HasPad kinds.Container at p = pad at ≤ length p

-- ---- arrays and objects

-- whether a header word is that of an object
abbrev pub says_object : Option (Form × ℕ) → Bool
says_object None = false
says_object (Some (Array, count)) = false
says_object (Some (Object, count)) = true
says_object (Some (Lone, count)) = false

-- the tree of an array of so many elements from a place on
abbrev pub array_at : ℕ → Place → Option Tree
array_at n p = elements_by read n p >>= λ r. Some (array r.0)

-- the tree of an object of so many members, whose keys begin at a place and whose values come behind them
abbrev pub object_at : ℕ → Place → Option Tree
object_at n p = keys_at n None p >>= λ k. elements_by read n k.1 >>= λ r. Some (object (members k.0 r.0))

-- ---- members, one after the other

abbrev pub or_no_pairs : Option (List (List ℕ × Tree)) → List (List ℕ × Tree)
or_no_pairs None = []
or_no_pairs (Some ps) = ps

-- the pieces of so many items from a place on, and where they end
unfoldable pub names_at : ℕ → Place → Option (List (List ℕ) × Place)
names_at zero p = Some ([], p)
names_at (suc n) p = do
  x ← item_at p
  ks ← names_at n x.1
  Some (x.0.piece ∷ ks.0, ks.1)

-- the members of so many names at one place and values at another
abbrev pub members_at : ℕ → Place → Place → Option Members
members_at n p q = names_at n p >>= λ k. elements_by read n q >>= λ r. Some (members k.0 r.0)

abbrev pub are_json_members : Option Members → Bool
are_json_members None = false
are_json_members (Some ms) = is_clean (members_found ms)

abbrev pub AreJsonMembers : Option Members → Type 0
AreJsonMembers r = IsTrue (are_json_members r)

abbrev pub pairs_at : ℕ → Place → Place → List (List ℕ × Tree)
pairs_at n p q = or_no_pairs (members_at n p q >>= λ ms. Some (pairs_in ms))

-- past so many items
unfoldable pub skip : ℕ → Place → Option Place
skip zero p = Some p
skip (suc n) p = item_at p >>= λ x. skip n x.1
