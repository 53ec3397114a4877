-- What a tree is made of: the words that read it. They are this project's own names for the values of RFC 8259, section 3.
use Rattle.std.specs.Prelude.{ℕ, List, [], ◌∷◌, Bool, true, false, Option, Some, None, unwrap_or, option_map, is_some, bytes_eq, if◌then◌else◌}
use Rattle.std.specs.Str.{chars}
use Rattle.json_model.specs.Decimal.{Decimal}
use Rattle.json_model.specs.Tree.{null, boolean, number, string, Tree, scalar, array, object, Elements, no_elements, element, Members, no_members, member}

-- the trees of an array, in order
abbrev pub trees_in : Elements → List Tree
trees_in no_elements = []
trees_in (element t ts) = t ∷ trees_in ts

-- the pairs of an object, in order
abbrev pub pairs_in : Members → List (List ℕ × Tree)
pairs_in no_members = []
pairs_in (member k t ms) = (k, t) ∷ pairs_in ms

abbrev pub elements_from : List Tree → Elements
elements_from [] = no_elements
elements_from (t ∷ ts) = element t (elements_from ts)

abbrev pub members_from : List (List ℕ × Tree) → Members
members_from [] = no_members
members_from (p ∷ ps) = member p.0 p.1 (members_from ps)

abbrev pub as_array : Tree → Option (List Tree)
as_array (scalar s) = None
as_array (array ts) = Some (trees_in ts)
as_array (object ms) = None

abbrev pub as_object : Tree → Option (List (List ℕ × Tree))
as_object (scalar s) = None
as_object (array ts) = None
as_object (object ms) = Some (pairs_in ms)

abbrev pub as_number : Tree → Option Decimal
as_number (scalar null) = None
as_number (scalar (boolean b)) = None
as_number (scalar (number d)) = Some d
as_number (scalar (string s)) = None
as_number (array ts) = None
as_number (object ms) = None

abbrev pub as_string : Tree → Option (List ℕ)
as_string (scalar null) = None
as_string (scalar (boolean b)) = None
as_string (scalar (number d)) = None
as_string (scalar (string s)) = Some s
as_string (array ts) = None
as_string (object ms) = None

abbrev pub as_boolean : Tree → Option Bool
as_boolean (scalar null) = None
as_boolean (scalar (boolean b)) = Some b
as_boolean (scalar (number d)) = None
as_boolean (scalar (string s)) = None
as_boolean (array ts) = None
as_boolean (object ms) = None

abbrev pub is_null : Tree → Bool
is_null (scalar null) = true
is_null (scalar (boolean b)) = false
is_null (scalar (number d)) = false
is_null (scalar (string s)) = false
is_null (array ts) = false
is_null (object ms) = false

abbrev pub is_number : Tree → Bool
is_number t = is_some (as_number t)

abbrev pub is_string : Tree → Bool
is_string t = is_some (as_string t)

-- what stands under a key
abbrev pub lookup : {A : Type 0} → List ℕ → List (List ℕ × A) → Option A
lookup k [] = None
lookup k (p ∷ ps) = if bytes_eq k p.0 then Some p.1 else lookup k ps

abbrev pub pairs_of : Tree → List (List ℕ × Tree)
pairs_of t = unwrap_or (as_object t) []

abbrev pub elements_of : Tree → List Tree
elements_of t = unwrap_or (as_array t) []

-- the code points of a string's bytes: the list that decoding UTF-8 gives (RFC 3629)
abbrev pub points : List ℕ → List ℕ
points s = chars s

-- the tree itself, where it is of the kind
abbrev pub if_object : Tree → Option Tree
if_object t = option_map (λ _. t) (as_object t)

abbrev pub if_array : Tree → Option Tree
if_array t = option_map (λ _. t) (as_array t)

abbrev pub if_number : Tree → Option Tree
if_number t = option_map (λ _. t) (as_number t)
