-- The document that a representation of JSON is tried on, and the rules that each node of it keeps. This project's own.
use Rattle.std.specs.Prelude.{◌≡◌, ℕ, true, pos, List, [], ◌∷◌, ◌++◌, map, length, Option, Some, None, IsSome, IsSomeAnd, Result, Ok, Err, MatchOption, codes, ⊤}
use Rattle.std.specs.List.{AllByRecursion}
use Rattle.std.specs.Str.{encode_utf8_all}
use Rattle.json_model.specs.Parts.{as_object, elements_from, elements_of, lookup, members_from, pairs_of}
use Rattle.json_model.specs.Same.{IsUnique, Same}
use Rattle.json_model.specs.Tree.{Tree, null, boolean, number, string, scalar, array, object}
use Rattle.json_traits.specs.Kinds.{type_of}
use Rattle.json_traits.specs.Numbers.{whole}
use Rattle.json_semantics.specs.declared.conformance.error.ConformanceError.{ConformanceError}
use Rattle.json_semantics.specs.declared.conformance.error.ConformanceError.TheVariants.{NotAnObject, WrongLength, UnexpectedMember, MissingMember, WrongType, WrongScalar, WrongElements, WrongUniqueness, WrongNested, OutOfMemory}

-- a whole number, written without fraction digits
abbrev pub integer : ℕ → Tree
integer n = scalar (number (whole (pos n)))

-- an array of three
abbrev pub three : Tree → Tree → Tree → Tree
three t u v = array (elements_from (t ∷ u ∷ v ∷ []))

-- an object of one member
abbrev pub one_member : List ℕ → Tree → Tree
one_member name t = object (members_from ((name, t) ∷ []))

-- {"a":1}
abbrev pub a_is_one : Tree
a_is_one = one_member (codes "a") (integer 1)

-- the members of {"string":"héllo","integer":42,"float":1.5,"boolean":true,"null":null,"array":[10,20,30],
-- "duplicates":[1,{"a":1},{"a":1}],"object":{"nested":"value"}}, in key order
unfoldable pub the_members : List (List ℕ × Tree)
the_members =
    (codes "null", scalar null)
    ∷ (codes "array", three (integer 10) (integer 20) (integer 30))
    ∷ (codes "float", scalar (number (record { digits = pos 15; places = 1 })))
    ∷ (codes "object", one_member (codes "nested") (scalar (string (codes "value"))))
    ∷ (codes "string", scalar (string (encode_utf8_all (codes "héllo"))))
    ∷ (codes "boolean", scalar (boolean true))
    ∷ (codes "integer", integer 42)
    ∷ (codes "duplicates", three (integer 1) a_is_one a_is_one)
    ∷ []

abbrev pub the_document : Tree
the_document = object (members_from the_members)

-- the rules; those of one member have its name
pub data Rule : Type 0 where
  is_object : Rule
  has_eight_members : Rule
  has_no_other : Rule
  has_member : List ℕ → Rule
  has_type : List ℕ → Rule
  has_scalar : List ℕ → Rule
  has_elements : Rule
  has_equal_elements : Rule
  has_nested : Rule

-- the tree and the document have a member of the name, and P holds of both values
abbrev pub Agree : (Tree → Tree → Type 0) → List ℕ → Tree → Type 0
Agree P name t = IsSomeAnd (lookup name (pairs_of t)) (λ u. IsSomeAnd (lookup name the_members) (λ v. P u v))

-- a tree keeps a rule
abbrev pub Obeys : Tree → Rule → Type 0
Obeys t is_object = IsSome (as_object t)
Obeys t has_eight_members = length (pairs_of t) ≡ 8
Obeys t has_no_other = lookup (codes "missing") (pairs_of t) ≡ None
Obeys t (has_member name) = IsSome (lookup name (pairs_of t))
Obeys t (has_type name) = Agree (λ u v. type_of u ≡ type_of v) name t
Obeys t (has_scalar name) = Agree Same name t
Obeys t has_elements = Agree Same (codes "array") t
Obeys t has_equal_elements = IsSomeAnd (lookup (codes "duplicates") (pairs_of t)) (λ u. ¬ IsUnique (elements_of u))
Obeys t has_nested = Agree Same (codes "object") t

abbrev pub scalars : List (List ℕ)
scalars = codes "string" ∷ codes "integer" ∷ codes "float" ∷ codes "boolean" ∷ []

abbrev pub names : List (List ℕ)
names = scalars ++ codes "null" ∷ codes "array" ∷ codes "duplicates" ∷ codes "object" ∷ []

-- all rules, in order
abbrev pub rules : List Rule
rules =
    is_object ∷ has_eight_members ∷ has_no_other ∷ map has_member names
    ++ map has_type names ++ map has_scalar scalars ++ has_elements ∷ has_equal_elements ∷ has_nested ∷ []

-- the tree breaks the rule, and keeps all rules before it
abbrev pub IsFirstBroken : Tree → Rule → Type 0
IsFirstBroken t r =
    (before : List Rule) × (after : List Rule) × (rules ≡ before ++ r ∷ after) × AllByRecursion (Obeys t) before × ¬ Obeys t r

-- the rule that a refusal names; want of memory names none
abbrev pub broken_rule : ConformanceError → Option Rule
broken_rule NotAnObject = Some is_object
broken_rule WrongLength = Some has_eight_members
broken_rule UnexpectedMember = Some has_no_other
broken_rule (MissingMember name) = Some (has_member name.now)
broken_rule (WrongType name) = Some (has_type name.now)
broken_rule (WrongScalar name) = Some (has_scalar name.now)
broken_rule WrongElements = Some has_elements
broken_rule WrongUniqueness = Some has_equal_elements
broken_rule WrongNested = Some has_nested
broken_rule OutOfMemory = None

-- all rules are kept; or the refusal names the first that is broken, or want of memory
abbrev pub Judges : Tree → Result ⊤ ConformanceError → Type 0
Judges t (Ok _) = AllByRecursion (Obeys t) rules
Judges t (Err e) = MatchOption (broken_rule e) ⊤ (IsFirstBroken t)
