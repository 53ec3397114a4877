-- When a document is valid under a keyword object: JSON Schema 2020-12, validation, sections 6.1.1 to 6.1.3 for `type`,
-- `enum` and `const`, 6.2.2 to 6.2.5 for the four bounds of numbers, 6.3.1 to 6.3.3 for lengths and `pattern`, 6.4.1 to 6.4.3 for
-- counts of elements and `uniqueItems`, and 6.5.1 to 6.5.3 for counts of members and `required`. Sections 9.1 to 9.5, and core 8.3, ask
-- nothing of a document. An object that has another keyword gets no verdict (`Validity`).
use Rattle.std.specs.Prelude.{ℕ, pos, ◌≡◌, ◌⊎◌, ⊤, true, List, [], ◌∷◌, Option, Some, length, option_map, IsSome, IfSome}
use Rattle.std.specs.List.{AllByRecursion}
use Rattle.json_model.specs.Decimal.{Decimal, IsBelow}
use Rattle.json_model.specs.Parts.{as_array, as_boolean, as_number, as_object, as_string, elements_of, lookup, pairs_of, points}
use Rattle.json_model.specs.Same.{IsUnique, Same}
use Rattle.json_model.specs.Tree.{Tree}
use Rattle.json_semantics.specs.Bounds.{Keeps}
use Rattle.json_traits.specs.Allowed.{IsOfType}
use Rattle.json_traits.specs.Names.{name_of}
use Rattle.json_traits.specs.Numbers.{whole}
use Rattle.json_traits.specs.declared.types.json_type.JsonType.{JsonType}
use Rattle.flat_keywords.specs.Draft4.{IsOfWrittenType}
use Rattle.flat_keywords.specs.Names.{keyword_by, reading_of}
use Rattle.flat_keywords.specs.Patterns.{Finds}
use Rattle.flat_keywords.specs.declared.draft.Draft.{Draft}
use Rattle.flat_keywords.specs.declared.draft.Draft.TheVariants as drafts
use Rattle.flat_keywords.specs.declared.draft.Reading.{Reading}
use Rattle.flat_keywords.specs.declared.draft.Reading.TheVariants as reading
use Rattle.flat_keywords.specs.declared.keyword.Measure.{Measure}
use Rattle.flat_keywords.specs.declared.keyword.Measure.TheVariants.{CodePoints, Elements, Members}
use Rattle.flat_keywords.specs.declared.keyword.Keyword.{Keyword}
use Rattle.flat_keywords.specs.declared.keyword.Keyword.TheVariants.{«Type», Enum, Const, Bound, Least, Greatest, Pattern, Required, UniqueItems, Silent, WrittenType}

-- the tree is a string that names the type
abbrev pub IsNameOf : JsonType → Tree → Type 0
IsNameOf t v = as_string v ≡ Some (name_of t)

-- one of the trees is the string
abbrev pub IsAmong : List ℕ → List Tree → Type 0
IsAmong s [] = ⊥
IsAmong s (v ∷ vs) = (as_string v ≡ Some s) ⊎ IsAmong s vs

-- the tree names the type, alone or in a list
abbrev pub IsNamed : JsonType → Tree → Type 0
IsNamed t v = IsNameOf t v ⊎ IsAmong (name_of t) (elements_of v)

-- the tree is equal to one of the others, by JSON equality
abbrev pub IsOneOf : Tree → List Tree → Type 0
IsOneOf d [] = ⊥
IsOneOf d (v ∷ vs) = Same d v ⊎ IsOneOf d vs

-- where the tree is a string, it is a key of the pairs
abbrev pub IsKeyOf : List (List ℕ × Tree) → Tree → Type 0
IsKeyOf ps v = IfSome (as_string v) (λ s. IsSome (lookup s ps))

-- a count is at least a limit
abbrev pub Reaches : Decimal → ℕ → Type 0
Reaches m n = IsBelow (whole (pos n)) m → ⊥

-- a count is at most a limit
abbrev pub IsUpTo : Decimal → ℕ → Type 0
IsUpTo m n = IsBelow m (whole (pos n)) → ⊥

-- how many code points, elements or members the document has, where it has such
abbrev pub count_of : Measure → Tree → Option ℕ
count_of CodePoints d = option_map (λ s. length (points s)) (as_string d)
count_of Elements d = option_map length (as_array d)
count_of Members d = option_map length (as_object d)

-- d meets the keyword w with the value v
abbrev pub Holds : Keyword → Tree → Tree → Type 0
Holds «Type» v d = (t : JsonType) × IsNamed t v × IsOfType d t
Holds Enum v d = IsOneOf d (elements_of v)
Holds Const v d = Same d v
Holds (Bound op) v d = IfSome (as_number v) (λ m. IfSome (as_number d) (λ x. Keeps op x m))
Holds (Least measure) v d = IfSome (as_number v) (λ m. IfSome (count_of measure d) (Reaches m))
Holds (Greatest measure) v d = IfSome (as_number v) (λ m. IfSome (count_of measure d) (IsUpTo m))
Holds Pattern v d = IfSome (as_string v) (λ s. IfSome (as_string d) (Finds s))
Holds UniqueItems v d = as_boolean v ≡ Some true → IfSome (as_array d) IsUnique
Holds Required v d = IfSome (as_object d) (λ ps. AllByRecursion (IsKeyOf ps) (elements_of v))
Holds (Silent form) v d = ⊤
Holds WrittenType v d = (t : JsonType) × IsNamed t v × IsOfWrittenType d t

abbrev pub HoldsAtBy : Reading → Tree → List ℕ × Tree → Type 0
HoldsAtBy r d p = IfSome (keyword_by r p.0) (λ w. Holds w p.1 d)

-- the document d meets every member of the keyword object k, by a draft
abbrev pub VerdictBy : Draft → Tree → Tree → Type 0
VerdictBy draft k d = AllByRecursion (HoldsAtBy (reading_of draft k) d) (pairs_of k)

-- ---- by 2020-12

abbrev pub HoldsAt : Tree → List ℕ × Tree → Type 0
HoldsAt = HoldsAtBy reading.Draft2020

abbrev pub Verdict : Tree → Tree → Type 0
Verdict = VerdictBy drafts.Draft2020
