-- Which keyword objects are valid, and the first fault of one that is not: the forms of the JSON Schema 2020-12
-- meta-schema, and what that of draft 4 asks besides (`Draft4`). The order of the causes is this project's own, and so is that
-- an unknown name, and a truth value in place of a keyword object, are refused.
use Rattle.std.specs.Prelude.{ℕ, pos, ◌≡◌, ◌⊎◌, ◌<◌, List, [], ◌∷◌, Option, Some, None, true, ⊤, length, IsSome, IsSomeAnd, slice_get, take}
use Rattle.std.specs.List.{AllByRecursion}
use Rattle.json_model.specs.Decimal.{Decimal, IsBelow, IsWhole}
use Rattle.json_model.specs.Parts.{as_array, as_boolean, as_object, as_number, as_string, elements_of, pairs_of}
use Rattle.json_model.specs.Nest.{nest}
use Rattle.json_model.specs.Tree.{Tree}
use Rattle.json_traits.specs.Numbers.{whole}
use Rattle.json_traits.specs.declared.types.json_type.JsonType.{JsonType}
use Rattle.flat_keywords.specs.Draft4.{IsNarrow}
use Rattle.flat_keywords.specs.Names.{keyword_by, reading_of}
use Rattle.flat_keywords.specs.Patterns.{IsLiteral, IsPattern}
use Rattle.flat_keywords.specs.Verdict.{IsNameOf}
use Rattle.flat_keywords.specs.declared.draft.Draft.{Draft}
use Rattle.flat_keywords.specs.declared.draft.Draft.TheVariants as drafts
use Rattle.flat_keywords.specs.declared.draft.Reading.{Reading}
use Rattle.flat_keywords.specs.declared.draft.Reading.TheVariants as reading
use Rattle.flat_keywords.specs.declared.errors.KeywordError.{KeywordError}
use Rattle.flat_keywords.specs.declared.errors.KeywordError.TheVariants.{NotAnObject, UnknownKeyword, BadKeyword, BadPattern, PatternNotLiteral, TooDeep, OutOfMemory}
use Rattle.flat_keywords.specs.declared.keyword.Form.{Form}
use Rattle.flat_keywords.specs.declared.keyword.Form.TheVariants.{Anything, Text, Truth, Array, Nothing}
use Rattle.flat_keywords.specs.declared.keyword.Keyword.{Keyword}
use Rattle.flat_keywords.specs.declared.keyword.Keyword.TheVariants.{«Type», Enum, Const, Bound, Least, Greatest, Pattern, Required, UniqueItems, Silent, WrittenType}

-- a name of a type
abbrev pub IsTypeName : Tree → Type 0
IsTypeName v = (t : JsonType) × IsNameOf t v

-- no two of the strings are equal
abbrev pub AreDistinct : List Tree → Type 0
AreDistinct [] = ⊤
AreDistinct (v ∷ vs) = AllByRecursion (λ u. as_string u ≡ as_string v → ⊥) vs × AreDistinct vs

-- at least one name of a type, and none twice
abbrev pub AreTypeNames : List Tree → Type 0
AreTypeNames vs = (0 < length vs) × AllByRecursion IsTypeName vs × AreDistinct vs

-- a name of a type, or a list of such
abbrev pub NamesTypes : Tree → Type 0
NamesTypes v = IsTypeName v ⊎ IsSomeAnd (as_array v) AreTypeNames

-- strings, none twice
abbrev pub AreNames : List Tree → Type 0
AreNames vs = AllByRecursion (λ v. IsSome (as_string v)) vs × AreDistinct vs

-- a whole number that is not negative, as 2.0
abbrev pub IsCount : Decimal → Type 0
IsCount m = IsWhole m × (IsBelow m (whole (pos 0)) → ⊥)

-- the form of a value that asks nothing
abbrev pub IsOfForm : Form → Tree → Type 0
IsOfForm Anything v = ⊤
IsOfForm Text v = IsSome (as_string v)
IsOfForm Truth v = IsSome (as_boolean v)
IsOfForm Array v = IsSome (as_array v)
IsOfForm Nothing v = ⊥

-- the form of a keyword's value that both drafts ask for
abbrev pub HasForm : Keyword → Tree → Type 0
HasForm «Type» v = NamesTypes v
HasForm Enum v = IsSome (as_array v)
HasForm Const v = ⊤
HasForm (Bound op) v = IsSome (as_number v)
HasForm (Least measure) v = IsSomeAnd (as_number v) IsCount
HasForm (Greatest measure) v = IsSomeAnd (as_number v) IsCount
HasForm Pattern v = IsSome (as_string v)
HasForm UniqueItems v = IsSome (as_boolean v)
HasForm Required v = IsSomeAnd (as_array v) AreNames
HasForm (Silent form) v = IsOfForm form v
HasForm WrittenType v = NamesTypes v

-- what a draft asks of it besides
abbrev pub IsNarrowBy : Reading → Keyword → Tree → Type 0
IsNarrowBy reading.Draft2020 w v = ⊤
IsNarrowBy (reading.Draft4 partners) w v = IsNarrow w v

-- its form by a draft
abbrev pub HasFormBy : Reading → Keyword → Tree → Type 0
HasFormBy r w v = HasForm w v × IsNarrowBy r w v

-- more than 128 containers stand in each other, the tree itself counted. This limit is this project's own.
abbrev pub IsDeep : Tree → Type 0
IsDeep v = 128 < nest v

-- some of the trees is deep
abbrev pub HasDeep : List Tree → Type 0
HasDeep [] = ⊥
HasDeep (v ∷ vs) = IsDeep v ⊎ HasDeep vs

-- a value that the keyword keeps is deep: that of `const`, or an element of `enum`
abbrev pub KeepsDeep : Keyword → Tree → Type 0
KeepsDeep «Type» v = ⊥
KeepsDeep Enum v = HasDeep (elements_of v)
KeepsDeep Const v = IsDeep v
KeepsDeep (Bound op) v = ⊥
KeepsDeep (Least measure) v = ⊥
KeepsDeep (Greatest measure) v = ⊥
KeepsDeep Pattern v = ⊥
KeepsDeep UniqueItems v = ⊥
KeepsDeep Required v = ⊥
KeepsDeep (Silent form) v = ⊥
KeepsDeep WrittenType v = ⊥

-- the value of `pattern` is a string that is no pattern
abbrev pub IsNoPattern : Keyword → Tree → Type 0
IsNoPattern Pattern v = IsSomeAnd (as_string v) (λ s. IsPattern s → ⊥)
IsNoPattern _ v = ⊥

-- the value of `pattern` is a pattern that is not literal
abbrev pub NeedsEngine : Keyword → Tree → Type 0
NeedsEngine Pattern v = IsSomeAnd (as_string v) (λ s. IsPattern s × (IsLiteral s → ⊥))
NeedsEngine _ v = ⊥

-- the keyword takes the value
pub record Suits (w : Keyword) (v : Tree) : Type 0 where
  pub form : HasForm w v
  pub pattern : IsNoPattern w v → ⊥
  pub literal : NeedsEngine w v → ⊥
  pub not_deep : KeepsDeep w v → ⊥

-- a member with no fault
abbrev pub IsFairBy : Reading → List ℕ × Tree → Type 0
IsFairBy r p = IsSomeAnd (keyword_by r p.0) (λ w. Suits w p.1 × IsNarrowBy r w p.1)

-- a member's faults, of which it has one at most
abbrev pub IsUnknownBy : Reading → List ℕ × Tree → Type 0
IsUnknownBy r p = keyword_by r p.0 ≡ None

abbrev pub IsBadBy : Reading → List ℕ × Tree → Type 0
IsBadBy r p = IsSomeAnd (keyword_by r p.0) (λ w. (HasFormBy r w p.1 → ⊥))

-- the value is a string, but no pattern
abbrev pub IsBadPatternBy : Reading → List ℕ × Tree → Type 0
IsBadPatternBy r p = IsSomeAnd (keyword_by r p.0) (λ w. IsNoPattern w p.1)

-- the value is a pattern, but not a literal one
abbrev pub IsNotLiteralBy : Reading → List ℕ × Tree → Type 0
IsNotLiteralBy r p = IsSomeAnd (keyword_by r p.0) (λ w. NeedsEngine w p.1)

-- the value has the form of its keyword, and nests too deep to be kept
abbrev pub IsTooDeepBy : Reading → List ℕ × Tree → Type 0
IsTooDeepBy r p = IsSomeAnd (keyword_by r p.0) (λ w. HasFormBy r w p.1 × KeepsDeep w p.1)

-- ---- the same faults by 2020-12

abbrev pub IsUnknown : List ℕ × Tree → Type 0
IsUnknown p = IsUnknownBy reading.Draft2020 p

abbrev pub IsBad : List ℕ × Tree → Type 0
IsBad p = IsBadBy reading.Draft2020 p

abbrev pub IsBadPattern : List ℕ × Tree → Type 0
IsBadPattern p = IsBadPatternBy reading.Draft2020 p

abbrev pub IsNotLiteral : List ℕ × Tree → Type 0
IsNotLiteral p = IsNotLiteralBy reading.Draft2020 p

-- Reading the value takes memory, fair or not: for the names or the values that a list holds, or for the value itself.
abbrev pub TakesMemory : Keyword → Tree → Type 0
TakesMemory «Type» v = ⊥
TakesMemory Enum v = IsSome (as_array v)
TakesMemory Const v = ⊤
TakesMemory (Bound op) v = ⊥
TakesMemory (Least measure) v = ⊥
TakesMemory (Greatest measure) v = ⊥
TakesMemory Pattern v = IsSome (as_string v)
TakesMemory UniqueItems v = ⊥
TakesMemory Required v = IsSome (as_array v)
TakesMemory (Silent form) v = ⊥
TakesMemory WrittenType v = ⊥

-- reading the member's value takes memory
abbrev pub IsCopiedBy : Reading → List ℕ × Tree → Type 0
IsCopiedBy r p = IsSomeAnd (keyword_by r p.0) (λ w. TakesMemory w p.1)

-- the member is none of `const` and `pattern`, the keywords that take memory for a value that is no container
abbrev pub IsLeanMember : Reading → List ℕ × Tree → Type 0
IsLeanMember r p = (keyword_by r p.0 ≡ Some Const → ⊥) × (keyword_by r p.0 ≡ Some Pattern → ⊥)

-- the member is `uniqueItems` with true, the one keyword for which checking a document takes memory
abbrev pub AsksUniqueBy : Reading → List ℕ × Tree → Type 0
AsksUniqueBy r p = (keyword_by r p.0 ≡ Some UniqueItems) × (as_boolean p.1 ≡ Some true)

-- ---- by a draft

-- no member is `const` or `pattern`
abbrev pub IsLeanBy : Draft → Tree → Type 0
IsLeanBy draft t = AllByRecursion (IsLeanMember (reading_of draft t)) (pairs_of t)

-- no member is `uniqueItems` with true
abbrev pub NeverAsksUniqueBy : Draft → Tree → Type 0
NeverAsksUniqueBy draft t = AllByRecursion (λ p. AsksUniqueBy (reading_of draft t) p → ⊥) (pairs_of t)

-- checking the document d under t takes no memory
abbrev pub ChecksFreelyBy : Draft → Tree → Tree → Type 0
ChecksFreelyBy draft t d = NeverAsksUniqueBy draft t ⊎ (as_array d ≡ None)

-- member number m is P, and no member before it has a fault
pub record IsFirstBy (draft : Draft) (t : Tree) (m : ℕ) (P : List ℕ × Tree → Type 0) : Type 0 where
  pub object : IsSome (as_object t)
  pub before : AllByRecursion (IsFairBy (reading_of draft t)) (take m (pairs_of t))
  pub here : IsSomeAnd (slice_get (pairs_of t) m) P

pub record IsValidBy (draft : Draft) (t : Tree) : Type 0 where
  pub object : IsSome (as_object t)
  pub fair : AllByRecursion (IsFairBy (reading_of draft t)) (pairs_of t)

-- the fault of a keyword tree, or none
abbrev pub HasFaultBy : Draft → Tree → Option KeywordError → Type 0
HasFaultBy draft t None = IsValidBy draft t
HasFaultBy _ t (Some NotAnObject) = as_object t ≡ None
HasFaultBy draft t (Some (UnknownKeyword m)) = IsFirstBy draft t m (IsUnknownBy (reading_of draft t))
HasFaultBy draft t (Some (BadKeyword m)) = IsFirstBy draft t m (IsBadBy (reading_of draft t))
HasFaultBy draft t (Some (BadPattern m)) = IsFirstBy draft t m (IsBadPatternBy (reading_of draft t))
HasFaultBy draft t (Some (PatternNotLiteral m)) = IsFirstBy draft t m (IsNotLiteralBy (reading_of draft t))
HasFaultBy draft t (Some (TooDeep m)) = IsFirstBy draft t m (IsTooDeepBy (reading_of draft t))
HasFaultBy _ t (Some OutOfMemory) = ⊥

-- ---- by 2020-12, where a member's keyword does not depend on the other members

abbrev pub IsFair : List ℕ × Tree → Type 0
IsFair = IsFairBy reading.Draft2020

abbrev pub IsCopied : List ℕ × Tree → Type 0
IsCopied = IsCopiedBy reading.Draft2020

abbrev pub AsksUnique : List ℕ × Tree → Type 0
AsksUnique = AsksUniqueBy reading.Draft2020

abbrev pub IsLean : Tree → Type 0
IsLean = IsLeanBy drafts.Draft2020

abbrev pub ChecksFreely : Tree → Tree → Type 0
ChecksFreely = ChecksFreelyBy drafts.Draft2020

abbrev pub IsFirst : Tree → ℕ → (List ℕ × Tree → Type 0) → Type 0
IsFirst = IsFirstBy drafts.Draft2020

abbrev pub IsValid : Tree → Type 0
IsValid = IsValidBy drafts.Draft2020
