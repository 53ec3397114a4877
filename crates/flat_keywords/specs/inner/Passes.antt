-- Which documents pass compiled checks, and what a member that is taken in adds to them. The code's own words.
use Rattle.std.specs.Prelude.{List, [], ◌∷◌, ◌++◌, ℕ, pos, ◌*◌, ◌≤◌, ◌<ℤ◌, ◌≡◌, ◌↔◌, IsTrue, IsSome, IsSomeAnd, map, String, string_bytes, Option, Some, None, IfSome, ⊤, Bool, false, true}
use Rattle.json_exact.specs.Exact.{exactly, parts}
use Rattle.json_exact.specs.Trees.{tree}
use Rattle.json_exact.specs.declared.value.Value.{Value}
use Rattle.json_model.specs.Decimal.{Decimal}
use Rattle.json_model.specs.Parts.{as_array, as_number, as_object, as_string, elements_of, lookup, points, as_boolean}
use Rattle.json_model.specs.Same.{Same, IsUnique}
use Rattle.json_model.specs.Tree.{Tree}
use Rattle.json_semantics.specs.Bounds.{Keeps}
use Rattle.json_semantics.specs.declared.numeric_check.BoundOp.{BoundOp}
use Rattle.json_semantics.specs.declared.numeric_check.BoundOp.TheVariants.{Lt, Lte, Gt, Gte}
use Rattle.json_semantics.specs.declared.numeric_check.CompiledBound.{CompiledBound}
use Rattle.json_traits.specs.Allowed.{AllowsType}
use Rattle.json_traits.specs.Names.{name_of}
use Rattle.json_traits.specs.Sets.{holds}
use Rattle.json_traits.specs.declared.types.json_type.JsonType.{JsonType}
use Rattle.json_traits.specs.declared.types.set.JsonTypeSet.{JsonTypeSet}
use Rattle.std.specs.List.{AllByRecursion}
use Rattle.literal_patterns.specs.Analyses.{kept_of}
use Rattle.literal_patterns.specs.declared.literal_pattern.LiteralPattern.{LiteralPattern}
use Rattle.pattern_model.specs.Literals.{Hits}
use Rattle.flat_keywords.specs.Draft4.{IsOfWrittenType}
use Rattle.flat_keywords.specs.Names.{keyword_by}
use Rattle.flat_keywords.specs.Patterns.{IsPattern}
use Rattle.flat_keywords.specs.Validity.{AreTypeNames, AsksUniqueBy, HasForm, IsFairBy, IsNoPattern, KeepsDeep, NeedsEngine, Suits, TakesMemory}
use Rattle.flat_keywords.specs.Verdict.{IsAmong, IsNamed, IsOneOf, Reaches, IsUpTo, count_of, Holds, HoldsAtBy}
use Rattle.flat_keywords.specs.declared.checks.Checks.{Checks}
use Rattle.flat_keywords.specs.declared.bounds.Bounds.{Bounds}
use Rattle.flat_keywords.specs.declared.draft.Reading.{Reading}
use Rattle.flat_keywords.specs.declared.limits.Limit.{Limit}
use Rattle.flat_keywords.specs.declared.limits.Limit.TheVariants.{Small, Large}
use Rattle.flat_keywords.specs.declared.limits.Limits.{Limits}
use Rattle.flat_keywords.specs.declared.errors.KeywordError.{KeywordError}
use Rattle.flat_keywords.specs.declared.errors.KeywordError.TheVariants.{NotAnObject, UnknownKeyword, BadKeyword, BadPattern, PatternNotLiteral, TooDeep, OutOfMemory}
use Rattle.flat_keywords.specs.declared.keyword.Keyword.{Keyword}
use Rattle.flat_keywords.specs.declared.keyword.Keyword.TheVariants.{«Type», Enum, Const, Bound, Least, Greatest, Pattern, Required, UniqueItems, Silent, WrittenType}
use Rattle.flat_keywords.specs.declared.keyword.Measure.{Measure}
use Rattle.flat_keywords.specs.declared.keyword.Measure.TheVariants.{CodePoints, Elements, Members}

-- the set holds just the types that v names
abbrev pub IsSetOf : Tree → JsonTypeSet → Type 0
IsSetOf v set = (t : JsonType) → IsTrue (holds set t) ↔ IsNamed t v

-- the set holds just the types that the list v names
abbrev pub IsSetOfList : Tree → JsonTypeSet → Type 0
IsSetOfList v set = IsSomeAnd (as_array v) AreTypeNames × ((t : JsonType) → IsTrue (holds set t) ↔ IsAmong (name_of t) (elements_of v))

-- the set holds a type that the tree is of by how it is written
abbrev pub AllowsWritten : JsonTypeSet → Tree → Type 0
AllowsWritten set d = (t : JsonType) × IsTrue (holds set t) × IsOfWrittenType d t

-- each name is a key of the pairs
abbrev pub HasKeys : {Z : Type 0} → List (String Z) → List (List ℕ × Tree) → Type 0
HasKeys names ps = AllByRecursion (λ name. IsSome (lookup (string_bytes name) ps)) names

-- the name was put at the end
abbrev pub Gains : {Z : Type 0} → List (String Z) → List (String Z) → List ℕ → Type 0
Gains {Z = Z} old new name = (copy : String Z) × (new ≡ old ++ copy ∷ []) × (string_bytes copy ≡ name)

-- the names ask for what the list v asks for
abbrev pub AreNamesOf : {Z : Type 0} → Tree → List (String Z) → Type 0
AreNamesOf v names = (d : Tree) → IfSome (as_object d) (HasKeys names) ↔ Holds Required v d

-- the value asks for what `const` with v asks for
abbrev pub IsConstant : Tree → Value → Type 0
IsConstant v value = (d : Tree) → Same d (tree value) ↔ Holds Const v d

-- the document is equal to one of the values
abbrev pub IsListed : Tree → List Value → Type 0
IsListed d values = IsOneOf d (map tree values)

-- the values ask for what `enum` with v asks for
abbrev pub AreListed : Tree → List Value → Type 0
AreListed v values = (d : Tree) → IsListed d values ↔ Holds Enum v d

-- the analysis hits the document, where it is a string
abbrev pub IsHit : Tree → LiteralPattern → Type 0
IsHit d a = IfSome (as_string d) (λ y. Hits (kept_of a) (points y))

-- the analysis asks for what `pattern` with v asks for
abbrev pub IsPatternOf : Tree → LiteralPattern → Type 0
IsPatternOf v a = (d : Tree) → IsHit d a ↔ Holds Pattern v d

-- why a string that is not a literal pattern is refused, as the value of member number m
abbrev pub IsRefusal : ℕ → List ℕ → KeywordError → Type 0
IsRefusal m s (BadPattern n) = (n ≡ m) × (IsPattern s → ⊥)
IsRefusal m s (PatternNotLiteral n) = (n ≡ m) × IsPattern s
IsRefusal m s OutOfMemory = ⊤
IsRefusal m s _ = ⊥

-- the number keeps the bound
abbrev pub IsWithin : CompiledBound → Decimal → Type 0
IsWithin b x = Keeps b.op x (exactly b.limit)

-- the bound is the one that m sets
abbrev pub IsBoundOf : BoundOp → CompiledBound → Decimal → Type 0
IsBoundOf op b m = (b.op ≡ op) × ((x : Decimal) → IsWithin b x ↔ Keeps op x m)

-- the bound that is set for a way to stand to a limit
abbrev pub bound_at : BoundOp → Bounds → Option CompiledBound
bound_at Lt bs = bs.lt
bound_at Lte bs = bs.lte
bound_at Gt bs = bs.gt
bound_at Gte bs = bs.gte

-- the number keeps every bound that is set
pub record KeepsAll (bs : Bounds) (x : Decimal) : Type 0 where
  pub lt : IfSome bs.lt (λ b. IsWithin b x)
  pub lte : IfSome bs.lte (λ b. IsWithin b x)
  pub gt : IfSome bs.gt (λ b. IsWithin b x)
  pub gte : IfSome bs.gte (λ b. IsWithin b x)

-- the count n is at least the limit
abbrev pub Meets : Limit → ℕ → Type 0
Meets (Small l) n = l ≤ n
Meets (Large l) n = pos (n * parts) <ℤ l → ⊥

-- the count n is at most the limit
abbrev pub HasRoom : Limit → ℕ → Type 0
HasRoom (Small l) n = n ≤ l
HasRoom (Large l) n = l <ℤ pos (n * parts) → ⊥

-- the limit is the one that m sets
abbrev pub IsLimitOf : Limit → Decimal → Type 0
IsLimitOf l m = (n : ℕ) → (Meets l n ↔ Reaches m n) × (HasRoom l n ↔ IsUpTo m n)

-- the count n is within the limits that are set
pub record IsBetween (ls : Limits) (n : ℕ) : Type 0 where
  pub least : IfSome ls.least (λ l. Meets l n)
  pub greatest : IfSome ls.greatest (λ l. HasRoom l n)

-- the limits of a measure
abbrev pub limits_at : Measure → Checks → Limits
limits_at CodePoints c = c.code_points
limits_at Elements c = c.elements
limits_at Members c = c.members

-- where unique elements are asked for, those of an array are
abbrev pub MeetsUnique : Bool → Tree → Type 0
MeetsUnique unique d = IsTrue unique → IfSome (as_array d) IsUnique

-- unique elements are not asked for, so that no check takes memory
abbrev pub NeedsNoMemory : Checks → Type 0
NeedsNoMemory c = c.unique ≡ false

-- the document passes every check
pub record Passes (c : Checks) (d : Tree) : Type 0 where
  pub types : IfSome c.types (λ set. AllowsType set d)
  pub written_types : IfSome c.written_types (λ set. AllowsWritten set d)
  pub listed : IfSome c.listed (λ values. IsListed d values.items)
  pub constant : IfSome c.constant (λ value. Same d (tree value))
  pub bounds : IfSome (as_number d) (KeepsAll c.bounds)
  pub code_points : IfSome (count_of CodePoints d) (IsBetween c.code_points)
  pub elements : IfSome (count_of Elements d) (IsBetween c.elements)
  pub members : IfSome (count_of Members d) (IsBetween c.members)
  pub pattern : IfSome c.pattern (IsHit d)
  pub unique : MeetsUnique c.unique d
  pub required : IfSome c.required (λ names. IfSome (as_object d) (HasKeys names.items))

-- nothing was compiled for the keyword yet
abbrev pub IsFree : Keyword → Checks → Type 0
IsFree «Type» c = c.types ≡ None
IsFree Enum c = c.listed ≡ None
IsFree Const c = c.constant ≡ None
IsFree (Bound op) c = bound_at op c.bounds ≡ None
IsFree (Least measure) c = (limits_at measure c).least ≡ None
IsFree (Greatest measure) c = (limits_at measure c).greatest ≡ None
IsFree Pattern c = c.pattern ≡ None
IsFree UniqueItems c = c.unique ≡ false
IsFree Required c = c.required ≡ None
IsFree (Silent form) c = ⊤
IsFree WrittenType c = c.written_types ≡ None

-- new checks what old checks, and what the keyword w with the value v asks
pub record Adds (old : Checks) (w : Keyword) (v : Tree) (new : Checks) : Type 0 where
  pub suits : Suits w v
  pub passes : (d : Tree) → Passes new d ↔ (Passes old d × Holds w v d)
  pub frees : (u : Keyword) → (u ≡ w → ⊥) → IsFree u old → IsFree u new
  pub memory : ((w ≡ UniqueItems) × (as_boolean v ≡ Some true) → ⊥) → NeedsNoMemory old → NeedsNoMemory new

-- member number m is bad, since it has not the form F
abbrev pub IsBadForm : ℕ → Type 0 → KeywordError → Type 0
IsBadForm m F e = (e ≡ BadKeyword m) × (F → ⊥)

-- the keyword w of member number m has a value v with the fault e
abbrev pub AddFault : ℕ → Keyword → Tree → KeywordError → Type 0
AddFault m w v NotAnObject = ⊥
AddFault m w v (UnknownKeyword n) = ⊥
AddFault m w v (BadKeyword n) = (n ≡ m) × (HasForm w v → ⊥)
AddFault m w v (BadPattern n) = (n ≡ m) × IsNoPattern w v
AddFault m w v (PatternNotLiteral n) = (n ≡ m) × NeedsEngine w v
AddFault m w v (TooDeep n) = (n ≡ m) × HasForm w v × KeepsDeep w v
AddFault m w v OutOfMemory = TakesMemory w v

-- the member p was taken in
pub record Took (r : Reading) (old : Checks) (p : List ℕ × Tree) (new : Checks) : Type 0 where
  pub fair : IsFairBy r p
  pub passes : (d : Tree) → Passes new d ↔ (Passes old d × HoldsAtBy r d p)
  pub frees : (u : Keyword) → (keyword_by r p.0 ≡ Some u → ⊥) → IsFree u old → IsFree u new
  pub memory : (AsksUniqueBy r p → ⊥) → NeedsNoMemory old → NeedsNoMemory new
