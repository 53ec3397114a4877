-- Where draft 4 differs from 2020-12: its names, the forms of their values, and what `integer` means. JSON Schema, draft 4: core, section
-- 3.5 for `integer`; validation, sections 5.1.2 and 5.1.3 for the exclusive bounds, which speak of `maximum` and `minimum`, 5.2.1, 5.2.2,
-- 5.3.2, 5.3.3, 5.4.1 and 5.4.2 for limits of counts, 5.4.3 for `required`, and 5.5.1 for `enum`. A number is an integer where no fraction
-- digits are written; an exponent is not kept, which is this project's own.
use Rattle.std.specs.Prelude.{ℕ, ◌≡◌, ◌⊎◌, ◌<◌, List, [], ◌∷◌, Bool, false, Option, Some, None, ⊤, codes, length, if◌then◌else◌, is_some, unwrap_or, IsSomeAnd}
use Rattle.json_model.specs.Parts.{as_array, as_boolean, as_number, lookup, pairs_of}
use Rattle.json_model.specs.Same.{IsUnique}
use Rattle.json_model.specs.Tree.{Tree}
use Rattle.json_semantics.specs.declared.numeric_check.BoundOp.TheVariants.{Lt, Lte, Gt, Gte}
use Rattle.json_traits.specs.Kinds.{type_of}
use Rattle.json_traits.specs.declared.types.json_type.JsonType.{JsonType}
use Rattle.json_traits.specs.declared.types.json_type.JsonType.TheVariants.{Integer}
use Rattle.flat_keywords.specs.declared.draft.Partners.{Partners}
use Rattle.flat_keywords.specs.declared.keyword.Form.TheVariants.{Truth, Nothing}
use Rattle.flat_keywords.specs.declared.keyword.Keyword.{Keyword}
use Rattle.flat_keywords.specs.declared.keyword.Keyword.TheVariants.{Bound, Enum, Greatest, Least, Required, Silent, WrittenType}

-- ---- names

-- the object has the name
abbrev pub has : List ℕ → Tree → Bool
has name k = is_some (lookup name (pairs_of k))

abbrev pub is_true : Option Tree → Bool
is_true None = false
is_true (Some v) = unwrap_or (as_boolean v) false

-- it has true under the name
abbrev pub has_true : List ℕ → Tree → Bool
has_true name k = is_true (lookup name (pairs_of k))

-- what an object has for its bounds
abbrev pub partners_of : Tree → Partners
partners_of k = record {
  has_minimum = has (codes "minimum") k;
  has_maximum = has (codes "maximum") k;
  above_minimum = has_true (codes "exclusiveMinimum") k;
  below_maximum = has_true (codes "exclusiveMaximum") k;
}

-- The names that mean something else than in 2020-12. A number is above `minimum` where `exclusiveMinimum` is true, and else not below it;
-- `exclusiveMinimum` stands beside `minimum` alone. The same of `maximum`.
abbrev pub draft4_names : Partners → List (List ℕ × Keyword)
draft4_names p =
    (codes "type", WrittenType) ∷
    (codes "minimum", Bound (if p.above_minimum then Gt else Gte)) ∷
    (codes "maximum", Bound (if p.below_maximum then Lt else Lte)) ∷
    (codes "exclusiveMinimum", Silent (if p.has_minimum then Truth else Nothing)) ∷
    (codes "exclusiveMaximum", Silent (if p.has_maximum then Truth else Nothing)) ∷ []

-- ---- forms

-- a number with no written fraction digits, as 1 and not 1.0
abbrev pub IsWrittenWhole : Tree → Type 0
IsWrittenWhole v = IsSomeAnd (as_number v) (λ m. m.places ≡ 0)

-- at least one value, and no two that are equal
abbrev pub AreChoices : List Tree → Type 0
AreChoices vs = (0 < length vs) × IsUnique vs

-- what draft 4 asks of a value besides what both drafts ask
abbrev pub IsNarrow : Keyword → Tree → Type 0
IsNarrow Enum v = IsSomeAnd (as_array v) AreChoices
IsNarrow (Least measure) v = IsWrittenWhole v
IsNarrow (Greatest measure) v = IsWrittenWhole v
IsNarrow Required v = IsSomeAnd (as_array v) (λ vs. 0 < length vs)
IsNarrow _ v = ⊤

-- ---- types

-- a tree is of its own type, and a number with no written fraction digits is an integer too
abbrev pub IsOfWrittenType : Tree → JsonType → Type 0
IsOfWrittenType d t = (t ≡ type_of d) ⊎ ((t ≡ Integer) × IsWrittenWhole d)
