-- The keywords by their names: JSON Schema 2020-12, validation, sections 6.1 to 6.5, and those of its sections 9.1 to 9.5 and of core,
-- section 8.3, which ask nothing of a document. By draft 4 an object has names of its own (`Draft4`).
use Rattle.std.specs.Prelude.{ℕ, List, [], ◌∷◌, ◌++◌, Option, codes}
use Rattle.json_model.specs.Parts.{lookup}
use Rattle.json_model.specs.Tree.{Tree}
use Rattle.json_semantics.specs.declared.numeric_check.BoundOp.TheVariants.{Lt, Lte, Gt, Gte}
use Rattle.flat_keywords.specs.Draft4.{draft4_names, partners_of}
use Rattle.flat_keywords.specs.declared.draft.Draft.{Draft}
use Rattle.flat_keywords.specs.declared.draft.Draft.TheVariants as drafts
use Rattle.flat_keywords.specs.declared.draft.Reading.{Reading}
use Rattle.flat_keywords.specs.declared.draft.Reading.TheVariants as reading
use Rattle.flat_keywords.specs.declared.keyword.Measure.TheVariants.{CodePoints, Elements, Members}
use Rattle.flat_keywords.specs.declared.keyword.Form.TheVariants.{Anything, Text, Truth, Array}
use Rattle.flat_keywords.specs.declared.keyword.Keyword.{Keyword}
use Rattle.flat_keywords.specs.declared.keyword.Keyword.TheVariants.{«Type», Enum, Const, Bound, Least, Greatest, Pattern, Required, UniqueItems, Silent}

-- the names of both drafts
abbrev pub shared_names : List (List ℕ × Keyword)
shared_names =
    (codes "enum", Enum) ∷
    (codes "minLength", Least CodePoints) ∷
    (codes "maxLength", Greatest CodePoints) ∷
    (codes "minItems", Least Elements) ∷
    (codes "maxItems", Greatest Elements) ∷
    (codes "uniqueItems", UniqueItems) ∷
    (codes "minProperties", Least Members) ∷
    (codes "maxProperties", Greatest Members) ∷
    (codes "pattern", Pattern) ∷
    (codes "required", Required) ∷
    (codes "title", Silent Text) ∷
    (codes "description", Silent Text) ∷
    (codes "default", Silent Anything) ∷ []

-- those of 2020-12 alone
abbrev pub names_2020 : List (List ℕ × Keyword)
names_2020 =
    (codes "type", «Type») ∷
    (codes "const", Const) ∷
    (codes "minimum", Bound Gte) ∷
    (codes "maximum", Bound Lte) ∷
    (codes "exclusiveMinimum", Bound Gt) ∷
    (codes "exclusiveMaximum", Bound Lt) ∷
    (codes "examples", Silent Array) ∷
    (codes "deprecated", Silent Truth) ∷
    (codes "readOnly", Silent Truth) ∷
    (codes "writeOnly", Silent Truth) ∷
    (codes "$comment", Silent Text) ∷ []

-- how the names of an object are read by a draft
abbrev pub reading_of : Draft → Tree → Reading
reading_of drafts.Draft2020 k = reading.Draft2020
reading_of drafts.Draft4 k = reading.Draft4 (partners_of k)

-- the names that are read
abbrev pub names_by : Reading → List (List ℕ × Keyword)
names_by reading.Draft2020 = shared_names ++ names_2020
names_by (reading.Draft4 partners) = shared_names ++ draft4_names partners

-- the keyword of a name, if there is one
abbrev pub keyword_by : Reading → List ℕ → Option Keyword
keyword_by r name = lookup name (names_by r)

-- and by 2020-12
abbrev pub keyword_of : List ℕ → Option Keyword
keyword_of = keyword_by reading.Draft2020
