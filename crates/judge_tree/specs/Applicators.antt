-- The keywords that have schemas inside, by their names: JSON Schema Core 2020-12, sections 10.2.1 and 10.3.
use Rattle.std.specs.Prelude.{ℕ, List, [], ◌∷◌, Option, Some, None, codes}
use Rattle.json_model.specs.Parts.{lookup}
use Rattle.judge_tree.specs.declared.applicator.Applicator.{Applicator}
use Rattle.judge_tree.specs.declared.applicator.Applicator.TheVariants.{Properties, AdditionalProperties, Items, AllOf, AnyOf, Not}

abbrev pub applicators : List (List ℕ × Applicator)
applicators =
    (codes "properties", Properties) ∷
    (codes "additionalProperties", AdditionalProperties) ∷
    (codes "items", Items) ∷
    (codes "allOf", AllOf) ∷
    (codes "anyOf", AnyOf) ∷
    (codes "not", Not) ∷ []

-- the applicator of a name, if there is one; every other name is left to the flat keywords
abbrev pub applicator_of : List ℕ → Option Applicator
applicator_of name = lookup name applicators

-- what is said of a member, for each applicator, and for a flat keyword
pub record Lines : Type 1 where
  pub flat : Type 0
  pub properties : Type 0
  pub others : Type 0
  pub items : Type 0
  pub all : Type 0
  pub any : Type 0
  pub negated : Type 0

-- the line of a name
abbrev pub line_of : Option Applicator → Lines → Type 0
line_of None l = l.flat
line_of (Some Properties) l = l.properties
line_of (Some AdditionalProperties) l = l.others
line_of (Some Items) l = l.items
line_of (Some AllOf) l = l.all
line_of (Some AnyOf) l = l.any
line_of (Some Not) l = l.negated
