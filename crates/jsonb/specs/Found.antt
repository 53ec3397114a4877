-- What keeps a tree from being JSON, as the reader keeps it: whether some string or key is no UTF-8, and whether some
-- decimal is not narrow. The reader's own; `IsText` and `HasNarrow` are what a user believes.
use Rattle.std.specs.Prelude.{ℕ, List, [], ◌∷◌, Option, Some, false, ◌||◌, not}
use Rattle.std.specs.Str.{is_utf8}
use Rattle.json_model.specs.Tree.{Scalar, null, boolean, number, string, Tree, scalar, array, object, Elements, no_elements, element, Members, no_members, member}
use Rattle.jsonb_layout.specs.inner.Narrow.{is_narrow}
use Rattle.jsonb_layout.specs.Options.{◌>>=◌}
use Rattle.jsonb_layout.specs.inner.Reading.{Place}
use Rattle.jsonb.specs.declared.found.Found.{Found}

abbrev pub nothing : Found
nothing = record { not_text = false; wide = false }

abbrev pub both : Found → Found → Found
both a b = record { not_text = a.not_text || b.not_text; wide = a.wide || b.wide }

abbrev pub text_found : List ℕ → Found
text_found s = record { not_text = not (is_utf8 s); wide = false }

abbrev pub scalar_found : Scalar → Found
scalar_found null = nothing
scalar_found (boolean b) = nothing
scalar_found (number d) = record { not_text = false; wide = not (is_narrow d) }
scalar_found (string s) = text_found s

abbrev pub keys_found : List (List ℕ) → Found
keys_found [] = nothing
keys_found (k ∷ ks) = both (text_found k) (keys_found ks)

abbrev mutual
  pub tree_found : Tree → Found
  tree_found (scalar s) = scalar_found s
  tree_found (array ts) = elements_found ts
  tree_found (object ms) = members_found ms

  pub elements_found : Elements → Found
  elements_found no_elements = nothing
  elements_found (element t ts) = both (tree_found t) (elements_found ts)

  pub members_found : Members → Found
  members_found no_members = nothing
  members_found (member k t ms) = both (both (text_found k) (tree_found t)) (members_found ms)

-- what was found before, and what is still found
abbrev pub keys_after : Found → Option (List (List ℕ) × Place) → Option (Found × Place)
keys_after f r = r >>= λ p. Some (both f (keys_found p.0), p.1)
