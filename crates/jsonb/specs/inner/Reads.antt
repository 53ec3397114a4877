-- What the reader answers, by the tree that it computes.
use Rattle.std.specs.Prelude.{◌≡◌, ◌≤◌, Option, Some, None, true, false, Result, Ok, Err, IsSomeAnd}
use Rattle.json_model.specs.Nest.{nest}
use Rattle.json_model.specs.Tree.{Tree, scalar}
use Rattle.jsonb_layout.specs.Layout.{Item}
use Rattle.jsonb_layout.specs.Options.{◌>>=◌}
use Rattle.jsonb_layout.specs.inner.Reading.{scalar_of}
use Rattle.jsonb.specs.Found.{tree_found}
use Rattle.jsonb.specs.Nodes.{node_tree}
use Rattle.jsonb.specs.inner.Values.{is_clean}
use Rattle.jsonb.specs.declared.error.JsonbError.{JsonbError}
use Rattle.jsonb.specs.declared.error.JsonbError.TheVariants as errors
use Rattle.jsonb.specs.declared.found.Found.{Found}
use Rattle.jsonb.specs.declared.node.JsonbNode.{JsonbNode}

-- the tree of a root scalar's item
abbrev pub lone_tree : Item → Option Tree
lone_tree x = scalar_of 0 x >>= λ s. Some (scalar s)

-- why bytes are refused for what was found, if they are
abbrev pub Refuses : {A : Type 0} → Found → Result A JsonbError → Type 0
Refuses f (Ok u) = is_clean f ≡ true
Refuses f (Err errors.Malformed) = ⊥
Refuses f (Err errors.NotText) = f.not_text ≡ true
Refuses f (Err errors.NumberTooWide) = (f.not_text ≡ false) × (f.wide ≡ true)
Refuses f (Err errors.OutOfMemory) = ⊥

-- r is the tree that is computed, if there is one
abbrev pub Reads : Option Tree → Result JsonbNode JsonbError → Type 0
Reads r (Ok n) = (r ≡ Some (node_tree n)) × (is_clean (tree_found (node_tree n)) ≡ true)
Reads r (Err errors.Malformed) = r ≡ None
Reads r (Err errors.NotText) = IsSomeAnd r (λ t. (tree_found t).not_text ≡ true)
Reads r (Err errors.NumberTooWide) = IsSomeAnd r (λ t. ((tree_found t).not_text ≡ false) × ((tree_found t).wide ≡ true))
Reads r (Err errors.OutOfMemory) = (t : Tree) → r ≡ Some t → nest t ≤ 1 → ⊥
