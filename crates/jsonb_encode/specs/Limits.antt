-- When a tree has bytes in a form.
-- The limits of a container are the layout's (PostgreSQL, `jsonb.h`: JB_CMASK, JENTRY_OFFLENMASK); those of numbers are this
-- project's own.
use Rattle.std.specs.Prelude.{ℕ, ◌^◌, ◌<◌, Bool, true, ◌&&◌, List, length}
use Rattle.json_model.specs.Rising.{KeysRise}
use Rattle.json_model.specs.Tree.{Scalar, null, boolean, number, string, Tree, scalar, array, object, Elements, no_elements, element, Members, no_members, member}
use Rattle.json_exact.specs.Parsed.{IsInRange}
use Rattle.jsonb_layout.specs.Layout.{Item, pieces}
use Rattle.jsonb_encode.specs.Number.{fits}
use Rattle.jsonb_encode.specs.Encoded.{scalar_item, count_elements, count_members, array_items, object_items}
use Rattle.jsonb_encode.specs.declared.number_form.NumericForm.{NumericForm}

-- ---- numbers

abbrev pub scalar_fits : NumericForm → Scalar → Bool
scalar_fits f null = true
scalar_fits f (boolean b) = true
scalar_fits f (number d) = fits f d
scalar_fits f (string s) = true

abbrev mutual
  -- whether each number has the form
  pub all_fit : NumericForm → Tree → Bool
  all_fit f (scalar s) = scalar_fits f s
  all_fit f (array ts) = elements_fit f ts
  all_fit f (object ms) = members_fit f ms

  pub elements_fit : NumericForm → Elements → Bool
  elements_fit f no_elements = true
  elements_fit f (element t ts) = all_fit f t && elements_fit f ts

  pub members_fit : NumericForm → Members → Bool
  members_fit f no_members = true
  members_fit f (member k t ms) = all_fit f t && members_fit f ms

-- ---- containers

-- the count, and the bytes of the payload, are below 2 ^ 28
abbrev pub IsSmall : ℕ → List Item → Type 0
IsSmall count items = (count < 2 ^ 28) × (length (pieces items) < 2 ^ 28)

abbrev mutual
  -- each container in a tree is small
  pub AreSmall : NumericForm → Tree → Type 0
  AreSmall f (scalar s) = Unit {0}
  AreSmall f (array ts) = IsSmall (count_elements ts) (array_items f ts) × ElementsAreSmall f ts
  AreSmall f (object ms) = IsSmall (count_members ms) (object_items f ms) × MembersAreSmall f ms

  pub ElementsAreSmall : NumericForm → Elements → Type 0
  ElementsAreSmall f no_elements = Unit {0}
  ElementsAreSmall f (element t ts) = AreSmall f t × ElementsAreSmall f ts

  pub MembersAreSmall : NumericForm → Members → Type 0
  MembersAreSmall f no_members = Unit {0}
  MembersAreSmall f (member k t ms) = AreSmall f t × MembersAreSmall f ms

-- each container is small, and so is that of a root scalar
abbrev pub IsWithinLimits : NumericForm → Tree → Type 0
IsWithinLimits f (scalar s) = length (scalar_item f s 0).piece < 2 ^ 28
IsWithinLimits f (array ts) = AreSmall f (array ts)
IsWithinLimits f (object ms) = AreSmall f (object ms)

-- ---- trees that can be stored

-- below 10 ^ 131072, and with at most 16383 fraction digits, however many digits it has
abbrev pub ScalarIsExact : Scalar → Type 0
ScalarIsExact null = Unit {0}
ScalarIsExact (boolean b) = Unit {0}
ScalarIsExact (number d) = IsInRange d
ScalarIsExact (string s) = Unit {0}

abbrev mutual
  pub HasExactNumbers : Tree → Type 0
  HasExactNumbers (scalar s) = ScalarIsExact s
  HasExactNumbers (array ts) = ElementsHaveExactNumbers ts
  HasExactNumbers (object ms) = MembersHaveExactNumbers ms

  pub ElementsHaveExactNumbers : Elements → Type 0
  ElementsHaveExactNumbers no_elements = Unit {0}
  ElementsHaveExactNumbers (element t ts) = HasExactNumbers t × ElementsHaveExactNumbers ts

  pub MembersHaveExactNumbers : Members → Type 0
  MembersHaveExactNumbers no_members = Unit {0}
  MembersHaveExactNumbers (member k t ms) = HasExactNumbers t × MembersHaveExactNumbers ms

-- A tree that the layout can hold, the limits of containers aside: its keys rise at each level, and its numbers are in range. The tree
-- of each value is one, and so is one whose numbers are those of literals.
pub record IsStorable (t : Tree) : Type 0 where
  pub rise : KeysRise t
  pub exact : HasExactNumbers t
