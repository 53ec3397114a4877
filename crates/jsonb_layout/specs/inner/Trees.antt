-- The computed reading of a container with those inside it, and of a whole slice.
use Rattle.std.specs.Prelude.{ℕ, zero, suc, List, [], ◌∷◌, length, Option, Some, None, ◌==◌, if◌then◌else◌}
use Rattle.json_model.specs.Tree.{Tree, scalar, array, object, Elements, no_elements, element, Members, no_members, member}
use Rattle.jsonb_layout.specs.Layout.{Item}
use Rattle.jsonb_layout.specs.declared.form.Form.{Form}
use Rattle.jsonb_layout.specs.declared.form.Form.TheVariants.{Array, Object, Lone}
use Rattle.jsonb_layout.specs.Options.{◌>>=◌}
use Rattle.jsonb_layout.specs.inner.Reading.{Place, item_at, scalar_of, unpadded, keys_at, opened, ended, lone_item}

-- inside reads the container of an item of kind 5
abbrev pub item_by : (List ℕ → Option Tree) → ℕ → Item → Option Tree
item_by inside at x = if x.kind == 5 then (unpadded at x.piece >>= inside) else (scalar_of at x >>= λ s. Some (scalar s))

unfoldable pub elements_by : (List ℕ → Option Tree) → ℕ → Place → Option (Elements × Place)
elements_by inside zero p = Some (no_elements, p)
elements_by inside (suc n) p = do
  x ← item_at p
  t ← item_by inside p.at x.0
  ts ← elements_by inside n x.1
  Some (element t ts.0, ts.1)

abbrev pub members : List (List ℕ) → Elements → Members
members [] ts = no_members
members (k ∷ ks) no_elements = no_members
members (k ∷ ks) (element t ts) = member k t (members ks ts)

abbrev pub held_by : (List ℕ → Option Tree) → Form → ℕ → Place → Option Tree
held_by inside Array count p = elements_by inside count p >>= λ r. ended r.1 (array r.0)
held_by inside Object count p = keys_at count None p >>= λ k. elements_by inside count k.1 >>= λ r. ended r.1 (object (members k.0 r.0))
held_by inside Lone count p = None

-- the tree of a container of fewer bytes than its fuel
unfoldable pub container_of : ℕ → List ℕ → Option Tree
container_of zero b = None
container_of (suc fuel) b = opened b >>= λ o. held_by (container_of fuel) o.0 o.1 o.2

-- the tree of a container
unfoldable pub read : List ℕ → Option Tree
read b = container_of (suc (length b)) b

-- the tree of an item at a place
abbrev pub item_tree : ℕ → Item → Option Tree
item_tree at x = item_by read at x

abbrev pub root_in : Form → List ℕ → Option Tree
root_in Array b = read b
root_in Object b = read b
root_in Lone b = lone_item b >>= λ x. scalar_of 0 x >>= λ s. Some (scalar s)

-- the tree of a whole slice
unfoldable pub tree_of : List ℕ → Option Tree
tree_of b = opened b >>= λ o. root_in o.0 b
