-- The JSON tree that a value of `serde_json` stands for, and the one that a JSON text writes: RFC 8259. What text reads to
-- which value is `serde_json`'s own definition, `read`: of a key that stands twice the last value stays, and a number that is
-- no whole number of 64 bits is a float. That a float stands for no tree is this project's own.
use Rattle.std.specs.Prelude.{◌≡◌, ℕ, ℤ, pos, List, [], ◌∷◌, Option, Some, None, option_map, option_and_then, bytes_eq, if◌then◌else◌}
use Rattle.json_model.specs.Keys.{key_before}
use Rattle.json_model.specs.Parts.{members_from}
use Rattle.json_model.specs.Tree.{Tree, scalar, null, boolean, number, string, array, object, Elements, no_elements, element}
use Rattle.serde_json.specs.Data as serde
use Rattle.serde_json.specs.Read.{read}

-- a number that is written with no fraction digits
abbrev pub whole : ℤ → Tree
whole z = scalar (number (record { digits = z; places = 0 }))

-- a number has a tree where it is no float
abbrev pub number_tree : serde.Num → Option Tree
number_tree (serde.unsigned n) = Some (whole (pos n))
number_tree (serde.negative z) = Some (whole z)
number_tree (serde.float x) = None

module _ {A : Type 0} where
  -- the pairs, with one more before the first whose key does not come before its key, which it replaces if the key is the same
  abbrev pub placed : List ℕ × A → List (List ℕ × A) → List (List ℕ × A)
  placed p [] = p ∷ []
  placed p (q ∷ qs) = if key_before q.0 p.0 then q ∷ placed p qs else (p ∷ (if bytes_eq p.0 q.0 then qs else q ∷ qs))

  -- the pairs in the order of their keys
  abbrev pub in_key_order : List (List ℕ × A) → List (List ℕ × A)
  in_key_order [] = []
  in_key_order (p ∷ ps) = placed p (in_key_order ps)

abbrev mutual
  -- the tree of a value, where no float stands in it
  pub tree_of : serde.Data → Option Tree
  tree_of serde.null = Some (scalar null)
  tree_of (serde.boolean b) = Some (scalar (boolean b))
  tree_of (serde.number n) = number_tree n
  tree_of (serde.string s) = Some (scalar (string s))
  tree_of (serde.array ds) = option_map array (elements_of ds)
  tree_of (serde.object ms) = option_map (λ ps. object (members_from (in_key_order ps))) (pairs_of ms)

  -- place by place
  pub elements_of : serde.Items → Option Elements
  elements_of serde.no_items = Some no_elements
  elements_of (serde.item d ds) = option_and_then (λ t. option_map (element t) (elements_of ds)) (tree_of d)

  -- each key with the tree of the value under it
  pub pairs_of : serde.Members → Option (List (List ℕ × Tree))
  pairs_of serde.no_members = Some []
  pairs_of (serde.member k d ms) = option_and_then (λ t. option_map (λ ps. (k, t) ∷ ps) (pairs_of ms)) (tree_of d)

-- the text is one of JSON, and it writes the tree
abbrev pub Writes : List ℕ → Tree → Type 0
Writes text t = (d : serde.Data) × (read text ≡ Some d) × (tree_of d ≡ Some t)
