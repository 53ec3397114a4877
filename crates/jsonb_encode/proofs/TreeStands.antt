-- The bytes of a tree stand for it.
use Rattle.std.proofs.Common.{◌≡◌, ℕ, ◌+◌, ◌<◌, true, false, List, [], ◌∷◌, ◌++◌, length, map, refl, sym, ap, subst, arith}
use Rattle.std.specs.Prelude.{IsTrue, ◌↔◌}
use Rattle.std.specs.List.{AllByRecursion}
use Rattle.std.proofs.lemmas.Bool.{and_parts}
use Rattle.std.proofs.lemmas.List.{length-append}
use Rattle.json_model.specs.Rising.{KeysRise, KeysRiseInElements, KeysRiseInMembers}
use Rattle.json_model.specs.Tree.{Scalar, null, boolean, number, string, Tree, scalar, array, object, Elements, no_elements, element, Members, no_members, member, keys}
use Rattle.jsonb_layout.specs.Layout.{Item, Laid}
use Rattle.jsonb_layout.specs.Stands.{key_item, IsScalar, IsItem, AreElements, AreValues, Stands}
use Rattle.jsonb_layout.specs.declared.form.Form.TheVariants.{Array, Object}
use Rattle.jsonb_encode.specs.Encoded.{container, scalar_item, item, element_items, value_items, array_items, object_items, key_items, key_bytes, count_elements, count_members, encoded, canonical}
use Rattle.jsonb_encode.specs.Limits.{scalar_fits, all_fit, elements_fit, members_fit, AreSmall, ElementsAreSmall, MembersAreSmall, IsWithinLimits, ScalarIsExact, HasExactNumbers, ElementsHaveExactNumbers, MembersHaveExactNumbers, IsStorable}
use Rattle.jsonb_encode.specs.Number.{numeric}
use Rattle.jsonb_encode.specs.declared.number_form.NumericForm.{NumericForm}
use Rattle.jsonb_encode.proofs.NumberStands.{number_stands}
use Rattle.jsonb_encode.proofs.Roots.{short_always}
use Rattle.jsonb_layout.proofs.Containers.{one_tree}
use Rattle.jsonb_encode.specs.declared.number_form.NumericForm.TheVariants.{Short}

-- ---- kinds and counts

-- each item that is written has a kind below 8
pub scalar_kind : (f : NumericForm) (s : Scalar) (at : ℕ) → (scalar_item f s at).kind < 8
scalar_kind f null at = omega arith
scalar_kind f (boolean true) at = omega arith
scalar_kind f (boolean false) at = omega arith
scalar_kind f (number d) at = omega arith
scalar_kind f (string s) at = omega arith

item_kind : (f : NumericForm) (t : Tree) (at : ℕ) → (item f t at).kind < 8
unfolding item
item_kind f (scalar s) at = scalar_kind f s at
item_kind f (array ts) at = omega arith
item_kind f (object ms) at = omega arith

element_kinds : (f : NumericForm) (ts : Elements) (at : ℕ) → AllByRecursion (λ x. x.kind < 8) (element_items f ts at)
unfolding item
element_kinds f no_elements at = tt
element_kinds f (element t ts) at = (item_kind f t at, element_kinds f ts (at + length (item f t at).piece))

value_kinds : (f : NumericForm) (ms : Members) (at : ℕ) → AllByRecursion (λ x. x.kind < 8) (value_items f ms at)
unfolding item
value_kinds f no_members at = tt
value_kinds f (member k t ms) at = (item_kind f t at, value_kinds f ms (at + length (item f t at).piece))

kinds_behind : (ks : List (List ℕ)) (xs : List Item) → AllByRecursion (λ x. x.kind < 8) xs → AllByRecursion (λ x. x.kind < 8) (map key_item ks ++ xs)
kinds_behind [] xs h = h
kinds_behind (k ∷ ks) xs h = (omega arith, kinds_behind ks xs h)

-- as many items as trees are written
pub element_counts : (f : NumericForm) (ts : Elements) (at : ℕ) → length (element_items f ts at) ≡ count_elements ts
unfolding item
element_counts f no_elements at = refl
element_counts f (element t ts) at = omega (arith, element_counts f ts (at + length (item f t at).piece))

pub value_counts : (f : NumericForm) (ms : Members) (at : ℕ) → length (value_items f ms at) ≡ count_members ms
unfolding item
value_counts f no_members at = refl
value_counts f (member k t ms) at = omega (arith, value_counts f ms (at + length (item f t at).piece))

pub key_counts : (ms : Members) → length (key_items ms) ≡ count_members ms
key_counts no_members = refl
key_counts (member k t ms) = omega (arith, key_counts ms)

-- ---- trees

scalar_stands : (f : NumericForm) (s : Scalar) (at : ℕ) → ScalarIsExact s → IsTrue (scalar_fits f s) → IsScalar s at (scalar_item f s at)
scalar_stands f null at h fit = (refl, refl)
scalar_stands f (boolean b) at h fit = (refl, refl)
scalar_stands f (string s) at h fit = (refl, refl)
scalar_stands f (number d) at h fit = (refl, (numeric f d, refl, number_stands f d h fit))

-- the bytes of an array, and of an object, are laid out of its items
pub array_laid : (f : NumericForm) (ts : Elements) → AreSmall f (array ts) → Laid (container Array (count_elements ts) (array_items f ts))
    Array (array_items f ts)
array_laid f ts small = record {
  count = count_elements ts;
  counted = element_counts f ts 0;
  count_fits = small.0.0;
  kinds = element_kinds f ts 0;
  pieces_fit = small.0.1;
  bytes = refl;
}

pub object_laid : (f : NumericForm) (ms : Members) → AreSmall f (object ms) → Laid (container Object (count_members ms) (object_items f ms))
    Object (object_items f ms)
object_laid f ms small = record {
  count = count_members ms;
  counted = omega (arith, length-append (key_items ms) (value_items f ms (key_bytes ms)), key_counts ms, value_counts f ms (key_bytes ms));
  count_fits = small.0.0;
  kinds = kinds_behind (keys ms) (value_items f ms (key_bytes ms)) (value_kinds f ms (key_bytes ms));
  pieces_fit = small.0.1;
  bytes = refl;
}

mutual
  unfolding item

  -- the item of a tree stands for it
  pub item_stands : (f : NumericForm) (t : Tree) (at : ℕ) → KeysRise t → HasExactNumbers t → IsTrue (all_fit f t) → AreSmall f t → IsItem t
      at (item f t at)
  item_stands f (scalar s) at rise exact fit small = scalar_stands f s at exact fit
  item_stands f (array ts) at rise exact fit small = (
    refl,
    (
      container Array (count_elements ts) (array_items f ts),
      refl,
      (array_items f ts, array_laid f ts small, elements_stand f ts 0 rise exact fit small.1),
    ),
  )
  item_stands f (object ms) at rise exact fit small = (
    refl,
    (
      container Object (count_members ms) (object_items f ms),
      refl,
      (value_items f ms (key_bytes ms), object_laid f ms small, rise.0, values_stand f ms (key_bytes ms) rise.1 exact fit small.1),
    ),
  )

  pub elements_stand : (f : NumericForm) (ts : Elements) (at : ℕ) → KeysRiseInElements ts → ElementsHaveExactNumbers ts → IsTrue
      (elements_fit f ts) → ElementsAreSmall f ts
      → AreElements ts at (element_items f ts at)
  elements_stand f no_elements at rise exact fit small = tt
  elements_stand f (element t ts) at rise exact fit small =
      let b = and_parts (all_fit f t) (elements_fit f ts) fit in
      (item_stands f t at rise.0 exact.0 b.0 small.0, elements_stand f ts (at + length (item f t at).piece) rise.1 exact.1 b.1 small.1)

  pub values_stand : (f : NumericForm) (ms : Members) (at : ℕ) → KeysRiseInMembers ms → MembersHaveExactNumbers ms → IsTrue
      (members_fit f ms) → MembersAreSmall f ms
      → AreValues ms at (value_items f ms at)
  values_stand f no_members at rise exact fit small = tt
  values_stand f (member k t ms) at rise exact fit small =
      let b = and_parts (all_fit f t) (members_fit f ms) fit in
      (item_stands f t at rise.0 exact.0 b.0 small.0, values_stand f ms (at + length (item f t at).piece) rise.1 exact.1 b.1 small.1)

-- the bytes of a tree stand for it
pub tree_stands : (f : NumericForm) (t : Tree) → IsStorable t → IsTrue (all_fit f t) → IsWithinLimits f t → Stands (encoded f t) t
unfolding encoded
tree_stands f (scalar s) h fit within = (
  scalar_item f s 0,
  record {
    count = 1;
    counted = (refl, refl);
    count_fits = omega arith;
    kinds = (scalar_kind f s 0, tt);
    pieces_fit = omega (arith, length-append (scalar_item f s 0).piece []);
    bytes = refl;
  },
  scalar_stands f s 0 h.exact fit,
)
tree_stands f (array ts) h fit within = (array_items f ts, array_laid f ts within, elements_stand f ts 0 h.rise h.exact fit within.1)
tree_stands f (object ms) h fit within =
    (value_items f ms (key_bytes ms), object_laid f ms within, h.rise.0, values_stand f ms (key_bytes ms) h.rise.1 h.exact fit within.1)

-- the canonical bytes of a tree are those of no other
pub canonical_apart : (t u : Tree) → IsStorable t → IsStorable u → IsWithinLimits Short t → IsWithinLimits Short u →
    (canonical t ≡ canonical u) ↔ (t ≡ u)
canonical_apart t u a b v w = (
  λ e. one_tree (canonical t) t u (tree_stands Short t a (short_always t) v)
      (subst (λ (x : List ℕ). Stands x u) (sym e) (tree_stands Short u b (short_always u) w)),
  λ e. ap canonical e,
)
