-- The tree of a value within the limits has canonical bytes.
use Rattle.std.proofs.Common.{ℕ, ◌+◌, [], length, refl, arith}
use Rattle.std.proofs.lemmas.List.{length-append}
use Rattle.json_model.specs.Rising.{KeysRise, KeysRiseInElements, KeysRiseInMembers}
use Rattle.json_model.specs.Tree.{Scalar, null, boolean, number, string, Tree, scalar, array, object, Elements, no_elements, element, Members, no_members, member}
use Rattle.jsonb_layout.specs.declared.form.Form.TheVariants.{Array, Object}
use Rattle.jsonb_encode.specs.Canonical.{IsCanonicalScalar, IsCanonicalItem, AreCanonicalElements, AreCanonicalValues, IsCanonical}
use Rattle.jsonb_encode.specs.Encoded.{container, scalar_item, item, element_items, value_items, array_items, object_items, key_bytes, count_elements, count_members, encoded, canonical}
use Rattle.jsonb_encode.specs.Limits.{AreSmall, ElementsAreSmall, MembersAreSmall, IsWithinLimits, ScalarIsExact, HasExactNumbers, ElementsHaveExactNumbers, MembersHaveExactNumbers, IsStorable}
use Rattle.jsonb_encode.specs.Number.{numeric}
use Rattle.jsonb_encode.specs.declared.number_form.NumericForm.TheVariants.{Short}
use Rattle.jsonb_encode.proofs.TreeStands.{scalar_kind, array_laid, object_laid}

scalar_written : (s : Scalar) (at : ℕ) → ScalarIsExact s → IsCanonicalScalar s at (scalar_item Short s at)
scalar_written null at h = (refl, refl)
scalar_written (boolean b) at h = (refl, refl)
scalar_written (string s) at h = (refl, refl)
scalar_written (number d) at h = (refl, (numeric Short d, refl, (h, refl)))

mutual
  unfolding item

  -- the item that is written of a tree is canonical for it
  pub item_written : (t : Tree) (at : ℕ) → KeysRise t → HasExactNumbers t → AreSmall Short t → IsCanonicalItem t at (item Short t at)
  item_written (scalar s) at rise exact small = scalar_written s at exact
  item_written (array ts) at rise exact small = (
    refl,
    (
      container Array (count_elements ts) (array_items Short ts),
      refl,
      (array_items Short ts, array_laid Short ts small, elements_written ts 0 rise exact small.1),
    ),
  )
  item_written (object ms) at rise exact small = (
    refl,
    (
      container Object (count_members ms) (object_items Short ms),
      refl,
      (value_items Short ms (key_bytes ms), object_laid Short ms small, rise.0, values_written ms (key_bytes ms) rise.1 exact small.1),
    ),
  )

  pub elements_written : (ts : Elements) (at : ℕ) → KeysRiseInElements ts → ElementsHaveExactNumbers ts → ElementsAreSmall Short ts
      → AreCanonicalElements ts at (element_items Short ts at)
  elements_written no_elements at rise exact small = tt
  elements_written (element t ts) at rise exact small =
      (item_written t at rise.0 exact.0 small.0, elements_written ts (at + length (item Short t at).piece) rise.1 exact.1 small.1)

  pub values_written : (ms : Members) (at : ℕ) → KeysRiseInMembers ms → MembersHaveExactNumbers ms → MembersAreSmall Short ms
      → AreCanonicalValues ms at (value_items Short ms at)
  values_written no_members at rise exact small = tt
  values_written (member k t ms) at rise exact small =
      (item_written t at rise.0 exact.0 small.0, values_written ms (at + length (item Short t at).piece) rise.1 exact.1 small.1)

-- the tree of a value within the limits has canonical bytes, which are those that are written
pub canonical_written : (t : Tree) → IsStorable t → IsWithinLimits Short t → IsCanonical (canonical t) t
unfolding encoded
canonical_written (scalar s) h within = (
  scalar_item Short s 0,
  record {
    count = 1;
    counted = (refl, refl);
    count_fits = omega arith;
    kinds = (scalar_kind Short s 0, tt);
    pieces_fit = omega (arith, length-append (scalar_item Short s 0).piece []);
    bytes = refl;
  },
  scalar_written s 0 h.exact,
)
canonical_written (array ts) h within = (array_items Short ts, array_laid Short ts within, elements_written ts 0 h.rise h.exact within.1)
canonical_written (object ms) h within =
    (value_items Short ms (key_bytes ms), object_laid Short ms within, h.rise.0, values_written ms (key_bytes ms) h.rise.1 h.exact within.1)
