-- The canonical bytes of a tree are one. They stand for it, and it is the tree of a value within the limits.
use Rattle.std.proofs.Common.{◌≡◌, ℕ, ◌+◌, ◌*◌, ◌^◌, ◌<◌, cond, List, [], ◌∷◌, ◌++◌, length, refl, sym, ap, subst, ◌∙◌, arith}
use Rattle.std.specs.Prelude.{IsTrue}
use Rattle.std.proofs.lemmas.List.{length-append}
use Rattle.json_model.specs.Decimal.{Decimal}
use Rattle.json_model.specs.Keys.{rises}
use Rattle.json_model.specs.Rising.{KeysRise, KeysRiseInMembers}
use Rattle.json_model.specs.Tree.{Scalar, null, boolean, number, string, Tree, scalar, array, object, Elements, no_elements, element, Members, no_members, member, keys}
use Rattle.json_exact.specs.Parsed.{IsInRange}
use Rattle.jsonb_layout.specs.Layout.{Item, pieces, Laid}
use Rattle.jsonb_layout.specs.Numeric.{Numeric}
use Rattle.jsonb_layout.specs.Stands.{padding, IsItem, AreValues, Stands}
use Rattle.jsonb_layout.specs.declared.form.Form.{Form}
use Rattle.jsonb_layout.specs.declared.form.Form.TheVariants.{Array, Object, Lone}
use Rattle.jsonb_encode.specs.Canonical.{IsCanonicalScalar, IsCanonicalItem, AreCanonicalElements, AreCanonicalValues, IsCanonical}
use Rattle.jsonb_encode.specs.Encoded.{container, scalar_item, item, element_items, value_items, array_items, object_items, key_items, key_bytes, count_elements, count_members, encoded, canonical}
use Rattle.jsonb_encode.specs.Limits.{AreSmall, MembersAreSmall, IsWithinLimits, ScalarIsExact, HasExactNumbers, MembersHaveExactNumbers, IsStorable}
use Rattle.jsonb_encode.specs.Number.{numeric, fits}
use Rattle.jsonb_encode.specs.declared.number_form.NumericForm.TheVariants.{Short}
use Rattle.jsonb_encode.specs.inner.Writing.{AreGood}
use Rattle.jsonb_encode.proofs.NumberStands.{body_within, number_stands}
use Rattle.jsonb_encode.proofs.Roots.{short_always, short_members}
use Rattle.jsonb_encode.proofs.TreeStands.{element_counts, value_counts, key_counts, item_stands as written_stands, values_stand as written_values_stand, tree_stands}

-- ---- numbers

-- the canonical bytes of a number are few
pub number_small : (d : Decimal) → IsInRange d → length (numeric Short d) < 2 ^ 21
unfolding numeric
number_small d range = omega (arith, body_within Short d range)

-- and stand for it
pub short_stands : (d : Decimal) → IsInRange d → Numeric (numeric Short d) d
unfolding fits
short_stands d range = number_stands Short d range refl

-- ---- they are one

item_same : (x : Item) (k : ℕ) (p : List ℕ) → x.kind ≡ k → x.piece ≡ p → x ≡ record { kind = k; piece = p }
item_same x k p e f =
    ap (λ (n : ℕ). let y : Item = record { kind = n; piece = x.piece } in y) e ∙ ap
    (λ (q : List ℕ). let y : Item = record { kind = k; piece = q } in y) f

scalar_one : (s : Scalar) (at : ℕ) (x : Item) → IsCanonicalScalar s at x → x ≡ scalar_item Short s at
scalar_one null at x h = item_same x 4 [] h.0 h.1
scalar_one (boolean b) at x h = item_same x (cond b 3 2) [] h.0 h.1
scalar_one (string s) at x h = item_same x 0 s h.0 h.1
scalar_one (number d) at x (kind, (q, piece, (range, is))) =
    item_same x 1 (padding at ++ numeric Short d) kind (piece ∙ ap (λ (p : List ℕ). padding at ++ p) is)

-- bytes are laid out in one way, of their items and the count
laid_one : (form : Form) (b : List ℕ) (xs ys : List Item) (count : ℕ) → (laid : Laid b form xs) → laid.count ≡ count → xs ≡ ys
    → b ≡ container form count ys
laid_one form b xs ys count laid e f =
    laid.bytes ∙ ap (λ (n : ℕ). container form n xs) e ∙ ap (container form count) f

object_counts : (ms : Members) → length (object_items Short ms) ≡ 2 * count_members ms
object_counts ms =
    omega (arith, length-append (key_items ms) (value_items Short ms (key_bytes ms)), key_counts ms, value_counts Short ms (key_bytes ms))

array_one : (ts : Elements) (b : List ℕ) (xs : List Item) → Laid b Array xs → xs ≡ array_items Short ts
    → b ≡ container Array (count_elements ts) (array_items Short ts)
array_one ts b xs laid e =
    laid_one Array b xs (array_items Short ts) (count_elements ts) laid (sym laid.counted ∙ ap length e ∙ element_counts Short ts 0) e

object_one : (ms : Members) (b : List ℕ) (xs : List Item) → Laid b Object (key_items ms ++ xs) → xs ≡ value_items Short ms (key_bytes ms)
    → b ≡ container Object (count_members ms) (object_items Short ms)
object_one ms b xs laid e =
    let all : key_items ms ++ xs ≡ object_items Short ms = ap (λ (ys : List Item). key_items ms ++ ys) e in
    laid_one Object b (key_items ms ++ xs) (object_items Short ms) (count_members ms) laid
    (omega (arith, laid.counted, ap length all, object_counts ms)) all

mutual
  unfolding item

  -- an item that is canonical for a tree is the one that is written
  pub item_one : (t : Tree) (at : ℕ) (x : Item) → IsCanonicalItem t at x → x ≡ item Short t at
  item_one (scalar s) at x h = scalar_one s at x h
  item_one (array ts) at x (kind, (q, piece, (xs, laid, more))) =
      item_same x 5 (padding at ++ container Array (count_elements ts) (array_items Short ts)) kind
      (piece ∙ ap (λ (p : List ℕ). padding at ++ p) (array_one ts q xs laid (elements_one ts 0 xs more)))
  item_one (object ms) at x (kind, (q, piece, (xs, laid, rise, more))) =
      item_same x 5 (padding at ++ container Object (count_members ms) (object_items Short ms)) kind
      (piece ∙ ap (λ (p : List ℕ). padding at ++ p) (object_one ms q xs laid (values_one ms (key_bytes ms) xs more)))

  pub elements_one : (ts : Elements) (at : ℕ) (xs : List Item) → AreCanonicalElements ts at xs → xs ≡ element_items Short ts at
  elements_one no_elements at [] h = refl
  elements_one no_elements at (x ∷ xs) h = absurd h
  elements_one (element t ts) at [] h = absurd h
  elements_one (element t ts) at (x ∷ xs) h =
      let e = item_one t at x h.0 in
      let more = elements_one ts (at + length x.piece) xs h.1 in
      ap (λ (ys : List Item). x ∷ ys) more ∙ ap (λ (y : Item). y ∷ element_items Short ts (at + length y.piece)) e

  pub values_one : (ms : Members) (at : ℕ) (xs : List Item) → AreCanonicalValues ms at xs → xs ≡ value_items Short ms at
  values_one no_members at [] h = refl
  values_one no_members at (x ∷ xs) h = absurd h
  values_one (member k t ms) at [] h = absurd h
  values_one (member k t ms) at (x ∷ xs) h =
      let e = item_one t at x h.0 in
      let more = values_one ms (at + length x.piece) xs h.1 in
      ap (λ (ys : List Item). x ∷ ys) more ∙ ap (λ (y : Item). y ∷ value_items Short ms (at + length y.piece)) e

-- bytes that are canonical for a tree are those that are written
pub canonical_is : (t : Tree) (b : List ℕ) → IsCanonical b t → b ≡ canonical t
unfolding encoded
canonical_is (scalar s) b (x, laid, h) =
    laid_one Lone b (x ∷ []) (scalar_item Short s 0 ∷ []) 1 laid laid.counted.1 (ap (λ (y : Item). y ∷ []) (scalar_one s 0 x h))
canonical_is (array ts) b (xs, laid, h) = array_one ts b xs laid (elements_one ts 0 xs h)
canonical_is (object ms) b (xs, laid, rise, h) = object_one ms b xs laid (values_one ms (key_bytes ms) xs h)

-- the canonical bytes of a tree are one
pub canonical_one : (t : Tree) (a b : List ℕ) → IsCanonical a t → IsCanonical b t → a ≡ b
canonical_one t a b h k = canonical_is t a h ∙ sym (canonical_is t b k)

-- ---- they are bytes of a value within the limits

-- what is true of a tree that an item is canonical for
record IsSound (t : Tree) : Type 0 where
  rise : KeysRise t
  exact : HasExactNumbers t
  small : AreSmall Short t

record AreSound (ms : Members) : Type 0 where
  rise : KeysRiseInMembers ms
  exact : MembersHaveExactNumbers ms
  small : MembersAreSmall Short ms

scalar_exact : (s : Scalar) (at : ℕ) (x : Item) → IsCanonicalScalar s at x → ScalarIsExact s
scalar_exact null at x h = tt
scalar_exact (boolean b) at x h = tt
scalar_exact (string s) at x h = tt
scalar_exact (number d) at x (kind, (q, piece, (range, is))) = range

array_sound : (ts : Elements) (b : List ℕ) (xs : List Item) → Laid b Array xs → AreCanonicalElements ts 0 xs → AreGood Short ts → IsSound (array ts)
array_sound ts b xs laid h g =
    let e = elements_one ts 0 xs h in
    record {
      rise = g.rise;
      exact = g.exact;
      small = (
        (
          omega (arith, laid.counted, laid.count_fits, ap length e, element_counts Short ts 0),
          subst (λ (ys : List Item). length (pieces ys) < 2 ^ 28) e laid.pieces_fit,
        ),
        g.small,
      );
    }

object_sound : (ms : Members) (b : List ℕ) (xs : List Item) → Laid b Object (key_items ms ++ xs) → IsTrue (rises (keys ms))
    → AreCanonicalValues ms (key_bytes ms) xs → AreSound ms → IsSound (object ms)
object_sound ms b xs laid rise h g =
    let all : key_items ms ++ xs ≡ object_items Short ms = ap (λ (ys : List Item). key_items ms ++ ys) (values_one ms (key_bytes ms) xs h) in
    record {
      rise = (rise, g.rise);
      exact = g.exact;
      small = (
        (
          omega (arith, laid.counted, laid.count_fits, ap length all, object_counts ms),
          subst (λ (ys : List Item). length (pieces ys) < 2 ^ 28) all laid.pieces_fit,
        ),
        g.small,
      );
    }

mutual
  -- a tree that an item is canonical for has rising keys, numbers in range and small containers
  item_sound : (t : Tree) (at : ℕ) (x : Item) → IsCanonicalItem t at x → IsSound t
  item_sound (scalar s) at x h = record { rise = tt; exact = scalar_exact s at x h; small = tt }
  item_sound (array ts) at x (kind, (q, piece, (xs, laid, h))) = array_sound ts q xs laid h (elements_sound ts 0 xs h)
  item_sound (object ms) at x (kind, (q, piece, (xs, laid, rise, h))) =
      object_sound ms q xs laid rise h (values_sound ms (key_bytes ms) xs h)

  elements_sound : (ts : Elements) (at : ℕ) (xs : List Item) → AreCanonicalElements ts at xs → AreGood Short ts
  elements_sound no_elements at [] h = record { small = tt; rise = tt; exact = tt }
  elements_sound no_elements at (x ∷ xs) h = absurd h
  elements_sound (element t ts) at [] h = absurd h
  elements_sound (element t ts) at (x ∷ xs) h =
      let i = item_sound t at x h.0 in
      let g = elements_sound ts (at + length x.piece) xs h.1 in
      record { small = (i.small, g.small); rise = (i.rise, g.rise); exact = (i.exact, g.exact) }

  values_sound : (ms : Members) (at : ℕ) (xs : List Item) → AreCanonicalValues ms at xs → AreSound ms
  values_sound no_members at [] h = record { rise = tt; exact = tt; small = tt }
  values_sound no_members at (x ∷ xs) h = absurd h
  values_sound (member k t ms) at [] h = absurd h
  values_sound (member k t ms) at (x ∷ xs) h =
      let i = item_sound t at x h.0 in
      let g = values_sound ms (at + length x.piece) xs h.1 in
      record { rise = (i.rise, g.rise); exact = (i.exact, g.exact); small = (i.small, g.small) }

-- a tree that has canonical bytes is one of a value, within the limits
pub canonical_sound : (t : Tree) (b : List ℕ) → IsCanonical b t → IsStorable t × IsWithinLimits Short t
canonical_sound (scalar s) b (x, laid, h) = (
  record { rise = tt; exact = scalar_exact s 0 x h },
  let e = ap (λ (y : Item). length y.piece) (scalar_one s 0 x h) in omega (arith, laid.pieces_fit, length-append x.piece [], e),
)
canonical_sound (array ts) b (xs, laid, h) =
    let g = array_sound ts b xs laid h (elements_sound ts 0 xs h) in
    (record { rise = g.rise; exact = g.exact }, g.small)
canonical_sound (object ms) b (xs, laid, rise, h) =
    let g = object_sound ms b xs laid rise h (values_sound ms (key_bytes ms) xs h) in
    (record { rise = g.rise; exact = g.exact }, g.small)

-- the bytes of a number are within the limits
pub number_within : (d : Decimal) → IsInRange d → IsWithinLimits Short (scalar (number d))
number_within d range = omega (arith, number_small d range)

-- ---- they stand for the tree

-- an item that is canonical for a tree stands for it
pub item_stands : (t : Tree) (at : ℕ) (x : Item) → IsCanonicalItem t at x → IsItem t at x
item_stands t at x h =
    let g = item_sound t at x h in
    subst (IsItem t at) (sym (item_one t at x h)) (written_stands Short t at g.rise g.exact (short_always t) g.small)

-- and so do the items of members' values
pub values_stand : (ms : Members) (at : ℕ) (xs : List Item) → AreCanonicalValues ms at xs → AreValues ms at xs
values_stand ms at xs h =
    let g = values_sound ms at xs h in
    subst (AreValues ms at) (sym (values_one ms at xs h)) (written_values_stand Short ms at g.rise g.exact (short_members ms) g.small)

-- canonical bytes stand for their tree
pub canonical_stands : (t : Tree) (b : List ℕ) → IsCanonical b t → Stands b t
canonical_stands t b h =
    let g = canonical_sound t b h in
    subst (λ (c : List ℕ). Stands c t) (sym (canonical_is t b h)) (tree_stands Short t g.0 (short_always t) g.1)
