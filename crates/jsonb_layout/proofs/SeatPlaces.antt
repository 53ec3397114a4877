-- Each seat of what stands for a tree is that of a place of the tree, and what lies there stands for the tree at the place.
use Rattle.std.proofs.Common.{◌≡◌, ℕ, suc, ◌+◌, ◌<◌, List, [], ◌∷◌, ◌++◌, length, map, Option, Some, refl, sym, ap, subst, ◌∙◌, arith, inl, inr}
use Rattle.std.specs.Prelude.{slice_get}
use Rattle.std.proofs.lemmas.List.{length-append, length-map}
use Rattle.std.proofs.lemmas.Option.{slice_get_cases}
use Rattle.json_model.specs.Parts.{trees_in}
use Rattle.json_model.specs.Tree.{Tree, scalar, array, object, Elements, no_elements, element, Members, keys, values}
use Rattle.jsonb_layout.specs.Layout.{Item}
use Rattle.jsonb_layout.specs.declared.form.Form.{Form}
use Rattle.jsonb_layout.specs.declared.form.Form.TheVariants.{Array, Object, Lone}
use Rattle.jsonb_layout.specs.Options.{◌>>=◌}
use Rattle.jsonb_layout.specs.Stands.{key_item, IsArray, IsObject, AreElements, AreValues, Stands}
use Rattle.jsonb_layout.specs.Seats.{Seat, trees_of, tree_at, AreKeys, Holds, Leads, IsSeat, SeatStands}
use Rattle.jsonb_layout.proofs.Containers.{not_five}
use Rattle.jsonb_layout.proofs.OneLayout.{one_layout}
use Rattle.jsonb_layout.proofs.Extents.{one_held}
use Rattle.jsonb_layout.proofs.SeatLaws.{one_root}
use Rattle.jsonb_layout.proofs.SeatTrees.{value_elements, values_count, tree_in, root_stands}

-- ---- how many values there are

-- There is one item for each tree.
trees_count : (ts : Elements) (at : ℕ) (xs : List Item) → AreElements ts at xs → length (trees_in ts) ≡ length xs
trees_count no_elements at [] h = refl
trees_count no_elements at (x ∷ xs) h = absurd h
trees_count (element t ts) at [] h = absurd h
trees_count (element t ts) at (x ∷ xs) h = ap suc (trees_count ts (at + length x.piece) xs h.1)

-- The values of an array are all of its items.
array_values : (f : Form) (ks xs items : List Item) → f ≡ Array → AreKeys f ks xs → ks ++ xs ≡ items → length xs ≡ length items
array_values Array ks xs items f k e = omega (arith, ap length k, ap length e, length-append ks xs)
array_values Object ks xs items f k e = absurd cc
array_values Lone ks xs items f k e = absurd k

-- The values of an object are as many as its keys.
object_values : (f : Form) (ks xs js items : List Item) → f ≡ Object → AreKeys f ks xs → ks ++ xs ≡ js ++ items → length js ≡ length items
    → length xs ≡ length items
object_values Array ks xs js items f k e n = absurd cc
object_values Object ks xs js items f k e n = omega (arith, k, n, ap length e, length-append ks xs, length-append js items)
object_values Lone ks xs js items f k e n = absurd k

-- ---- a value that is held

-- the values of an array or object, of which one is held
abbrev all_values : {s : Seat} {i : ℕ} {c : Seat} → Holds s i c → List Item
all_values h = h.before ++ (h.item ∷ h.after)

in_array : (s : Seat) (i : ℕ) (c : Seat) (ts : Elements) (h : Holds s i c) → IsArray (AreElements ts) s.bytes
    → length (all_values h) ≡ length (trees_in ts)
in_array s i c ts h (items, l, are) =
    let same = one_layout s.bytes h.form Array (h.keys ++ all_values h) items h.laid l in
    array_values h.form h.keys (all_values h) items same.0 h.values same.1 ∙ sym (trees_count ts 0 items are)

in_object : (s : Seat) (i : ℕ) (c : Seat) (ms : Members) (h : Holds s i c) → IsObject (keys ms) (AreValues ms) s.bytes
    → length (all_values h) ≡ length (trees_in (values ms))
in_object s i c ms h (items, l, rise, are) =
    let ks = map key_item (keys ms) in
    let same = one_layout s.bytes h.form Object (h.keys ++ all_values h) (ks ++ items) h.laid l in
    object_values h.form h.keys (all_values h) ks items same.0 h.values same.1 (length-map (keys ms) key_item ∙ values_count ms _ items are)
    ∙ sym (trees_count (values ms) _ items (value_elements ms _ items are))

-- What holds a value stands for a tree with as many trees in it as there are values.
as_many : (s : Seat) (i : ℕ) (c : Seat) (t : Tree) (h : Holds s i c) → SeatStands s t → length (all_values h) ≡ length (trees_of t)
as_many s i c (scalar x) h k = absurd (not_five x 0 (record { kind = s.kind; piece = s.bytes }) k h.container)
as_many s i c (array ts) h (five, (q, b, k)) = in_array s i c ts h (subst (IsArray (AreElements ts)) (sym b) k)
as_many s i c (object ms) h (five, (q, b, k)) = in_object s i c ms h (subst (IsObject (keys ms) (AreValues ms)) (sym b) k)

-- A value that is held stands for the tree of its number.
held_stands : (s : Seat) (i : ℕ) (c : Seat) (t : Tree) → Holds s i c → SeatStands s t
    → (u : Tree) × (slice_get (trees_of t) i ≡ Some u) × SeatStands c u
held_stands s i c t h k =
    let few : i < length (trees_of t) = omega (arith, h.number, as_many s i c t h k, length-append h.before (h.item ∷ h.after)) in
    elim (slice_get_cases (trees_of t) i).1 [
      | inl (u, lt, e, g) ↦
          let f = tree_in s t i u k e in
          (u, e, subst (λ (d : Seat). SeatStands d u) (one_held s i f.seat c f.held h) f.stands)
      | inr (le, e) ↦ absurd (omega (arith, few, le))
    ]

-- ---- along a way

led_stands : (way : List ℕ) (s c : Seat) (t : Tree) → SeatStands s t → Leads way s c → (u : Tree) × (tree_at way t ≡ Some u) × SeatStands c u
led_stands [] s c t k e = (t, refl, subst (λ (d : Seat). SeatStands d t) e k)
led_stands (i ∷ is) s c t k (m, h, l) =
    let a = held_stands s i m t h k in
    let more = led_stands is m c a.0 a.2 l in
    (more.0, ap (λ (r : Option Tree). r >>= tree_at is) a.1 ∙ more.1, more.2)

-- Each seat of what stands for a tree is that of a place of the tree, and what lies there stands for the tree at the place.
pub seat_has_place : (b way : List ℕ) (t : Tree) (s : Seat) → Stands b t → IsSeat b way s → (u : Tree) × (tree_at way t ≡ Some u) × SeatStands s u
seat_has_place b way t s h (r, root, l) =
    let base = root_stands b t h in
    led_stands way r s t (subst (λ (d : Seat). SeatStands d t) (one_root b base.0 r base.1 root) base.2) l
