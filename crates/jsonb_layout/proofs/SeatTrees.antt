-- Each place of the tree that bytes stand for has a seat, and what lies there stands for the tree at the place.
use Rattle.std.proofs.Common.{◌≡◌, ℕ, zero, suc, ◌+◌, true, false, List, [], ◌∷◌, ◌++◌, length, map, drop, Some, refl, sym, ap, subst, ◌∙◌, arith}
use Rattle.std.specs.Prelude.{slice_get, if◌then◌else◌}
use Rattle.std.proofs.lemmas.List.{length-append, length-map, length-replicate, drop_at}
use Rattle.json_model.specs.Parts.{trees_in}
use Rattle.json_model.specs.Tree.{Scalar, null, boolean, number, string, Tree, scalar, array, object, Elements, no_elements, element, Members, no_members, member, keys, values}
use Rattle.jsonb_layout.specs.Layout.{Item, pieces, Laid, pad}
use Rattle.jsonb_layout.specs.declared.form.Form.TheVariants.{Array, Object, Lone}
use Rattle.jsonb_layout.specs.Stands.{padding, key_item, IsScalar, IsArray, IsObject, IsItem, AreElements, AreValues, Stands}
use Rattle.jsonb_layout.specs.Seats.{Seat, trees_of, tree_at, is_padded, own_bytes, item_seat, Holds, Leads, IsRoot, IsSeat, SeatStands}
use Rattle.jsonb_layout.proofs.Tools.{bind_some}
use Rattle.jsonb_layout.proofs.Extents.{pieces-append}

-- ---- the seat of an item

own_by : ℕ → ℕ → Item → List ℕ
own_by kind at x = if is_padded kind then drop (pad at) x.piece else x.piece

own_is : (at : ℕ) (x : Item) (kind : ℕ) → x.kind ≡ kind → own_bytes at x ≡ own_by kind at x
unfolding own_by
own_is at x kind e = ap (λ (k : ℕ). if is_padded k then drop (pad at) x.piece else x.piece) e

-- Behind its padding a piece is the own bytes.
unpad : (at : ℕ) (piece q : List ℕ) → piece ≡ padding at ++ q → drop (pad at) piece ≡ q
unpad at piece q e = ap (drop (pad at)) e ∙ drop_at (padding at) q (pad at) (length-replicate (pad at) 0)

scalar_own : (s : Scalar) (at : ℕ) (x : Item) → IsScalar s at x → IsScalar s 0 (record { kind = x.kind; piece = own_bytes at x })
unfolding own_by
scalar_own null at x h = (h.0, own_is at x 4 h.0 ∙ h.1)
scalar_own (boolean true) at x h = (h.0, own_is at x 3 h.0 ∙ h.1)
scalar_own (boolean false) at x h = (h.0, own_is at x 2 h.0 ∙ h.1)
scalar_own (number d) at x h = (h.0, (h.1.0, own_is at x 1 h.0 ∙ unpad at x.piece h.1.0 h.1.1, h.1.2))
scalar_own (string s) at x h = (h.0, own_is at x 0 h.0 ∙ h.1)

own_stands : (t : Tree) (at : ℕ) (x : Item) → IsItem t at x → IsItem t 0 (record { kind = x.kind; piece = own_bytes at x })
unfolding own_by
own_stands (scalar s) at x h = scalar_own s at x h
own_stands (array ts) at x h = (h.0, (h.1.0, own_is at x 5 h.0 ∙ unpad at x.piece h.1.0 h.1.1, h.1.2))
own_stands (object ms) at x h = (h.0, (h.1.0, own_is at x 5 h.0 ∙ unpad at x.piece h.1.0 h.1.1, h.1.2))

-- What an item stands for, its seat stands for.
item_stands : (t : Tree) (start n : ℕ) (before : List Item) (x : Item) → IsItem t (length (pieces before)) x
    → SeatStands (item_seat start n before x) t
item_stands t start n before x h = own_stands t (length (pieces before)) x h

-- ---- the item of a tree in a tree

-- Of these items from a place on, the one with this number stands for the tree.
record Picked (items : List Item) (at i : ℕ) (t : Tree) : Type 0 where
  before : List Item
  item : Item
  after : List Item
  split : items ≡ before ++ (item ∷ after)
  number : length before ≡ i
  stands : IsItem t (at + length (pieces before)) item

pick : (ts : Elements) (i at : ℕ) (items : List Item) (t : Tree) → AreElements ts at items → slice_get (trees_in ts) i ≡ Some t → Picked items at i t
pick no_elements i at items t h e = absurd cc
pick (element u ts) i at [] t h e = absurd h
pick (element u ts) zero at (x ∷ xs) t h e =
    let same : u ≡ t = cc in
    record {
      before = [];
      item = x;
      after = xs;
      split = refl;
      number = refl;
      stands = subst (λ (k : ℕ). IsItem t k x) (omega arith) (subst (λ (v : Tree). IsItem v at x) same h.0);
    }
pick (element u ts) (suc i) at (x ∷ xs) t h e =
    let p = pick ts i (at + length x.piece) xs t h.1 e in
    let place : at + length x.piece + length (pieces p.before) ≡ at + length (x.piece ++ pieces p.before) =
    omega (arith, length-append x.piece (pieces p.before)) in
    record {
      before = x ∷ p.before;
      item = p.item;
      after = p.after;
      split = ap (λ (l : List Item). x ∷ l) p.split;
      number = ap suc p.number;
      stands = subst (λ (k : ℕ). IsItem t k p.item) place p.stands;
    }

-- the values of an object, as elements
pub value_elements : (ms : Members) (at : ℕ) (xs : List Item) → AreValues ms at xs → AreElements (values ms) at xs
value_elements no_members at [] h = h
value_elements no_members at (x ∷ xs) h = h
value_elements (member k t ms) at [] h = h
value_elements (member k t ms) at (x ∷ xs) h = (h.0, value_elements ms (at + length x.piece) xs h.1)

-- A member has one item for its value.
pub values_count : (ms : Members) (at : ℕ) (xs : List Item) → AreValues ms at xs → length (keys ms) ≡ length xs
values_count no_members at [] h = refl
values_count no_members at (x ∷ xs) h = absurd h
values_count (member k t ms) at [] h = absurd h
values_count (member k t ms) at (x ∷ xs) h = ap suc (values_count ms (at + length x.piece) xs h.1)

-- ---- a tree in a tree

-- At a seat that s holds under this number, something stands for the tree.
pub record Found (s : Seat) (i : ℕ) (t : Tree) : Type 0 where
  pub seat : Seat
  pub held : Holds s i seat
  pub stands : SeatStands seat t

in_array : (s : Seat) (ts : Elements) (i : ℕ) (t : Tree) → s.kind ≡ 5 → IsArray (AreElements ts) s.bytes → slice_get (trees_in ts) i ≡ Some t
    → Found s i t
in_array s ts i t five (items, l, are) e =
    let p = pick ts i 0 items t are e in
    let all = p.before ++ (p.item ∷ p.after) in
    let place : 0 + length (pieces p.before) ≡ length (pieces p.before) = omega arith in
    record {
      seat = item_seat s.at (length all) p.before p.item;
      held =
          record {
            form = Array;
            keys = [];
            before = p.before;
            item = p.item;
            after = p.after;
            container = five;
            laid = subst (λ (xs : List Item). Laid s.bytes Array xs) p.split l;
            values = refl;
            number = p.number;
            seat = refl;
          };
      stands = item_stands t s.at (length all) p.before p.item (subst (λ (k : ℕ). IsItem t k p.item) place p.stands);
    }

in_object : (s : Seat) (ms : Members) (i : ℕ) (t : Tree) → s.kind ≡ 5 → IsObject (keys ms) (AreValues ms) s.bytes
    → slice_get (trees_in (values ms)) i ≡ Some t → Found s i t
in_object s ms i t five (items, l, rise, are) e =
    let ks = map key_item (keys ms) in
    let at = length (pieces ks) in
    let p = pick (values ms) i at items t (value_elements ms at items are) e in
    let own = p.before ++ (p.item ∷ p.after) in
    let n : length ks ≡ length own = length-map (keys ms) key_item ∙ values_count ms at items are ∙ ap length p.split in
    record {
      seat = item_seat s.at (length (ks ++ own)) (ks ++ p.before) p.item;
      held =
          record {
            form = Object;
            keys = ks;
            before = p.before;
            item = p.item;
            after = p.after;
            container = five;
            laid = subst (λ (xs : List Item). Laid s.bytes Object (ks ++ xs)) p.split l;
            values = n;
            number = p.number;
            seat = refl;
          };
      stands =
          item_stands t s.at (length (ks ++ own)) (ks ++ p.before) p.item
          (subst (λ (k : ℕ). IsItem t k p.item) (sym (pieces-append ks p.before)) p.stands);
    }

-- the tree of a number among those in a tree
pub tree_in : (s : Seat) (t : Tree) (i : ℕ) (u : Tree) → SeatStands s t → slice_get (trees_of t) i ≡ Some u → Found s i u
tree_in s (scalar x) i u h e = absurd cc
tree_in s (array ts) i u (five, (q, b, h)) e = in_array s ts i u five (subst (IsArray (AreElements ts)) (sym b) h) e
tree_in s (object ms) i u (five, (q, b, h)) e = in_object s ms i u five (subst (IsObject (keys ms) (AreValues ms)) (sym b) h) e

-- A way into the tree leads to a seat.
leads_to : (way : List ℕ) (s : Seat) (t u : Tree) → SeatStands s t → tree_at way t ≡ Some u → (c : Seat) × Leads way s c × SeatStands c u
leads_to [] s t u h e = let same : t ≡ u = cc in (s, refl, subst (λ (v : Tree). SeatStands s v) same h)
leads_to (i ∷ is) s t u h e =
    let a = bind_some (slice_get (trees_of t) i) (tree_at is) u e in
    let f = tree_in s t i a.0 h a.1 in
    let more = leads_to is f.seat a.0 u f.stands a.2 in
    (more.0, (f.seat, f.held, more.1), more.2)

-- ---- the whole

-- the root stands for the whole tree
pub root_stands : (b : List ℕ) (t : Tree) → Stands b t → (r : Seat) × IsRoot b r × SeatStands r t
root_stands b (scalar s) (x, l, h) = (item_seat 0 1 [] x, (Lone, x ∷ [], l, refl), item_stands (scalar s) 0 1 [] x h)
root_stands b (array ts) (items, l, are) = (record { at = 0; kind = 5; bytes = b }, (Array, items, l, refl), (refl, (b, refl, (items, l, are))))
root_stands b (object ms) (items, l, rise, are) =
    (record { at = 0; kind = 5; bytes = b }, (Object, map key_item (keys ms) ++ items, l, refl), (refl, (b, refl, (items, l, rise, are))))

-- Each place of the tree that bytes stand for has a seat, and what lies there stands for the tree at the place.
pub place_has_seat : (b way : List ℕ) (t u : Tree) → Stands b t → tree_at way t ≡ Some u → (s : Seat) × IsSeat b way s × SeatStands s u
place_has_seat b way t u h e =
    let root = root_stands b t h in
    let end = leads_to way root.0 t u root.2 e in
    (end.0, (root.0, root.1, end.1), end.2)
