-- The trees of what lies in seats are those that are read.
use Rattle.std.proofs.Common.{◌≡◌, ℕ, zero, suc, ◌+◌, ◌-◌, ◌<◌, List, [], ◌∷◌, length, map, Option, Some, None, refl, sym, ap, subst, ◌∙◌}
use Rattle.std.specs.Borrow.{Bor}
use Rattle.std.specs.Iterator.{YieldsFirstBy}
use Rattle.json_model.specs.Parts.{elements_of}
use Rattle.json_model.specs.Tree.{Tree}
use Rattle.json_traits.specs.Gives.{Gives}
use Rattle.json_traits.proofs.GivesLaws.{gives_through}
use Rattle.jsonb_layout.specs.Layout.{Item}
use Rattle.jsonb_layout.specs.Options.{◌>>=◌}
use Rattle.jsonb_layout.specs.inner.Reading.{Place, item_at}
use Rattle.jsonb_layout.specs.inner.SeatReading.{seat_at, seats_at}
use Rattle.jsonb_layout.specs.Seats.{Seat}
use Rattle.jsonb_layout.specs.inner.Trees.{elements_by, item_tree}
use Rattle.jsonb_layout.proofs.SeatRuns.{seats_step}
use Rattle.jsonb_layout.proofs.Tools.{bind_some, less_one, some}
use Rattle.jsonb.specs.Nodes.{node_tree}
use Rattle.jsonb.specs.Seated.{node_seat, seat_tree, member_seat, member_tree, member_seats, values_of, seats_left, members_left}
use Rattle.jsonb.specs.inner.Values.{kind_number, kind_of, value_of, IsJsonTree, AreJsonMembers, or_null, array_at, names_at, members_at, pairs_at}
use Rattle.jsonb.specs.declared.cursor.Cursor.{Cursor}
use Rattle.jsonb.specs.declared.kind.Kind.{Kind}
use Rattle.jsonb.specs.declared.kind.Kind.TheVariants as kinds
use Rattle.jsonb.specs.declared.members.JsonbMembers.{JsonbMembers}
use Rattle.jsonb.specs.declared.node.JsonbNode.{JsonbNode}
use Rattle.jsonb.proofs.CursorLaws.{next_element, element_there}
use Rattle.jsonb.proofs.MemberLaws.{next_member, member_there}
use Rattle.jsonb.proofs.OwnLaws.{seat_has_tree}
use Rattle.jsonb.specs.inner.Views.{place}
use Rattle.jsonb.specs.declared.items.Items.{Items}

-- the kind of a number of a kind is that kind
pub number_kind : (k : Kind) → kind_of (kind_number k) ≡ Some k
number_kind kinds.String = refl
number_kind kinds.Number = refl
number_kind kinds.False = refl
number_kind kinds.True = refl
number_kind kinds.Null = refl
number_kind kinds.Container = refl

-- a node's tree is that of its seat
pub node_is_seat : (n : JsonbNode) → node_tree n ≡ seat_tree (node_seat n)
node_is_seat n = ap (λ (r : Option Kind). or_null (r >>= λ k. value_of k n.bytes.now)) (sym (number_kind n.kind))

abbrev pub pair_tree : Bor (List ℕ) × JsonbNode → List ℕ × Tree
pair_tree p = (p.0.now, node_tree p.1)

-- a member's too
pub pair_is_seat : (p : Bor (List ℕ) × JsonbNode) → pair_tree p ≡ member_tree (member_seat p)
pair_is_seat p = ap (λ (t : Tree). (p.0.now, t)) (node_is_seat p.1)

seat_tree_is : (s : ℕ) (p : Place) (x : Item) → IsJsonTree (item_tree p.at x) → seat_tree (seat_at s p x) ≡ or_null (item_tree p.at x)
seat_tree_is s p x json = ap or_null (seat_has_tree p.at x json (s - length p.words) (s + p.at))

-- ---- elements

-- the seat of the first item that is left, and those of the others
pub seats_go_on : (i : Items) {x : Item} {q : Place} → 0 < i.count → Some (x, q) ≡ item_at (place i.start)
    → seats_at i.payload i.count (place i.start) ≡ seat_at i.payload (place i.start) x ∷ seats_at i.payload (i.count - 1) q
seats_go_on i {x = x} {q = q} lt e =
    ap (λ (k : ℕ). seats_at i.payload k (place i.start)) (sym (less_one i.count lt))
    ∙ seats_step i.payload (i.count - 1) (place i.start) q x (sym e)

-- where no items are left, nothing lies
pub no_seats_left : (i : Items) → i.count ≡ 0 → seats_at i.payload i.count (place i.start) ≡ []
unfolding seats_at
no_seats_left i e = ap (λ (k : ℕ). seats_at i.payload k (place i.start)) e

no_elements_seats : (s : ℕ) (p : Place) → map seat_tree (seats_at s zero p) ≡ elements_of (or_null (array_at zero p))
unfolding seats_at elements_by
no_elements_seats s p = refl

-- what lies where the elements do are their trees
pub element_seats : (s n : ℕ) (p : Place) → IsJsonTree (array_at n p) → map seat_tree (seats_at s n p) ≡ elements_of (or_null (array_at n p))
element_seats s zero p json = no_elements_seats s p
element_seats s (suc n) p json =
    let x = element_there n p json in
    let next = next_element n p x.0.1 x.0.0 x.1 json in
    ap (map seat_tree) (seats_step s n p x.0.1 x.0.0 x.1)
    ∙ ap (λ (t : Tree). t ∷ map seat_tree (seats_at s n x.0.1)) (seat_tree_is s p x.0.0 next.value)
    ∙ ap (λ (ts : List Tree). or_null (item_tree p.at x.0.0) ∷ ts) (element_seats s n x.0.1 next.more)
    ∙ sym next.left

-- ---- members

-- the first of so many members, and the others
pub members_step : (s n : ℕ) (p q : Place) {p' q' : Place} {x y : Item} → item_at p ≡ Some (x, p') → item_at q ≡ Some (y, q')
    → member_seats s (suc n) p q ≡ (x.piece, seat_at s q y) ∷ member_seats s n p' q'
unfolding member_seats
members_step s n p q e f = rw (e, f) refl

-- the first member that is left, and the others
pub members_go_on : (m : JsonbMembers) {x y : Item} {p q : Place} → 0 < m.values.count → Some (x, p) ≡ item_at (place m.keys)
    → Some (y, q) ≡ item_at (place m.values.start)
    → members_left m ≡ (x.piece, seat_at m.values.payload (place m.values.start) y) ∷ member_seats m.values.payload (m.values.count - 1) p q
members_go_on m {x = x} {y = y} {p = p} {q = q} lt e f =
    ap (λ (k : ℕ). member_seats m.values.payload k (place m.keys) (place m.values.start)) (sym (less_one m.values.count lt))
    ∙ members_step m.values.payload (m.values.count - 1) (place m.keys) (place m.values.start) (sym e) (sym f)

-- where no members are left, nothing lies
pub no_members_left : (m : JsonbMembers) → m.values.count ≡ 0 → members_left m ≡ []
unfolding member_seats
no_members_left m e = ap (λ (k : ℕ). member_seats m.values.payload k (place m.keys) (place m.values.start)) e

no_member_trees : (s : ℕ) (p q : Place) → map member_tree (member_seats s zero p q) ≡ pairs_at zero p q
unfolding member_seats names_at elements_by
no_member_trees s p q = refl

-- what lies where the members do are their trees
pub member_trees : (s n : ℕ) (p q : Place) → AreJsonMembers (members_at n p q) → map member_tree (member_seats s n p q) ≡ pairs_at n p q
member_trees s zero p q json = no_member_trees s p q
member_trees s (suc n) p q json =
    let x = member_there n p q json in
    let next = next_member n p x.0.1 q x.2.0.1 x.0.0 x.2.0.0 x.1 x.2.1 json in
    ap (map member_tree) (members_step s n p q x.1 x.2.1)
    ∙ ap (λ (t : Tree). (x.0.0.piece, t) ∷ map member_tree (member_seats s n x.0.1 x.2.0.1)) (seat_tree_is s q x.2.0.0 next.value)
    ∙ ap (λ (ts : List (List ℕ × Tree)). (x.0.0.piece, or_null (item_tree q.at x.2.0.0)) ∷ ts) (member_trees s n x.0.1 x.2.0.1 next.more)
    ∙ sym next.pairs

-- the values lie where so many items do from their place on
pub member_values : (s n : ℕ) (p q : Place) (r : List (List ℕ) × Place) → names_at n p ≡ Some r → values_of (member_seats s n p q) ≡ seats_at s n q
unfolding member_seats seats_at names_at
member_values s zero p q r e = refl
member_values s (suc n) p q r e =
    let x = bind_some (item_at p) (λ x. names_at n x.1 >>= λ ks. Some (x.0.piece ∷ ks.0, ks.1)) r e in
    let ks = bind_some (names_at n x.0.1) (λ ks. some (x.0.0.piece ∷ ks.0, ks.1)) r x.2 in
    go x.0 x.1 (item_at q) refl (λ y. member_values s n x.0.1 y ks.0 ks.1)
  where
    go : (x : Item × Place) → item_at p ≡ Some x → (y : Option (Item × Place)) → item_at q ≡ y
        → ((q' : Place) → values_of (member_seats s n x.1 q') ≡ seats_at s n q')
        → values_of (member_seats s (suc n) p q) ≡ seats_at s (suc n) q
    go x e None f more = rw (e, f) refl
    go x e (Some y) f more = rw (e, f) (ap (λ (cs : List Seat). seat_at s q y.0 ∷ cs) (more y.1))

-- ---- iterators

-- the nodes of the elements that are left have the trees of their seats
pub elements_given : (c : Cursor) (ts : List Tree) → map seat_tree (seats_left c) ≡ ts → Gives (YieldsFirstBy node_seat seats_left) node_tree c ts
elements_given c ts e =
    subst (λ (us : List Tree). Gives (YieldsFirstBy node_seat seats_left) node_tree c us) e
    (gives_through node_seat seats_left seat_tree node_tree node_is_seat c)

-- the members that are left have the trees of where they lie
pub members_given : (m : JsonbMembers) (ps : List (List ℕ × Tree)) → map member_tree (members_left m) ≡ ps
    → Gives (YieldsFirstBy member_seat members_left) pair_tree m ps
members_given m ps e =
    subst (λ (qs : List (List ℕ × Tree)). Gives (YieldsFirstBy member_seat members_left) pair_tree m qs) e
    (gives_through member_seat members_left member_tree pair_tree pair_is_seat m)
