-- Where the values of nodes lie in the root's slice.
use Rattle.std.specs.Prelude.{ℕ, zero, suc, List, [], ◌∷◌, Option, Some, None, map}
use Rattle.std.specs.Borrow.{Bor}
use Rattle.json_model.specs.Tree.{Tree}
use Rattle.json_traits.specs.declared.identity.NodeIdentity.{NodeIdentity}
use Rattle.jsonb_layout.specs.Options.{◌>>=◌}
use Rattle.jsonb_layout.specs.inner.Reading.{Place, item_at}
use Rattle.jsonb_layout.specs.inner.SeatReading.{seat_at, seats_at}
use Rattle.jsonb_layout.specs.Seats.{Seat, pair_of}
use Rattle.jsonb.specs.inner.Values.{kind_number, kind_of, value_of, or_null, skip}
use Rattle.jsonb.specs.inner.Views.{place}
use Rattle.jsonb.specs.declared.array.JsonbArray.{JsonbArray}
use Rattle.jsonb.specs.declared.cursor.Cursor.{Cursor}
use Rattle.jsonb.specs.declared.members.JsonbMembers.{JsonbMembers}
use Rattle.jsonb.specs.declared.node.JsonbNode.{JsonbNode}
use Rattle.jsonb.specs.declared.object.JsonbObject.{JsonbObject}

-- where a node's value lies
abbrev pub node_seat : JsonbNode → Seat
node_seat n = record { at = n.offset; kind = kind_number n.kind; bytes = n.bytes.now }

-- the identity of the pair of numbers of where it lies
abbrev pub node_identity : JsonbNode → NodeIdentity
node_identity n = record { address = (pair_of (node_seat n)).0; tag = (pair_of (node_seat n)).1 }

abbrev pub some_identity : JsonbNode → Option NodeIdentity
some_identity n = Some (node_identity n)

-- the tree of a value that lies there
abbrev pub seat_tree : Seat → Tree
seat_tree s = or_null (kind_of s.kind >>= λ k. value_of k s.bytes)

-- ---- elements

-- where the elements lie
abbrev pub array_seats : JsonbArray → List Seat
array_seats a = seats_at a.elements.payload a.elements.count (place a.elements.start)

-- where those lie that are left
abbrev pub seats_left : Cursor → List Seat
seats_left c = seats_at c.left.payload c.left.count (place c.left.start)

-- ---- members

abbrev pub or_no_members : Option (List (List ℕ × Seat)) → List (List ℕ × Seat)
or_no_members None = []
or_no_members (Some ms) = ms

-- so many keys from one place on, each with where its value lies, from the other on
unfoldable pub member_seats : ℕ → ℕ → Place → Place → List (List ℕ × Seat)
member_seats s zero p q = []
member_seats s (suc n) p q = or_no_members (do
  x ← item_at p
  y ← item_at q
  Some ((x.0.piece, seat_at s q y.0) ∷ member_seats s n x.1 y.1))

-- the keys, each with where its value lies
abbrev pub object_seats : JsonbObject → List (List ℕ × Seat)
object_seats o =
    or_no_members (skip o.keys.count (place o.keys.start) >>= λ q. Some (member_seats o.keys.payload o.keys.count (place o.keys.start) q))

abbrev pub values_of : List (List ℕ × Seat) → List Seat
values_of ms = map (λ m. m.1) ms

-- those that are left
abbrev pub members_left : JsonbMembers → List (List ℕ × Seat)
members_left m = member_seats m.values.payload m.values.count (place m.keys) (place m.values.start)

abbrev pub member_seat : Bor (List ℕ) × JsonbNode → List ℕ × Seat
member_seat p = (p.0.now, node_seat p.1)

abbrev pub member_tree : List ℕ × Seat → List ℕ × Tree
member_tree m = (m.0, seat_tree m.1)
