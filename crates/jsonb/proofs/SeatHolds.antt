-- Where the elements of an array and the values of an object lie.
use Rattle.std.proofs.Common.{◌≡◌, ℕ, ◌+◌, List, length, map, Option, Some, None, sym, ap, subst, ◌∙◌}
use Rattle.json_model.specs.Parts.{pairs_of}
use Rattle.jsonb_layout.specs.declared.form.Form.TheVariants.{Array, Object}
use Rattle.jsonb_layout.specs.Options.{◌>>=◌}
use Rattle.jsonb_layout.specs.inner.Reading.{Place, opened}
use Rattle.jsonb_layout.specs.inner.SeatReading.{seats_at}
use Rattle.jsonb_layout.specs.Seats.{Seat, AreHeld}
use Rattle.jsonb_layout.specs.inner.Trees.{read}
use Rattle.jsonb_layout.proofs.SeatRuns.{array_held, object_held}
use Rattle.jsonb_layout.proofs.Tools.{IsBytes}
use Rattle.jsonb.specs.Seated.{member_seats, member_tree, or_no_members, values_of, object_seats}
use Rattle.jsonb.specs.inner.Values.{IsJsonTree, skip}
use Rattle.jsonb.proofs.MemberLaws.{holds, keys_names, object_stands, array_read, object_read, members_stand, members_pairs}
use Rattle.jsonb.proofs.SeatTrees.{member_trees, member_values}
use Rattle.jsonb.specs.Nodes.{object_tree}
use Rattle.jsonb.specs.inner.Views.{place}
use Rattle.jsonb.specs.declared.object.JsonbObject.{JsonbObject}

-- the members of an object whose keys begin at a place
abbrev pub seats_behind : ℕ → ℕ → Place → List (List ℕ × Seat)
seats_behind s c p = or_no_members (skip c p >>= λ q. Some (member_seats s c p q))

-- the members of an object, where its keys end
pub seats_behind_is : (s c : ℕ) (p q : Place) → Some q ≡ skip c p → member_seats s c p q ≡ seats_behind s c p
seats_behind_is s c p q e = ap (λ (r : Option Place). or_no_members (r >>= λ q. Some (member_seats s c p q))) e

abbrev holder : ℕ → List ℕ → Seat
holder at b = record { at = at; kind = 5; bytes = b }

module _ (at s : ℕ) (b : List ℕ) (json : IsJsonTree (read b)) {c : ℕ} {p : Place} where
  -- an array holds its elements where they are said to lie
  pub array_holds : Some (Array, c, p) ≡ opened b → IsBytes b → s ≡ at + 4 + length p.words → AreHeld (holder at b) (seats_at s c p)
  array_holds e fits is =
      subst (λ (n : ℕ). AreHeld (holder at b) (seats_at n c p)) (sym is) (array_held at c b p _ fits (sym e) (array_read b json c p e).1)

  -- an object holds its values where they are said to lie
  pub object_holds : Some (Object, c, p) ≡ opened b → IsBytes b → s ≡ at + 4 + length p.words → AreHeld (holder at b) (values_of (seats_behind s c p))
  object_holds e fits is =
      let o = holds c p (object_stands b json e) in
      let n = keys_names c None p (o.names, o.behind) o.keys_are in
      let held = object_held at b _ fits (sym e) o.keys_are (object_read b json c p e).1 in
      let moved = subst (λ (n : ℕ). AreHeld (holder at b) (seats_at n c o.behind)) (sym is) held in
      let values = member_values s c p o.behind (o.names, o.behind) n.0 in
      subst (AreHeld (holder at b)) (sym values ∙ ap values_of (seats_behind_is s c p o.behind (sym n.1))) moved

-- the members of an object have its keys and trees
pub object_trees : (o : JsonbObject) → map member_tree (object_seats o) ≡ pairs_of (object_tree o)
object_trees o =
    let s = o.keys.payload in
    let c = o.keys.count in
    let p = place o.keys.start in
    let k = holds c p o.stands in
    let behind = sym (keys_names c None p (k.names, k.behind) k.keys_are).1 in
    ap (map member_tree) (sym (seats_behind_is s c p k.behind behind))
    ∙ member_trees s c p k.behind (members_stand o behind)
    ∙ members_pairs o behind

-- where the keys end, the seats of the members are told
pub seats_are : (o : JsonbObject) {q : Place} → Some q ≡ skip o.keys.count (place o.keys.start)
    → member_seats o.keys.payload o.keys.count (place o.keys.start) q ≡ object_seats o
seats_are o {q = q} e = seats_behind_is o.keys.payload o.keys.count (place o.keys.start) q e
