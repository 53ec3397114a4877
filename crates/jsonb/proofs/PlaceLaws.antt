-- Two nodes have the same identity exactly where they are the same place, and a node has the tree of its place.
use Rattle.std.proofs.Common.{◌≡◌, ℕ, List, Bool, true, false, eqb, Option, Some, refl, sym, ap, subst, ◌∙◌}
use Rattle.std.specs.Prelude.{IsTrue, ◌↔◌, ◌&&◌}
use Rattle.std.proofs.lemmas.Bool.{eq-eqb, eqb-true, and_parts}
use Rattle.json_traits.specs.declared.identity.NodeIdentity.{NodeIdentity}
use Rattle.json_model.specs.Decimal.{Decimal}
use Rattle.json_model.specs.Tree.{null, boolean, number, string, Tree, scalar, array, object}
use Rattle.jsonb_layout.specs.Options.{◌>>=◌}
use Rattle.jsonb_layout.specs.inner.Reading.{numeric_of}
use Rattle.jsonb_layout.specs.Seats.{Seat, IsSeat, pair_of, tree_at}
use Rattle.jsonb_layout.specs.Stands.{IsItem, Stands}
use Rattle.jsonb_layout.specs.inner.Trees.{read}
use Rattle.jsonb_layout.proofs.Containers.{read_again}
use Rattle.jsonb_layout.proofs.Numbers.{numeric_again}
use Rattle.jsonb_layout.proofs.SeatLaws.{one_seat, one_pair}
use Rattle.jsonb_layout.proofs.SeatPlaces.{seat_has_place}
use Rattle.jsonb_layout.proofs.Tools.{some_is, some}
use Rattle.jsonb.specs.Nodes.{node_tree}
use Rattle.jsonb.specs.Seated.{node_seat, node_identity, some_identity}
use Rattle.jsonb.specs.inner.Values.{kind_number, kind_of, value_of, or_null}
use Rattle.jsonb.specs.declared.kind.Kind.{Kind}
use Rattle.jsonb.specs.declared.kind.Kind.TheVariants as kinds
use Rattle.jsonb.specs.declared.node.JsonbNode.{JsonbNode}
use Rattle.jsonb.proofs.SeatTrees.{number_kind}

both_eqb : (a b c d : ℕ) → a ≡ b → c ≡ d → (eqb a b && eqb c d) ≡ true
both_eqb a b c d e f = rw (eq-eqb a b e, eq-eqb c d f) refl

pair_same : (a b c d : ℕ) → a ≡ b → c ≡ d → ◌≡◌ {A = ℕ × ℕ} (a, c) (b, d)
pair_same a b c d e f = rw (e, f) refl

-- ---- two nodes

module _ (bytes : List ℕ) (m n : JsonbNode) (v w : List ℕ) (h : IsSeat bytes v (node_seat m)) (k : IsSeat bytes w (node_seat n)) where
  -- one place, one identity
  again : v ≡ w → node_identity m ≡ node_identity n
  again one =
      ap (λ (s : Seat). identity_at (pair_of s).0 (pair_of s).1)
      (one_seat bytes v (node_seat m) (node_seat n) h (subst (λ (u : List ℕ). IsSeat bytes u (node_seat n)) (sym one) k))
    where
      identity_at : ℕ → ℕ → NodeIdentity
      identity_at address tag = record { address = address; tag = tag }

  same_numbers : (node_identity m).address ≡ (node_identity n).address → (node_identity m).tag ≡ (node_identity n).tag → v ≡ w
  same_numbers e f =
      one_pair bytes v w (node_seat m) (node_seat n) h k
      (pair_same (node_identity m).address (node_identity n).address (node_identity m).tag (node_identity n).tag e f)

  -- two nodes have one identity exactly where they are one place
  pub same_identity : (node_identity m ≡ node_identity n) ↔ (v ≡ w)
  same_identity = (λ e. same_numbers (ap (λ (i : NodeIdentity). i.address) e) (ap (λ (i : NodeIdentity). i.tag) e), again)

  -- and the test of both numbers tells it
  pub same_place : (x y : NodeIdentity) (r : Bool) → Some x ≡ some_identity m → Some y ≡ some_identity n
      → r ≡ (eqb x.address y.address && eqb x.tag y.tag) → IsTrue r ↔ (v ≡ w)
  same_place x y r e f g = (told, λ one. tells (again one))
    where
      left_is : x ≡ node_identity m
      left_is = some_is x (node_identity m) e

      right_is : y ≡ node_identity n
      right_is = some_is y (node_identity n) f

      told : IsTrue r → v ≡ w
      told t =
          let both = and_parts (eqb x.address y.address) (eqb x.tag y.tag) (sym g ∙ t) in
          same_numbers
          (ap (λ (i : NodeIdentity). i.address) (sym left_is) ∙ eqb-true x.address y.address both.0 ∙ ap (λ (i : NodeIdentity). i.address) right_is)
          (ap (λ (i : NodeIdentity). i.tag) (sym left_is) ∙ eqb-true x.tag y.tag both.1 ∙ ap (λ (i : NodeIdentity). i.tag) right_is)

      tells : node_identity m ≡ node_identity n → IsTrue r
      tells s =
          let one : x ≡ y = left_is ∙ s ∙ sym right_is in
          g ∙ both_eqb x.address y.address x.tag y.tag (ap (λ (i : NodeIdentity). i.address) one) (ap (λ (i : NodeIdentity). i.tag) one)

-- ---- the tree of a node

kind_one : (k j : Kind) → kind_number k ≡ kind_number j → k ≡ j
kind_one k j e = some_is k j (sym (number_kind k) ∙ ap kind_of e ∙ number_kind j)

-- what stands for a tree as an item without padding is of its kind, and is read to the tree
module _ (k : Kind) (b : List ℕ) where
  by_kind : (j : Kind) (u : Tree) → kind_number k ≡ kind_number j → value_of j b ≡ Some u → value_of k b ≡ Some u
  by_kind j u e f = subst (λ (i : Kind). value_of i b ≡ Some u) (sym (kind_one k j e)) f

  pub stands_value : (u : Tree) → IsItem u 0 (record { kind = kind_number k; piece = b }) → value_of k b ≡ Some u
  stands_value (scalar null) h = by_kind kinds.Null (scalar null) h.0 refl
  stands_value (scalar (boolean true)) h = by_kind kinds.True (scalar (boolean true)) h.0 refl
  stands_value (scalar (boolean false)) h = by_kind kinds.False (scalar (boolean false)) h.0 refl
  stands_value (scalar (number d)) (e, (q, f, h)) =
      by_kind kinds.Number (scalar (number d)) e
      (ap (λ (r : Option Decimal). r >>= λ d. some (scalar (number d))) (ap numeric_of f ∙ numeric_again q d h))
  stands_value (scalar (string s)) h = by_kind kinds.String (scalar (string s)) h.0 (ap (λ (s : List ℕ). some (scalar (string s))) h.1)
  stands_value (array ts) (e, (q, f, h)) = by_kind kinds.Container (array ts) e (ap read f ∙ read_again q (array ts) h)
  stands_value (object ms) (e, (q, f, h)) = by_kind kinds.Container (object ms) e (ap read f ∙ read_again q (object ms) h)

-- a node has the tree of its place
pub tree_of_place : (bytes : List ℕ) (n : JsonbNode) (t : Tree) (way : List ℕ) → Stands bytes t → IsSeat bytes way (node_seat n)
    → tree_at way t ≡ Some (node_tree n)
tree_of_place bytes n t way h k =
    let u = seat_has_place bytes way t (node_seat n) h k in
    u.1 ∙ ap (some {A = Tree}) (sym (ap or_null (stands_value n.kind n.bytes.now u.0 u.2)))
