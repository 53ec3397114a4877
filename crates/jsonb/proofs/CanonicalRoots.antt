-- The root of a slice is canonical exactly where the slice is.
use Rattle.std.proofs.Common.{◌≡◌, List, ℕ, [], refl, sym, subst}
use Rattle.std.specs.Prelude.{◌↔◌}
use Rattle.json_model.specs.Tree.{Tree}
use Rattle.jsonb_layout.specs.Seats.{IsRoot}
use Rattle.jsonb_layout.specs.Stands.{Stands}
use Rattle.jsonb_layout.proofs.Tools.{some_is}
use Rattle.jsonb_encode.specs.Canonical.{IsCanonical, SeatIsCanonical}
use Rattle.jsonb_encode.specs.Encoded.{canonical}
use Rattle.jsonb_encode.proofs.Canonical.{canonical_is}
use Rattle.jsonb_encode.proofs.CanonicalSeats.{root_takes, root_again}
use Rattle.jsonb.specs.Nodes.{node_tree}
use Rattle.jsonb.specs.Seated.{node_seat}
use Rattle.jsonb.specs.declared.node.JsonbNode.{JsonbNode}
use Rattle.jsonb.proofs.PlaceLaws.{tree_of_place}

module _ (b : List ℕ) (n : JsonbNode) (t : Tree) (h : Stands b t) (root : IsRoot b (node_seat n)) where
  tree_is : t ≡ node_tree n
  tree_is = some_is t (node_tree n) (tree_of_place b n t [] h (node_seat n, root, refl))

  -- a root is canonical for its tree exactly where the slice is
  pub root_is_slice : SeatIsCanonical (node_seat n) (node_tree n) ↔ IsCanonical b t
  root_is_slice = (
    λ k. root_takes t b (node_seat n) h root (subst (SeatIsCanonical (node_seat n)) (sym tree_is) k),
    λ k. subst (SeatIsCanonical (node_seat n)) tree_is (root_again t b (node_seat n) root k),
  )

  -- and the slice then is the canonical bytes of its tree
  pub root_is_bytes : SeatIsCanonical (node_seat n) (node_tree n) → b ≡ canonical t
  root_is_bytes k = canonical_is t b (root_is_slice.0 k)
