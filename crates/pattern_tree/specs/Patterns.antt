-- What a pattern in memory holds: a tree and a place in the source at each node. This project's own.
use Rattle.std.specs.Prelude.{ℕ, ◌<◌, Bool, List, [], length, map, slice_index_or}
use Rattle.pattern_model.specs.Tree.{Tree}
use Rattle.pattern_tree.specs.declared.form.NodeId.{NodeId}
use Rattle.pattern_tree.specs.declared.span.Span.{Span}
use Rattle.pattern_tree.specs.declared.pattern.Pattern.{Pattern}
use Rattle.pattern_tree.specs.declared.node.Single.{Single}
use Rattle.pattern_tree.specs.declared.node.Single.TheVariants as singles
use Rattle.pattern_tree.specs.declared.node.Shape.{Shape}
use Rattle.pattern_tree.specs.declared.node.Shape.TheVariants as shapes
use Rattle.pattern_model.specs.Text.{Text}
use Rattle.pattern_model.specs.Spans.{PlacedItem}
use Rattle.pattern_tree.specs.Nodes.{trees_of, tree_at, span_at}
use Rattle.pattern_tree.specs.Spans.{AllFit, NodeStands, placed_of}

-- the id names a node of the pattern
abbrev pub HasNode : Pattern → NodeId → Type 0
HasNode p id = id.0 < length p.nodes.items

abbrev pub node_tree : Pattern → NodeId → Tree
node_tree p id = tree_at (trees_of p.nodes.items) id.0

abbrev pub node_span : Pattern → NodeId → Span
node_span p id = span_at p.nodes.items id.0

abbrev pub single_places : Single → List PlacedItem
single_places (singles.Class negated items) = map placed_of items.items
single_places _ = []

abbrev pub shape_places : Shape → List PlacedItem
shape_places (shapes.Single l) = single_places l
shape_places _ = []

-- the items of a class, each with its place; none of another node
abbrev pub node_items : Pattern → NodeId → List PlacedItem
node_items p id = shape_places (slice_index_or p.nodes.items id.0 (record {
  shape = shapes.Empty;
  span = record { start = 0; end = 0 };
})).shape

-- the tree of the whole pattern
abbrev pub tree_of : Pattern → Tree
tree_of p = tree_at (trees_of p.nodes.items) p.root

-- each node stands in the source x where its place says, and the whole is the source, which has so many bytes
pub record SpansStand (wide : Bool) (x : Text) (p : Pattern) (bytes : ℕ) : Type 0 where
  pub whole : NodeStands p.nodes.items p.root 0 bytes
  pub nodes : AllFit wide x p.nodes.items
