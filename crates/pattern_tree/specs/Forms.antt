-- What the accessors of a pattern tell of the tree at a node.
use Rattle.std.specs.Prelude.{◌≡◌, ◌<◌, List, [], Option, Some, None, option_map}
use Rattle.pattern_tree.specs.declared.form.GroupMark.{GroupMark}
use Rattle.pattern_tree.specs.declared.form.GroupMark.TheVariants as kinds
use Rattle.pattern_tree.specs.declared.form.Form.{Form}
use Rattle.pattern_tree.specs.declared.form.Form.TheVariants as forms
use Rattle.pattern_tree.specs.declared.form.NodeId.{NodeId}
use Rattle.pattern_tree.specs.declared.node.Single.{Single}
use Rattle.pattern_tree.specs.declared.node.Single.TheVariants as singles
use Rattle.pattern_tree.specs.declared.node.Shape.{Shape}
use Rattle.pattern_tree.specs.declared.node.Shape.TheVariants as shapes
use Rattle.pattern_tree.specs.declared.pattern.Pattern.{Pattern}
use Rattle.pattern_model.specs.Tree.{Item, Name, Leaf, Mark, Tree}
use Rattle.pattern_tree.specs.Nodes.{escape_of, mark_of, count_in}
use Rattle.pattern_tree.specs.Patterns.{HasNode, node_tree}

abbrev pub kind_of : Mark → GroupMark
kind_of Mark.capture = kinds.Capture
kind_of (Mark.named n) = kinds.Named
kind_of Mark.plain = kinds.Plain
kind_of Mark.modified = kinds.Modified
kind_of Mark.ahead = kinds.Ahead
kind_of Mark.not_ahead = kinds.NotAhead
kind_of Mark.behind = kinds.Behind
kind_of Mark.not_behind = kinds.NotBehind

abbrev pub single_form : Single → Form
single_form (singles.Code c) = forms.Code c
single_form singles.Dot = forms.Dot
single_form singles.Start = forms.Start
single_form singles.End = forms.End
single_form singles.Boundary = forms.Boundary
single_form singles.NotBoundary = forms.NotBoundary
single_form (singles.Escape e) = forms.Escape e
single_form (singles.Class b items) = forms.Class b
single_form (singles.Property b) = forms.Property b
single_form (singles.BackNumber n) = forms.BackNumber n
single_form (singles.BackName s) = forms.BackName

abbrev pub shape_form : Shape → Form
shape_form shapes.Empty = forms.Empty
shape_form (shapes.Single l) = single_form l
shape_form (shapes.Group m i) = forms.Group (kind_of (mark_of m)) (record { 0 = i })
shape_form (shapes.Repeat i c) = forms.Repeat (record { 0 = i }) c.least c.most c.lazy
shape_form (shapes.Sequence i j) = forms.Sequence (record { 0 = i }) (record { 0 = j })
shape_form (shapes.Either i j) = forms.Either (record { 0 = i }) (record { 0 = j })

-- the node is a part of another: it has a lower number
pub record IsPart (p : Pattern) (id part : NodeId) : Type 0 where
  pub node : HasNode p part
  pub below : part.0 < id.0

-- the form of a node is that of its tree, and the nodes that it names are its parts, whose trees are the parts of its tree
abbrev pub IsForm : Pattern → NodeId → Form → Type 0
IsForm p id forms.Empty = node_tree p id ≡ Tree.empty
IsForm p id (forms.Code c) = node_tree p id ≡ Tree.leaf (Leaf.code c)
IsForm p id forms.Dot = node_tree p id ≡ Tree.leaf Leaf.dot
IsForm p id forms.Start = node_tree p id ≡ Tree.leaf Leaf.start
IsForm p id forms.End = node_tree p id ≡ Tree.leaf Leaf.end
IsForm p id forms.Boundary = node_tree p id ≡ Tree.leaf Leaf.boundary
IsForm p id forms.NotBoundary = node_tree p id ≡ Tree.leaf Leaf.not_boundary
IsForm p id (forms.Escape e) = node_tree p id ≡ Tree.leaf (Leaf.escape (escape_of e))
IsForm p id (forms.Class b) = (items : List Item) × (node_tree p id ≡ Tree.leaf (Leaf.class b items))
IsForm p id (forms.Property b) = node_tree p id ≡ Tree.leaf (Leaf.property b)
IsForm p id (forms.BackNumber n) = node_tree p id ≡ Tree.leaf (Leaf.back_number n)
IsForm p id forms.BackName = (n : Name) × (node_tree p id ≡ Tree.leaf (Leaf.back_name n))
IsForm p id (forms.Group k i) = IsPart p id i × ((m : Mark) × (node_tree p id ≡ Tree.group m (node_tree p i)) × (k ≡ kind_of m))
IsForm p id (forms.Repeat i least most lazy) =
    IsPart p id i × (node_tree p id ≡ Tree.repeat (node_tree p i) (record {
      least = count_in least;
      most = option_map count_in most;
      lazy =
          lazy;
    }))
IsForm p id (forms.Sequence i j) = IsPart p id i × IsPart p id j × (node_tree p id ≡ Tree.sequence (node_tree p i) (node_tree p j))
IsForm p id (forms.Either i j) = IsPart p id i × IsPart p id j × (node_tree p id ≡ Tree.either (node_tree p i) (node_tree p j))

abbrev pub leaf_items : Leaf → List Item
leaf_items (Leaf.class b items) = items
leaf_items _ = []

-- the items of a class, and none of another
abbrev pub tree_items : Tree → List Item
tree_items (Tree.leaf l) = leaf_items l
tree_items _ = []

abbrev pub leaf_name : Leaf → Option Name
leaf_name (Leaf.back_name n) = Some n
leaf_name _ = None

abbrev pub mark_name : Mark → Option Name
mark_name (Mark.named n) = Some n
mark_name _ = None

-- the name of a named group or of a back-reference by name
abbrev pub tree_name : Tree → Option Name
tree_name (Tree.leaf l) = leaf_name l
tree_name (Tree.group m t) = mark_name m
tree_name _ = None
