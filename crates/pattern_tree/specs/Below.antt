-- Each node of a pattern stands after its parts. This project's own.
use Rattle.std.specs.Prelude.{ℕ, ◌+◌, Bool, true, ◌&&◌, nat_lt, List, [], ◌∷◌}
use Rattle.pattern_tree.specs.declared.node.Node.{Node}
use Rattle.pattern_tree.specs.declared.node.Shape.{Shape}
use Rattle.pattern_tree.specs.declared.node.Shape.TheVariants as shapes

-- the parts stand before this place
abbrev pub parts_below : ℕ → Shape → Bool
parts_below n shapes.Empty = true
parts_below n (shapes.Single l) = true
parts_below n (shapes.Group m i) = nat_lt i n
parts_below n (shapes.Repeat i c) = nat_lt i n
parts_below n (shapes.Sequence i j) = nat_lt i n && nat_lt j n
parts_below n (shapes.Either i j) = nat_lt i n && nat_lt j n

-- each of the nodes, the first of which has this place, stands after its parts
abbrev pub all_below : ℕ → List Node → Bool
all_below n [] = true
all_below n (m ∷ ms) = parts_below n m.shape && all_below (n + 1) ms
