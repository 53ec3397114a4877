-- What is known of the nodes of a pattern in memory.
use Rattle.std.specs.Prelude.{◌≡◌, ℕ, ◌<◌, ◌≤◌, List, length, slice_index_or}
use Rattle.pattern_model.specs.Tree.{Tree}
use Rattle.pattern_tree.specs.declared.pattern.Pattern.{Pattern}
use Rattle.pattern_tree.specs.Patterns.{node_tree}
use Rattle.pattern_translation.specs.declared.facts.Facts as rust
use Rattle.rust_pattern_model.specs.Refusals.{has_look_around, has_back_reference, has_other_part, depth, is_vague}

-- the facts are those of the tree
pub record AreOf (f : rust.Facts) (t : Tree) : Type 0 where
  pub look : f.look_around ≡ has_look_around t
  pub back : f.back_reference ≡ has_back_reference t
  pub other : f.other_part ≡ has_other_part t
  pub vague : f.vague ≡ is_vague t
  pub deep : f.depth ≡ depth t

-- each node has its facts, and there are nodes enough for the groups in it
pub record NodesHave (p : Pattern) (fs : List rust.Facts) : Type 0 where
  pub facts : (k : ℕ) (d : rust.Facts) → k < length fs → AreOf (slice_index_or fs k d) (node_tree p (record { 0 = k }))
  pub few : (k : ℕ) (d : rust.Facts) → k < length fs → (slice_index_or fs k d).depth ≤ k
