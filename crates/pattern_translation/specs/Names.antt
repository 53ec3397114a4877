-- The nodes of a pattern in memory that are still to be looked at, the next one first.
use Rattle.std.specs.Prelude.{◌≡◌, ℕ, ◌+◌, ◌<◌, Bool, true, false, ◌||◌, List, [], ◌∷◌, ◌++◌, reverse}
use Rattle.std.specs.Str.{bytes_eq}
use Rattle.pattern_model.specs.Tree.{Name, Tree}
use Rattle.pattern_model.specs.SharedNames.{names}
use Rattle.pattern_tree.specs.declared.form.NodeId.{NodeId}
use Rattle.pattern_tree.specs.declared.pattern.Pattern.{Pattern}
use Rattle.pattern_tree.specs.Patterns.{HasNode, node_tree}

-- some name of the list passes the test, or stands there twice
abbrev pub shares : (Name → Bool) → List Name → Bool
shares seen [] = false
shares seen (n ∷ ns) = seen n || shares (λ q. seen q || bytes_eq n q) ns

-- the names of the groups in them
abbrev pub names_of : Pattern → List NodeId → List Name
names_of p [] = []
names_of p (i ∷ is) = names (node_tree p i) ++ names_of p is

abbrev pub tree_size : Tree → ℕ
tree_size Tree.empty = 1
tree_size (Tree.leaf l) = 1
tree_size (Tree.group m t) = 1 + tree_size t
tree_size (Tree.repeat t b) = 1 + tree_size t
tree_size (Tree.sequence l r) = 1 + (tree_size l + tree_size r)
tree_size (Tree.either l r) = 1 + (tree_size l + tree_size r)

abbrev pub size_of : Pattern → List NodeId → ℕ
size_of p [] = 0
size_of p (i ∷ is) = tree_size (node_tree p i) + size_of p is

abbrev pub HaveNodes : Pattern → List NodeId → Type 0
HaveNodes p [] = Unit {0}
HaveNodes p (i ∷ is) = HasNode p i × HaveNodes p is

-- A node was looked at, and its parts are next: what is left has the same names but those that were seen.
pub record Looked (p : Pattern) (id : NodeId) (old new : List NodeId) (before after : Name → Bool) : Type 0 where
  pub same : shares after (names_of p (reverse new)) ≡ shares before (names (node_tree p id) ++ names_of p (reverse old))
  pub nodes : HaveNodes p (reverse old) → HaveNodes p (reverse new)
  pub fewer : size_of p (reverse new) < tree_size (node_tree p id) + size_of p (reverse old)

abbrev pub LooksAt : Pattern → NodeId → List NodeId → List NodeId → (Name → Bool) → (Name → Bool) → Bool → Type 0
LooksAt p id old new before after true = shares before (names (node_tree p id) ++ names_of p (reverse old)) ≡ true
LooksAt p id old new before after false = Looked p id old new before after
