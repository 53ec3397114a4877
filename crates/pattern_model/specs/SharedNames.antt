-- Which groups may share a name (ECMA-262, section 22.2.1.1: the early error on MightBothParticipate).
use Rattle.std.specs.Prelude.{Bool, List, [], nat_eq, not, true, ◌&&◌, ◌++◌, ◌∷◌}
use Rattle.std.specs.List.{list_any}
use lib.Pointwise.{pointwise}
use Rattle.pattern_model.specs.Tree.{Name, Mark, Tree}

abbrev pub is_in : Name → List Name → Bool
is_in n ns = list_any (λ m. pointwise nat_eq n m) ns

-- no name of the first is one of the second
abbrev pub disjoint : List Name → List Name → Bool
disjoint [] ns = true
disjoint (m ∷ ms) ns = not (is_in m ns) && disjoint ms ns

abbrev pub mark_names : Mark → List Name
mark_names (Mark.named n) = n ∷ []
mark_names _ = []

-- the names of the groups of a tree
abbrev pub names : Tree → List Name
names Tree.empty = []
names (Tree.leaf l) = []
names (Tree.group m t) = mark_names m ++ names t
names (Tree.repeat t b) = names t
names (Tree.sequence l r) = names l ++ names r
names (Tree.either l r) = names l ++ names r

-- of two groups with one name, one stands in the left and one in the right of some either
abbrev pub apart : Tree → Bool
apart Tree.empty = true
apart (Tree.leaf l) = true
apart (Tree.group m t) = apart t && disjoint (names t) (mark_names m)
apart (Tree.repeat t b) = apart t
apart (Tree.sequence l r) = apart l && (apart r && disjoint (names r) (names l))
apart (Tree.either l r) = apart l && apart r
