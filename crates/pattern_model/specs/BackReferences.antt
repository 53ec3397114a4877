-- Which groups back-references may name (ECMA-262, section 22.2.1.1: the early errors on AtomEscape).
use Rattle.std.specs.Prelude.{Bool, List, [], nat_le, ℕ, ◌++◌, ◌+◌, ◌∷◌}
use Rattle.std.specs.List.{list_all}
use Rattle.pattern_model.specs.SharedNames.{is_in}
use Rattle.pattern_model.specs.Tree.{Name, Leaf, Mark, Tree}

-- how many groups have a number: those marked `Capture` or `Named` (CountLeftCapturingParensWithin)
abbrev pub mark_captures : Mark → ℕ
mark_captures Mark.capture = 1
mark_captures (Mark.named n) = 1
mark_captures _ = 0

abbrev pub captures : Tree → ℕ
captures Tree.empty = 0
captures (Tree.leaf l) = 0
captures (Tree.group m t) = mark_captures m + captures t
captures (Tree.repeat t b) = captures t
captures (Tree.sequence l r) = captures l + captures r
captures (Tree.either l r) = captures l + captures r

-- the numbers of the back-references
abbrev pub leaf_numbers : Leaf → List ℕ
leaf_numbers (Leaf.back_number n) = n ∷ []
leaf_numbers _ = []

abbrev pub numbers : Tree → List ℕ
numbers Tree.empty = []
numbers (Tree.leaf l) = leaf_numbers l
numbers (Tree.group m t) = numbers t
numbers (Tree.repeat t b) = numbers t
numbers (Tree.sequence l r) = numbers l ++ numbers r
numbers (Tree.either l r) = numbers l ++ numbers r

-- the names of the back-references
abbrev pub leaf_references : Leaf → List Name
leaf_references (Leaf.back_name n) = n ∷ []
leaf_references _ = []

abbrev pub references : Tree → List Name
references Tree.empty = []
references (Tree.leaf l) = leaf_references l
references (Tree.group m t) = references t
references (Tree.repeat t b) = references t
references (Tree.sequence l r) = references l ++ references r
references (Tree.either l r) = references l ++ references r

-- each back-reference by number has its group, and each by name
abbrev pub in_number : ℕ → List ℕ → Bool
in_number most ns = list_all (λ n. nat_le n most) ns

abbrev pub in_names : List Name → List Name → Bool
in_names ms ns = list_all (λ n. is_in n ms) ns
