-- A text that a tree matches with `^`, `$`, `\b` and `\B` read as empty, of at most 256 bytes of UTF-8 (RFC 3629). Which text is this project's own.
use Rattle.std.specs.Prelude.{ℕ, zero, suc, ◌+◌, Bool, ◌&&◌, ◌==◌, nat_le, if◌then◌else◌, [], ◌∷◌, ◌++◌, length, Option, Some, None, option_and_then, option_map}
use Rattle.std.specs.List.{list_all}
use Rattle.std.specs.Option.{option_or}
use lib.Utf8.{encodes, scalar}
use Rattle.pattern_model.specs.Text.{Text}
use Rattle.pattern_model.specs.Members.{escape_has, class_has, is_no_property}
use Rattle.pattern_model.specs.Tree.{Leaf, Count, Tree, is_assertion}

-- the text, if it is not too long
unfoldable pub short : Text → Option Text
short w = if nat_le (length (encodes w)) 256 then Some w else None

-- the least character from c on, among so many code points, that passes the test
unfoldable pub least_from : (ℕ → Bool) → ℕ → ℕ → Option ℕ
least_from test zero c = None
least_from test (suc n) c = if scalar c && test c then Some c else least_from test n (c + 1)

-- the least Unicode scalar value that passes the test
unfoldable pub least : (ℕ → Bool) → Option ℕ
least test = least_from test 1114112 0

-- `a` where it is a member, else the least character that is one
abbrev pub member : (ℕ → Bool) → Option Text
member test = if test 97 then Some (97 ∷ []) else option_map (λ c. c ∷ []) (least test)

-- a code point that is no character has none, and what is told of by a property has none
abbrev pub leaf_witness : Leaf → Option Text
leaf_witness (Leaf.code c) = if scalar c then Some (c ∷ []) else None
leaf_witness Leaf.dot = Some (97 ∷ [])
leaf_witness Leaf.start = Some []
leaf_witness Leaf.end = Some []
leaf_witness Leaf.boundary = Some []
leaf_witness Leaf.not_boundary = Some []
leaf_witness (Leaf.escape e) = member (escape_has e)
leaf_witness (Leaf.class negated items) = if list_all is_no_property items then member (class_has negated items) else None
leaf_witness _ = None

-- both texts, one after the other
abbrev pub joined : Option Text → Option Text → Option Text
joined None w = None
joined (Some v) w = option_and_then (λ u. short (v ++ u)) w

-- the text so many times
abbrev pub times : ℕ → Text → Text
times zero w = []
times (suc n) w = w ++ times n w

-- as often as it has to stand, up to 64 times
abbrev pub repeated : Count → Option Text → Option Text
repeated Count.wide w = None
repeated (Count.number n) w =
    if n == 0 then Some []
    else if nat_le n 64 then option_and_then (λ u. short (times n u)) w
    else None

-- the witness of a tree, if it has one
abbrev pub witness : Tree → Option Text
witness Tree.empty = Some []
witness (Tree.leaf l) = leaf_witness l
witness (Tree.group m t) = witness t
witness (Tree.repeat t b) = repeated b.least (witness t)
witness (Tree.sequence l r) = joined (witness l) (witness r)
witness (Tree.either l r) = option_or (witness l) (witness r)

abbrev pub free_leaf : Leaf → Tree
free_leaf l = if is_assertion l then Tree.empty else Tree.leaf l

-- the tree with its starts, ends and boundaries read as empty
abbrev pub without_assertions : Tree → Tree
without_assertions Tree.empty = Tree.empty
without_assertions (Tree.leaf l) = free_leaf l
without_assertions (Tree.group m t) = Tree.group m (without_assertions t)
without_assertions (Tree.repeat t b) = Tree.repeat (without_assertions t) b
without_assertions (Tree.sequence l r) = Tree.sequence (without_assertions l) (without_assertions r)
without_assertions (Tree.either l r) = Tree.either (without_assertions l) (without_assertions r)
