-- The pairs that an iterator over a map has left. This project's own.
use Rattle.std.specs.Prelude.{ℕ, List, map}
use Rattle.std.specs.Borrow.{Bor}
use Rattle.json_model.specs.Tree.{Tree}
use Rattle.json_exact.specs.Trees.{tree, member_pair}
use Rattle.json_exact.specs.declared.value.Value.{Value}
use Rattle.json_exact.specs.declared.map_iter.MapIter.{MapIter}

-- the pair of a borrowed key and value
abbrev pub item_pair : Bor (List ℕ) × Bor Value → List ℕ × Tree
item_pair p = (p.0.now, tree p.1.now)

abbrev pub left : MapIter → List (List ℕ × Tree)
left it = map member_pair it.members.now
