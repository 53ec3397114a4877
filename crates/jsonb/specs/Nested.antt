-- Arrays in arrays, and their bytes.
use Rattle.std.specs.Prelude.{ℕ, zero, suc, ◌+◌, ◌*◌, ◌^◌, List, [], ◌∷◌, ◌++◌}
use Rattle.json_model.specs.Tree.{Tree, array, no_elements, element}
use Rattle.jsonb_layout.specs.Layout.{words}

-- so many arrays of one element around an empty one
abbrev pub nested_arrays : ℕ → Tree
nested_arrays zero = array no_elements
nested_arrays (suc depth) = array (element (nested_arrays depth) no_elements)

-- their bytes: an array inside takes eight bytes for each array around an empty one, and four
abbrev pub nested_bytes : ℕ → List ℕ
nested_bytes zero = words (4 * 2 ^ 28 ∷ [])
nested_bytes (suc depth) = words ((4 * 2 ^ 28 + 1) ∷ (2 ^ 31 + 5 * 2 ^ 28 + (8 * depth + 4)) ∷ []) ++ nested_bytes depth
