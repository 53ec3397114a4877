-- The texts of a grammar, each with its tree.
use Rattle.std.specs.Prelude.{Bool, true, ◌≡◌}
use Rattle.pattern_model.specs.Text.{Text}
use Rattle.pattern_model.specs.Tokens.{Spells}
use Rattle.pattern_model.specs.SharedNames.{names, apart}
use Rattle.pattern_model.specs.BackReferences.{captures, numbers, references, in_number, in_names}
use Rattle.pattern_model.specs.Tree.{Tree}

-- the text is in the grammar, with this tree
pub record Grammar (wide : Bool) (x : Text) (t : Tree) : Type 0 where
  pub spells : Spells wide x t
  -- of two groups with one name, one stands in the left and one in the right of some either
  pub apart : apart t ≡ true
  pub named : in_names (names t) (references t) ≡ true
  pub numbered : in_number (captures t) (numbers t) ≡ true
