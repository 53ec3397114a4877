-- Groups, back-references and names, counted on tokens. This project's own.
use Rattle.std.specs.Prelude.{List, [], ℕ, ◌++◌, ◌+◌, ◌∷◌}
use Rattle.pattern_model.specs.SharedNames.{mark_names}
use Rattle.pattern_model.specs.BackReferences.{mark_captures, leaf_numbers, leaf_references}
use Rattle.pattern_model.specs.Tree.{Name, Token}

-- the same, of tokens
abbrev pub token_captures : Token → ℕ
token_captures (Token.opens m) = mark_captures m
token_captures _ = 0

abbrev pub captures_in : List Token → ℕ
captures_in [] = 0
captures_in (t ∷ ts) = token_captures t + captures_in ts

abbrev pub token_numbers : Token → List ℕ
token_numbers (Token.leaf l) = leaf_numbers l
token_numbers _ = []

abbrev pub numbers_in : List Token → List ℕ
numbers_in [] = []
numbers_in (t ∷ ts) = token_numbers t ++ numbers_in ts

abbrev pub token_references : Token → List Name
token_references (Token.leaf l) = leaf_references l
token_references _ = []

abbrev pub references_in : List Token → List Name
references_in [] = []
references_in (t ∷ ts) = token_references t ++ references_in ts

abbrev pub token_names : Token → List Name
token_names (Token.opens m) = mark_names m
token_names _ = []

abbrev pub names_in : List Token → List Name
names_in [] = []
names_in (t ∷ ts) = token_names t ++ names_in ts
