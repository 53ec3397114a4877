-- What the string under `pattern` asks of a string (JSON Schema 2020-12, validation, section 6.3.3): that some part of it is a
-- match. Patterns are those of ECMA-262 with the flag `u`. That only literal ones are taken is this project's own.
use Rattle.std.specs.Prelude.{ℕ, List, false}
use Rattle.json_model.specs.Parts.{points}
use Rattle.pattern_model.specs.Grammar.{Grammar}
use Rattle.pattern_model.specs.Literals.{Analysis, IsAnalysis}
use Rattle.pattern_model.specs.Matches.{MatchesSome}
use Rattle.pattern_model.specs.Tree as pattern

-- the string is a pattern: it has a tree
abbrev pub IsPattern : List ℕ → Type 0
IsPattern s = (t : pattern.Tree) × Grammar false (points s) t

-- the string is a literal pattern, which needs no engine
abbrev pub IsLiteral : List ℕ → Type 0
IsLiteral s = (a : Analysis) × IsAnalysis (points s) a

-- the pattern s matches some part of the string y
abbrev pub Finds : List ℕ → List ℕ → Type 0
Finds s y = (t : pattern.Tree) × Grammar false (points s) t × MatchesSome t (points y)
