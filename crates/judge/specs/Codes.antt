-- What answers a line of the command `encode`. The bytes are those that PostgreSQL stores for the value of the line's JSON text (RFC 8259),
-- in hex (RFC 4648, section 8); the names of the refusals are this project's own.
use Rattle.std.specs.Prelude.{◌≡◌, ◌⊎◌, ℕ, true, List, None, Some, IsUtf8, codes}
use Rattle.hex.specs.Hex.{encode_lower}
use Rattle.json_exact.specs.Serde.{Writes}
use Rattle.json_model.specs.Tree.{Tree}
use Rattle.jsonb_encode.specs.Encoded.{canonical}
use Rattle.jsonb_encode.specs.Limits.{IsWithinLimits}
use Rattle.jsonb_encode.specs.declared.number_form.NumericForm.TheVariants.{Short}
use Rattle.serde_json.specs.Data.{Data}
use Rattle.serde_json.specs.Read.{read}
use Rattle.serde_json.specs.Written.{has_float}

-- the line is JSON text that writes a tree, and the answer is the hex of the tree's bytes
pub record IsEncoded (line answer : List ℕ) : Type 0 where
  pub utf8 : IsUtf8 line
  pub tree : Tree
  pub writes : Writes line tree
  pub within : IsWithinLimits Short tree
  pub is : answer ≡ encode_lower (canonical tree)

-- the line is no JSON text
pub record IsNotJson (line answer : List ℕ) : Type 0 where
  pub cause : (IsUtf8 line → ⊥) ⊎ (read line ≡ None)
  pub named : answer ≡ codes "NotJson"

-- the line is JSON text with a float in it
pub record IsFloat (line answer : List ℕ) : Type 0 where
  pub utf8 : IsUtf8 line
  pub value : Data
  pub reads : read line ≡ Some value
  pub float : has_float value ≡ true
  pub named : answer ≡ codes "Float"

-- the line is JSON text that writes a tree, which has a container past the limits of the layout
pub record IsTooLarge (line answer : List ℕ) : Type 0 where
  pub utf8 : IsUtf8 line
  pub tree : Tree
  pub writes : Writes line tree
  pub over : IsWithinLimits Short tree → ⊥
  pub named : answer ≡ codes "TooLarge"

-- the answer to a line of the command `encode`
abbrev pub CodeAnswer : List ℕ → List ℕ → Type 0
CodeAnswer line answer =
    IsEncoded line answer ⊎ (IsNotJson line answer ⊎ (IsFloat line answer ⊎ IsTooLarge line answer))
