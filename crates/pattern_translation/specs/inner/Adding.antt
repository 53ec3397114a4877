-- Texts written at the end of a string.
use Rattle.std.specs.Prelude.{◌≡◌, ℕ, Bool, true, false, ◌||◌, ◌==◌, List, [], ◌∷◌, ◌++◌, Some}
use lib.Utf8.{encodes}
use Rattle.pattern_model.specs.Text.{Text}
use Rattle.pattern_model.specs.Tree.{Item, Token}
use Rattle.pattern_model.specs.Classes.{class_part}
use Rattle.pattern_model.specs.Tokens.{token_from}
use Rattle.rust_pattern_model.specs.Refusals.{refers_back}
use Rattle.rust_pattern_model.specs.Translation.{WritesPart, WritesToken}

-- the text stands behind the bytes
abbrev pub Adds : List ℕ → List ℕ → Text → Type 0
Adds old new x = new ≡ old ++ encodes x

-- a part of a class is written behind the bytes, if x begins with one
abbrev pub AddsPart : List ℕ → List ℕ → Text → Text → Text → Text → Type 0
AddsPart old new before x last y =
    (p : List Item × Text) → class_part true x ≡ Some p → (w : Text) × (p.1 ≡ y) × WritesPart before x last y w × Adds old new w

-- a token is written behind the bytes, if c and x begin with one
abbrev pub AddsToken : List ℕ → List ℕ → ℕ → Text → Text → Type 0
AddsToken old new c x y =
    (p : Token × Text) → token_from true c x ≡ Some p → (w : Text) × (p.1 ≡ y) × WritesToken (c == 91) p.0 c x y w × Adds old new w

-- some token is a back-reference
abbrev pub token_refers : Token → Bool
token_refers (Token.leaf l) = refers_back l
token_refers _ = false

abbrev pub refers_in : List Token → Bool
refers_in [] = false
refers_in (t ∷ ts) = token_refers t || refers_in ts
