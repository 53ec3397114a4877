-- The tokens of a text, by the ECMA grammar or by the widened one, which a setting tells (ECMA-262, section 22.2.1: Term, Atom,
-- AtomEscape, Assertion). The widened grammar is this project's own.
use Rattle.std.specs.Prelude.{Bool, List, None, Option, Some, [], drop, false, if◌then◌else◌, nat_le, option_map, true, ℕ, ◌&&◌, ◌==◌, ◌||◌, ◌∷◌, ◌≡◌}
use Rattle.pattern_model.specs.Text.{Text, is_at}
use Rattle.pattern_model.specs.Digits.{digits}
use Rattle.pattern_model.specs.Escapes.{character_escape, class_escape}
use Rattle.pattern_model.specs.Properties.{past_property}
use Rattle.pattern_model.specs.GroupNames.{name}
use Rattle.pattern_model.specs.Classes.{class_items}
use Rattle.pattern_model.specs.Quantifiers.{quantifier, braces}
use Rattle.pattern_model.specs.Groups.{opening}
use Rattle.pattern_model.specs.Tree.{Escape, Item, Name, Leaf, Count, Tree, Token, tokens_of, Level, fits}

abbrev pub class_token : Bool → List Item × Text → Token × Text
class_token negated p = (Token.leaf (Leaf.class negated p.0), drop 1 p.1)

-- CharacterClass, after its bracket
unfoldable pub class_from : Bool → Text → Option (Token × Text)
class_from wide x =
    if is_at 94 x then option_map (class_token true) (class_items wide (drop 1 x))
    else option_map (class_token false) (class_items wide x)

abbrev pub leaf_of_name : Name × Text → Token × Text
leaf_of_name p = (Token.leaf (Leaf.back_name p.0), p.1)

-- `k` GroupName, after its `k`
unfoldable pub back_name : Text → Option (Token × Text)
back_name x = if is_at 60 x then option_map leaf_of_name (name (drop 1 x)) else None

abbrev pub leaf_of_number : ℕ × Text → Token × Text
leaf_of_number p = (Token.leaf (Leaf.back_number p.0), p.1)

abbrev pub leaf_of_code : ℕ × Text → Token × Text
leaf_of_code p = (Token.leaf (Leaf.code p.0), p.1)

abbrev pub property_leaf : Bool → Text → Option (Token × Text)
property_leaf negated x = option_map (λ y. (Token.leaf (Leaf.property negated), y)) (past_property x)

abbrev pub escape_or_code : ℕ → Text → Option Escape → Option (Token × Text)
escape_or_code c x (Some e) = Some (Token.leaf (Leaf.escape e), x)
escape_or_code c x None = option_map leaf_of_code (character_escape c x)

-- AtomEscape and the assertions `\b` and `\B`, after the backslash
unfoldable pub escaped : Text → Option (Token × Text)
escaped [] = None
escaped (c ∷ x) =
    if c == 98 then Some (Token.leaf Leaf.boundary, x)
    else if c == 66 then Some (Token.leaf Leaf.not_boundary, x)
    else if c == 112 then property_leaf false x
    else if c == 80 then property_leaf true x
    else if c == 107 then back_name x
    else if nat_le 49 c && nat_le c 57 then Some (leaf_of_number (digits (c ∷ x)))
    else escape_or_code c x (class_escape c)

-- the token that begins with this character, and what follows it
unfoldable pub token_from : Bool → ℕ → Text → Option (Token × Text)
token_from wide c x =
    if c == 124 then Some (Token.bar, x)
    else if c == 40 then opening x
    else if c == 41 then Some (Token.closes, x)
    else if c == 42 then Some (quantifier (Count.number 0) None x)
    else if c == 43 then Some (quantifier (Count.number 1) None x)
    else if c == 63 then Some (quantifier (Count.number 0) (Some (Count.number 1)) x)
    else if c == 123 then braces x
    else if c == 46 then Some (Token.leaf Leaf.dot, x)
    else if c == 94 then Some (Token.leaf Leaf.start, x)
    else if c == 36 then Some (Token.leaf Leaf.end, x)
    else if c == 91 then class_from wide x
    else if c == 92 then escaped x
    else if c == 93 || c == 125 then (if wide then Some (Token.leaf (Leaf.code c), x) else None)
    else Some (Token.leaf (Leaf.code c), x)

-- the text is these tokens, one after the other
abbrev pub Reads : Bool → Text → List Token → Type 0
Reads wide x [] = x ≡ []
Reads wide x (t ∷ ts) = (c : ℕ) × (after : Text) × (rest : Text) × (x ≡ c ∷ after) × (token_from wide c after ≡ Some (t, rest)) ×
    Reads wide rest ts

-- the text has the tree: the shape alone, without the tests on names and numbers
pub record Spells (wide : Bool) (x : Text) (t : Tree) : Type 0 where
  pub fits : fits Level.disjunction t ≡ true
  pub reads : Reads wide x (tokens_of t)
