-- Patterns by Rust's written grammar: the part of the pattern syntax of the crate `regex` (its documentation, section "Syntax") that is
-- spoken of here. Which part that is, is this project's own, and that the crate reads it so is not proved. Alternatives, rows and
-- quantifiers are as in ECMA-262 (section 22.2.1), and so is the tree that they make.
use Rattle.std.specs.Prelude.{◌≡◌, ℕ, Bool, true, false, ◌||◌, ◌==◌, List, [], ◌∷◌, ◌++◌, Option, Some, None, codes, if◌then◌else◌}
use Rattle.std.specs.List.{list_all}
use Rattle.std.specs.Str.{chars}
use Rattle.pattern_model.specs.Text.{Text, is_at}
use Rattle.pattern_model.specs.SharedNames.{apart}
use Rattle.pattern_model.specs.Members.{is_no_property, class_has}
use Rattle.pattern_model.specs.Tree.{Item, Leaf, Mark, Tree, Token, tokens_of, Level, fits}
use Rattle.pattern_model.specs.Tokens.{token_from}
use Rattle.rust_pattern_model.specs.Refusals.{is_plain_name, has_wide_count}
use Rattle.rust_pattern_model.specs.RustClasses.{Items, escape, rust_class_has, ReadsClass}

-- the characters that are not plain outside of classes: ^ $ \ . * + ? ( ) [ { |
abbrev pub is_syntax : ℕ → Bool
is_syntax c =
    c == 94 || (c == 36 || (c == 92 || (c == 46 || (c == 42 || (c == 43 || (c == 63 || (c == 40 || (c == 41 || (c == 91 || (c == 123
    || c == 124))))))))))

-- outside of classes: an escape, or a plain character
abbrev pub character : Text → Option (ℕ × Text)
character [] = None
character (c ∷ x) = if c == 92 then escape x else if is_syntax c then None else Some (c, x)

-- y is a class and the rest. A tree's class has no class in it and no property escape. It stands for each class that has its members,
-- and the caret may stand in either alone.
pub record ReadsSet (y : Text) (negated : Bool) (items : List Item) (rest : Text) : Type 0 where
  pub caret : Bool
  pub inner : Items
  pub class : ReadsClass y caret inner rest
  pub plain : list_all is_no_property items ≡ true
  pub same : (c : ℕ) → rust_class_has caret inner c ≡ class_has negated items c

-- a quantifier, as ECMA-262 has it, with counts below 2^32
pub record ReadsTimes (y : Text) (t : Token) (rest : Text) : Type 0 where
  pub first : ℕ
  pub after : Text
  pub begins : y ≡ first ∷ after
  pub read : token_from true first after ≡ Some (t, rest)

-- y is this token and the rest
abbrev pub ReadsToken : Text → Token → Text → Type 0
ReadsToken y (Token.leaf (Leaf.code c)) rest = character y ≡ Some (c, rest)
ReadsToken y (Token.leaf Leaf.start) rest = y ≡ codes "^" ++ rest
ReadsToken y (Token.leaf Leaf.end) rest = y ≡ codes "$" ++ rest
ReadsToken y (Token.leaf (Leaf.class negated items)) rest = ReadsSet y negated items rest
ReadsToken y (Token.leaf _) rest = ⊥
ReadsToken y (Token.opens Mark.capture) rest = (y ≡ codes "(" ++ rest) × (is_at 63 rest ≡ false)
ReadsToken y (Token.opens Mark.plain) rest = y ≡ codes "(?:" ++ rest
ReadsToken y (Token.opens (Mark.named n)) rest = (y ≡ codes "(?<" ++ (chars n ++ (codes ">" ++ rest))) × (is_plain_name n ≡ true)
ReadsToken y (Token.opens _) rest = ⊥
ReadsToken y Token.closes rest = y ≡ codes ")" ++ rest
ReadsToken y Token.bar rest = y ≡ codes "|" ++ rest
ReadsToken y (Token.times b) rest = ReadsTimes y (Token.times b) rest × (has_wide_count b ≡ false)

-- y is these tokens, one after the other
abbrev pub ReadsTokens : Text → List Token → Type 0
ReadsTokens y [] = y ≡ []
ReadsTokens y (t ∷ ts) = (rest : Text) × ReadsToken y t rest × ReadsTokens rest ts

-- the text has the tree; groups share names as in ECMA-262
pub record RustGrammar (y : Text) (t : Tree) : Type 0 where
  pub fits : fits Level.disjunction t ≡ true
  pub reads : ReadsTokens y (tokens_of t)
  pub apart : apart t ≡ true
