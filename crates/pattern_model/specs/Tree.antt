-- The tree of a pattern, the tokens that spell it, and which trees have the shape of a pattern (ECMA-262, section 22.2.1:
-- Pattern, Disjunction, Alternative, Term, Assertion, Quantifier, Atom, CharacterClass). That several terms and several
-- alternatives are joined from the left is this project's own.
use Rattle.std.specs.Prelude.{ℕ, Bool, true, false, not, ◌&&◌, nat_lt, List, [], ◌∷◌, ◌++◌, Option, if◌then◌else◌}

-- CharacterClassEscape but for properties: \d \D \s \S \w \W
pub data Escape : Type 0 where
  digit : Escape
  not_digit : Escape
  space : Escape
  not_space : Escape
  word : Escape
  not_word : Escape

-- one member of a class: a code point, a range, a class escape, or a property and whether it is negated
pub data Item : Type 0 where
  one : ℕ → Item
  range : ℕ → ℕ → Item
  escape : Escape → Item
  property : Bool → Item

-- a group's name as it is compared: its decoded characters in UTF-8
abbrev pub Name : Type 0
Name = List ℕ

-- What stands by itself. The assertions are Assertion, the others Atom and AtomEscape.
pub data Leaf : Type 0 where
  code : ℕ → Leaf
  dot : Leaf
  start : Leaf
  end : Leaf
  boundary : Leaf
  not_boundary : Leaf
  escape : Escape → Leaf
  class : Bool → List Item → Leaf
  property : Bool → Leaf
  back_number : ℕ → Leaf
  back_name : Name → Leaf

pub data Mark : Type 0 where
  capture : Mark
  named : Name → Mark
  plain : Mark
  modified : Mark
  ahead : Mark
  not_ahead : Mark
  behind : Mark
  not_behind : Mark

-- a count below 2^32, or one of 2^32 or more
pub data Count : Type 0 where
  number : ℕ → Count
  wide : Count

abbrev pub count_of : ℕ → Count
count_of n = if nat_lt n 4294967296 then Count.number n else Count.wide

pub record Bounds : Type 0 where
  pub least : Count
  pub most : Option Count
  pub lazy : Bool

pub data Tree : Type 0 where
  empty : Tree
  leaf : Leaf → Tree
  group : Mark → Tree → Tree
  repeat : Tree → Bounds → Tree
  sequence : Tree → Tree → Tree
  either : Tree → Tree → Tree

pub data Token : Type 0 where
  leaf : Leaf → Token
  opens : Mark → Token
  closes : Token
  bar : Token
  times : Bounds → Token

-- the tokens of a tree, from left to right
abbrev pub tokens_of : Tree → List Token
tokens_of empty = []
tokens_of (leaf l) = Token.leaf l ∷ []
tokens_of (group m t) = Token.opens m ∷ tokens_of t ++ Token.closes ∷ []
tokens_of (repeat t b) = tokens_of t ++ Token.times b ∷ []
tokens_of (sequence l r) = tokens_of l ++ tokens_of r
tokens_of (either l r) = tokens_of l ++ (Token.bar ∷ tokens_of r)

-- A term is an atom with or without a quantifier, or an assertion. A row is one term or more. An alternative is a row or
-- nothing, and a disjunction is one alternative or more.
pub data Level : Type 0 where
  atom : Level
  term : Level
  row : Level
  alternative : Level
  disjunction : Level

abbrev pub is_assertion : Leaf → Bool
is_assertion Leaf.start = true
is_assertion Leaf.end = true
is_assertion Leaf.boundary = true
is_assertion Leaf.not_boundary = true
is_assertion _ = false

abbrev pub is_look : Mark → Bool
is_look Mark.ahead = true
is_look Mark.not_ahead = true
is_look Mark.behind = true
is_look Mark.not_behind = true
is_look _ = false

abbrev pub is_atom : Level → Bool
is_atom Level.atom = true
is_atom _ = false

-- the level is that of a row, an alternative or a pattern
abbrev pub has_rows : Level → Bool
has_rows Level.atom = false
has_rows Level.term = false
has_rows _ = true

abbrev pub has_empty : Level → Bool
has_empty Level.alternative = true
has_empty Level.disjunction = true
has_empty _ = false

abbrev pub has_bars : Level → Bool
has_bars Level.disjunction = true
has_bars _ = false

abbrev pub if_atom : Level → Bool → Bool
if_atom Level.atom b = b
if_atom _ b = true

-- the tree is one of the level: rows and alternatives are joined from the left
abbrev pub fits : Level → Tree → Bool
fits k empty = has_empty k
fits k (leaf l) = if_atom k (not (is_assertion l))
fits k (group m t) = if_atom k (not (is_look m)) && fits Level.disjunction t
fits k (repeat t b) = not (is_atom k) && fits Level.atom t
fits k (sequence l r) = has_rows k && (fits Level.row l && fits Level.term r)
fits k (either l r) = has_bars k && (fits Level.disjunction l && fits Level.alternative r)
