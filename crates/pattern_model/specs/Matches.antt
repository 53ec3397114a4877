-- Which parts of a text a tree matches (ECMA-262, section 22.2.2: Pattern Semantics, with the flag `u` and no other).
-- A match goes from one place to another, counted in code points from 0. Of a tree with look-around, back-references, modifiers,
-- property escapes or a count of 2^32 or more nothing is said here: `is_covered` tells the others, and such a form is given no match.
use Rattle.std.specs.Prelude.{ℕ, zero, suc, ◌+◌, ◌≡◌, ◌≤◌, ◌⊎◌, ◌&&◌, ◌||◌, ◌==◌, Bool, true, false, not, if◌then◌else◌, Option, Some, None, length, slice_get, ⊤}
use Rattle.std.specs.List.{list_all}
use Rattle.pattern_model.specs.Text.{Text}
use Rattle.pattern_model.specs.Properties.{is_word}
use Rattle.pattern_model.specs.Members.{class_has, escape_has, is_no_property}
use Rattle.pattern_model.specs.Tree.{Leaf, Mark, Count, Bounds, Tree}

-- LineTerminator (section 12.3): `.` has every other code point
abbrev pub is_line_end : ℕ → Bool
is_line_end c = c == 10 || (c == 13 || (c == 8232 || c == 8233))

-- one code point, which passes the test
abbrev pub One : (ℕ → Bool) → Text → ℕ → ℕ → Type 0
One test y i j = (c : ℕ) × (slice_get y i ≡ Some c) × (test c ≡ true) × (j ≡ i + 1)

-- IsWordChar: the code point is there, and is a word character
abbrev pub is_word_there : Option ℕ → Bool
is_word_there None = false
is_word_there (Some c) = is_word c

abbrev pub is_word_before : Text → ℕ → Bool
is_word_before y zero = false
is_word_before y (suc i) = is_word_there (slice_get y i)

-- of the code points just before and just after the place exactly one is there and is a word character
abbrev pub is_boundary : Text → ℕ → Bool
is_boundary y i = if is_word_before y i then not (is_word_there (slice_get y i)) else is_word_there (slice_get y i)

-- Assertion and Atom: CompileAssertion, CompileAtom, CharacterSetMatcher
abbrev pub LeafMatches : Leaf → Text → ℕ → ℕ → Type 0
LeafMatches (Leaf.code a) y i j = One (λ c. c == a) y i j
LeafMatches Leaf.dot y i j = One (λ c. not (is_line_end c)) y i j
LeafMatches Leaf.start y i j = (i ≡ 0) × (j ≡ 0)
LeafMatches Leaf.end y i j = (i ≡ length y) × (j ≡ length y)
LeafMatches Leaf.boundary y i j = (i ≡ j) × (is_boundary y i ≡ true)
LeafMatches Leaf.not_boundary y i j = (i ≡ j) × (is_boundary y i ≡ false)
LeafMatches (Leaf.escape e) y i j = One (escape_has e) y i j
LeafMatches (Leaf.class negated items) y i j = One (class_has negated items) y i j
LeafMatches (Leaf.property negated) y i j = ⊥
LeafMatches (Leaf.back_number n) y i j = ⊥
LeafMatches (Leaf.back_name n) y i j = ⊥

-- a group that captures, or one that only groups, matches what its inside matches
abbrev pub is_plain_group : Mark → Bool
is_plain_group Mark.capture = true
is_plain_group (Mark.named n) = true
is_plain_group Mark.plain = true
is_plain_group _ = false

-- so many matches, each from where the one before ended
abbrev pub Times : (ℕ → ℕ → Type 0) → ℕ → ℕ → ℕ → Type 0
Times One zero i j = i ≡ j
Times One (suc n) i j = (m : ℕ) × One i m × Times One n m j

-- the number is within the counts of a quantifier
abbrev pub IsAtLeast : Count → ℕ → Type 0
IsAtLeast (Count.number m) n = m ≤ n
IsAtLeast Count.wide n = ⊥

abbrev pub IsAtMost : Option Count → ℕ → Type 0
IsAtMost None n = ⊤
IsAtMost (Some (Count.number m)) n = n ≤ m
IsAtMost (Some Count.wide) n = ⊥

abbrev pub IsWithin : Bounds → ℕ → Type 0
IsWithin b n = IsAtLeast b.least n × IsAtMost b.most n

-- the tree matches from i to j: CompileSubpattern, RepeatMatcher
abbrev pub Matches : Tree → Text → ℕ → ℕ → Type 0
Matches Tree.empty y i j = i ≡ j
Matches (Tree.leaf l) y i j = LeafMatches l y i j
Matches (Tree.group m t) y i j = (is_plain_group m ≡ true) × Matches t y i j
Matches (Tree.repeat t b) y i j = (n : ℕ) × IsWithin b n × Times (λ p q. Matches t y p q) n i j
Matches (Tree.sequence l r) y i j = (m : ℕ) × Matches l y i m × Matches r y m j
Matches (Tree.either l r) y i j = Matches l y i j ⊎ Matches r y i j

-- the tree matches some part of the text: what an unanchored search looks for (JSON Schema 2020-12, validation, section 6.3.3)
abbrev pub MatchesSome : Tree → Text → Type 0
MatchesSome t y = (i : ℕ) × (j : ℕ) × (j ≤ length y) × Matches t y i j

-- the trees that are spoken of here
abbrev pub is_covered_leaf : Leaf → Bool
is_covered_leaf (Leaf.class negated items) = list_all is_no_property items
is_covered_leaf (Leaf.property negated) = false
is_covered_leaf (Leaf.back_number n) = false
is_covered_leaf (Leaf.back_name n) = false
is_covered_leaf _ = true

abbrev pub is_narrow : Option Count → Bool
is_narrow (Some Count.wide) = false
is_narrow _ = true

abbrev pub is_covered : Tree → Bool
is_covered Tree.empty = true
is_covered (Tree.leaf l) = is_covered_leaf l
is_covered (Tree.group m t) = is_plain_group m && is_covered t
is_covered (Tree.repeat t b) = (is_narrow (Some b.least) && is_narrow b.most) && is_covered t
is_covered (Tree.sequence l r) = is_covered l && is_covered r
is_covered (Tree.either l r) = is_covered l && is_covered r
