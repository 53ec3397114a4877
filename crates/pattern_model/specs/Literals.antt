-- The literal patterns, and which texts each one hits: patterns that need no engine. This project's own; it is a part of the
-- ECMA grammar.
-- A literal is an ASCII letter or digit, `-`, `_` or `/`; or one of the escapes `\/`, `\-`, `\_`, `\$` and `\.`, which stand for
-- the second character. There are four forms of literal patterns:
--
--     ^\S*$                                                   no whitespace
--     ^( texts of literals, one or more, parted by | )$       one of the texts
--     ^ literals $                                            the text
--     ^ literals                                              the text, and whatever follows
use Rattle.std.specs.Prelude.{ℕ, Bool, true, ◌≡◌, ◌==◌, ◌||◌, ◌++◌, ◌⊎◌, List, [], ◌∷◌, Contains, not}
use Rattle.std.specs.List.{AllPass}
use Rattle.std.specs.List.Sorted.{IsPermutation, IsSorted}
use Rattle.std.specs.Cmp.Lexicographic.{slice_cmp}
use Rattle.std.specs.Ordering.{nat_cmp}
use Rattle.pattern_model.specs.Text.{Text}
use Rattle.pattern_model.specs.Digits.{is_digit}
use Rattle.pattern_model.specs.Letters.{is_ascii_letter}
use Rattle.pattern_model.specs.Members.{is_space}

-- a literal of one character: an ASCII letter or digit, `-`, `_` or `/`
abbrev pub is_bare : ℕ → Bool
is_bare c = is_ascii_letter c || (is_digit c || (c == 45 || (c == 95 || c == 47)))

-- what a backslash may stand before: `/`, `-`, `_`, `$` or `.`
abbrev pub is_escaped : ℕ → Bool
is_escaped c = c == 47 || (c == 45 || (c == 95 || (c == 36 || c == 46)))

-- x is a literal that stands for c, and then y
abbrev pub Literal : Text → ℕ → Text → Type 0
Literal x c y = ((x ≡ c ∷ y) × (is_bare c ≡ true)) ⊎ ((x ≡ 92 ∷ c ∷ y) × (is_escaped c ≡ true))

-- x is literals that stand for the text w, one after the other, and then y
abbrev pub Literals : Text → Text → Text → Type 0
Literals x [] y = x ≡ y
Literals x (c ∷ w) y = (rest : Text) × Literal x c rest × Literals rest w y

-- for each of the texts a bar and literals that stand for it; and then `)$`
abbrev pub Others : Text → List Text → Type 0
Others x [] = x ≡ 41 ∷ 36 ∷ []
Others x (w ∷ ws) = (y : Text) × (rest : Text) × (x ≡ 124 ∷ y) × Literals y w rest × Others rest ws

-- literals for each of the texts, of which there is one at least, with a bar between them; and then `)$`
abbrev pub Alternatives : Text → List Text → Type 0
Alternatives x [] = ⊥
Alternatives x (w ∷ ws) = (rest : Text) × Literals x w rest × Others rest ws

-- what is asked of a text: that it begins with a text, that it is one, that it is one of some, or that it has no whitespace
pub data Analysis : Type 0 where
  prefix : Text → Analysis
  exact : Text → Analysis
  alternation : List Text → Analysis
  no_whitespace : Analysis

-- no text is after the next, code point by code point; literals stand for ASCII, so that this is the order of bytes
abbrev pub AreSorted : List Text → Type 0
AreSorted ws = IsSorted (slice_cmp nat_cmp) ws

-- the pattern x is literal, with this analysis; an alternation's texts are sorted, and none is left out
abbrev pub IsAnalysis : Text → Analysis → Type 0
IsAnalysis x (Analysis.prefix w) = (y : Text) × (x ≡ 94 ∷ y) × Literals y w []
IsAnalysis x (Analysis.exact w) = (y : Text) × (x ≡ 94 ∷ y) × Literals y w (36 ∷ [])
IsAnalysis x (Analysis.alternation ws) =
    (y : Text) × (vs : List Text) × (x ≡ 94 ∷ 40 ∷ y) × Alternatives y vs × IsPermutation vs ws × AreSorted ws
IsAnalysis x Analysis.no_whitespace = x ≡ 94 ∷ 92 ∷ 83 ∷ 42 ∷ 36 ∷ []

-- the analysis hits the text y
abbrev pub Hits : Analysis → Text → Type 0
Hits (Analysis.prefix w) y = (rest : Text) × (y ≡ w ++ rest)
Hits (Analysis.exact w) y = y ≡ w
Hits (Analysis.alternation ws) y = Contains ws y
Hits Analysis.no_whitespace y = AllPass (λ c. not (is_space c)) y
