-- Each literal pattern is a pattern: its tree, and that the text is in the ECMA grammar with it.
use Rattle.std.proofs.Common.{◌≡◌, ℕ, Bool, true, false, List, [], ◌∷◌, ◌++◌, Some, None, refl, ap, sym, ◌∙◌, subst, append_assoc, inl, inr, ◌⊎◌}
use Rattle.std.specs.Prelude.{if◌then◌else◌, ◌==◌, ◌&&◌, ◌||◌}
use Rattle.std.proofs.lemmas.List.{append-nil}
use Rattle.std.proofs.lemmas.Bool.{eqb-true}
use Rattle.ucd_table.specs.Rows.{in_ranges, value_in}
use Rattle.ucd_derived.specs.Binary.{is_alphabetic}
use Rattle.ucd_derived.specs.AlphabeticRanges.{alphabetic_ranges}
use Rattle.ucd_category.specs.GeneralCategory.{general_category}
use Rattle.ucd_category.specs.GeneralCategoryRows.{general_category_rows}
use Rattle.pattern_model.specs.Text.{Text, is_at}
use Rattle.pattern_model.proofs.BoolLaws.{and_true}
use Rattle.pattern_model.specs.Tree.{Escape, Leaf, Mark, Count, Tree, Token, tokens_of, Level, fits}
use Rattle.pattern_model.specs.Escapes.{character_escape, class_escape}
use Rattle.pattern_model.specs.Letters.{is_alphanumeric}
use Rattle.pattern_model.specs.Quantifiers.{quantifier}
use Rattle.pattern_model.specs.Groups.{opening}
use Rattle.pattern_model.specs.Tokens.{escaped, token_from, Reads}
use Rattle.pattern_model.specs.SharedNames.{names, apart, disjoint}
use Rattle.pattern_model.specs.BackReferences.{captures, numbers, references, in_number, in_names}
use Rattle.pattern_model.specs.Grammar.{Grammar}
use Rattle.pattern_model.specs.Matches.{is_covered}
use Rattle.pattern_model.specs.Literals.{is_bare, is_escaped, Literal, Literals, Others, Alternatives, Analysis, IsAnalysis}

-- the tree, and after it a code point for each character, joined from the left
abbrev pub with_codes : Tree → Text → Tree
with_codes t [] = t
with_codes t (c ∷ w) = with_codes (Tree.sequence t (Tree.leaf (Leaf.code c))) w

-- the tree of an alternative
abbrev pub alternative : Text → Tree
alternative [] = Tree.empty
alternative (c ∷ w) = with_codes (Tree.leaf (Leaf.code c)) w

-- the tree, and more alternatives
abbrev pub with_alternatives : Tree → List Text → Tree
with_alternatives t [] = t
with_alternatives t (w ∷ ws) = with_alternatives (Tree.either t (alternative w)) ws

-- the tokens of characters, and of more alternatives
abbrev codes_of : Text → List Token
codes_of [] = []
codes_of (c ∷ w) = Token.leaf (Leaf.code c) ∷ codes_of w

abbrev bars_of : List Text → List Token
bars_of [] = []
bars_of (w ∷ ws) = Token.bar ∷ codes_of w ++ bars_of ws

tokens_codes : (t : Tree) (w : Text) → tokens_of (with_codes t w) ≡ tokens_of t ++ codes_of w
tokens_codes t [] = sym (append-nil (tokens_of t))
tokens_codes t (c ∷ w) =
    tokens_codes (Tree.sequence t (Tree.leaf (Leaf.code c))) w
    ∙ append_assoc (tokens_of t) (Token.leaf (Leaf.code c) ∷ []) (codes_of w)

tokens_alternative : (w : Text) → tokens_of (alternative w) ≡ codes_of w
tokens_alternative [] = refl
tokens_alternative (c ∷ w) = tokens_codes (Tree.leaf (Leaf.code c)) w

tokens_alternatives : (t : Tree) (ws : List Text) → tokens_of (with_alternatives t ws) ≡ tokens_of t ++ bars_of ws
tokens_alternatives t [] = sym (append-nil (tokens_of t))
tokens_alternatives t (w ∷ ws) =
    tokens_alternatives (Tree.either t (alternative w)) ws
    ∙ append_assoc (tokens_of t) (Token.bar ∷ tokens_of (alternative w)) (bars_of ws)
    ∙ ap (λ z. tokens_of t ++ (Token.bar ∷ z ++ bars_of ws)) (tokens_alternative w)

-- the trees have the shape of rows, alternatives and patterns
-- a row is an alternative
pub row_alternative : (t : Tree) → fits Level.row t ≡ true → fits Level.alternative t ≡ true
row_alternative Tree.empty h = cc
row_alternative (Tree.leaf l) h = h
row_alternative (Tree.group m t) h = h
row_alternative (Tree.repeat t b) h = h
row_alternative (Tree.sequence l r) h = h
row_alternative (Tree.either l r) h = cc

alternative_pattern : (t : Tree) → fits Level.alternative t ≡ true → fits Level.disjunction t ≡ true
alternative_pattern Tree.empty h = refl
alternative_pattern (Tree.leaf l) h = h
alternative_pattern (Tree.group m t) h = h
alternative_pattern (Tree.repeat t b) h = h
alternative_pattern (Tree.sequence l r) h = h
alternative_pattern (Tree.either l r) h = cc

fits_codes : (t : Tree) (w : Text) → fits Level.row t ≡ true → fits Level.row (with_codes t w) ≡ true
fits_codes t [] h = h
fits_codes t (c ∷ w) h = fits_codes (Tree.sequence t (Tree.leaf (Leaf.code c))) w (and_true (fits Level.row t) true h refl)

fits_alternative : (w : Text) → fits Level.alternative (alternative w) ≡ true
fits_alternative [] = refl
fits_alternative (c ∷ w) = row_alternative (with_codes (Tree.leaf (Leaf.code c)) w) (fits_codes (Tree.leaf (Leaf.code c)) w refl)

fits_alternatives : (t : Tree) (ws : List Text) → fits Level.disjunction t ≡ true → fits Level.disjunction (with_alternatives t ws) ≡ true
fits_alternatives t [] h = h
fits_alternatives t (w ∷ ws) h =
    fits_alternatives (Tree.either t (alternative w)) ws
    (and_true (fits Level.disjunction t) (fits Level.alternative (alternative w)) h (fits_alternative w))

-- a tree that names nothing, refers to nothing, and whose matches are spoken of
record Easy (t : Tree) : Type 0 where
  apart : apart t ≡ true
  nameless : names t ≡ []
  numberless : numbers t ≡ []
  free : references t ≡ []
  covered : is_covered t ≡ true

easy_row : (t : Tree) (l : Leaf) → Easy t → Easy (Tree.leaf l) → Easy (Tree.sequence t (Tree.leaf l))
easy_row t l h g = record {
  apart = and_true (apart t) true h.apart refl;
  nameless = ap (λ z. z ++ []) h.nameless;
  numberless = ap (λ z. z ++ numbers (Tree.leaf l)) h.numberless ∙ g.numberless;
  free = ap (λ z. z ++ references (Tree.leaf l)) h.free ∙ g.free;
  covered = and_true (is_covered t) _ h.covered g.covered;
}

easy_code : (c : ℕ) → Easy (Tree.leaf (Leaf.code c))
easy_code c = record { apart = refl; nameless = refl; numberless = refl; free = refl; covered = refl }

easy_codes : (t : Tree) (w : Text) → Easy t → Easy (with_codes t w)
easy_codes t [] h = h
easy_codes t (c ∷ w) h = easy_codes (Tree.sequence t (Tree.leaf (Leaf.code c))) w (easy_row t (Leaf.code c) h (easy_code c))

easy_alternative : (w : Text) → Easy (alternative w)
easy_alternative [] = record { apart = refl; nameless = refl; numberless = refl; free = refl; covered = refl }
easy_alternative (c ∷ w) = easy_codes (Tree.leaf (Leaf.code c)) w (easy_code c)

easy_alternatives : (t : Tree) (ws : List Text) → Easy t → Easy (with_alternatives t ws)
easy_alternatives t [] h = h
easy_alternatives t (w ∷ ws) h =
    let a = easy_alternative w in
    easy_alternatives (Tree.either t (alternative w)) ws (record {
      apart = and_true (apart t) _ h.apart a.apart;
      nameless = ap (λ z. z ++ names (alternative w)) h.nameless ∙ a.nameless;
      numberless = ap (λ z. z ++ numbers (alternative w)) h.numberless ∙ a.numberless;
      free = ap (λ z. z ++ references (alternative w)) h.free ∙ a.free;
      covered = and_true (is_covered t) _ h.covered a.covered;
    })

-- how the tree of a literal pattern is read
easy_grammar : (x : Text) (t : Tree) → Easy t → fits Level.disjunction t ≡ true → Reads false x (tokens_of t) → Grammar false x t
easy_grammar x t h f r = record {
  spells = record { fits = f; reads = r };
  apart = h.apart;
  named = ap (in_names (names t)) h.free;
  numbered = ap (in_number (captures t)) h.numberless;
}

-- characters that are told apart by a test are different
told_apart : (test : ℕ → Bool) (c d : ℕ) → test c ≡ true → test d ≡ false → (c == d) ≡ false
told_apart test c d h g = not_true (c == d) (λ e. subst (λ z. z ≡ true → ⊥) (sym (ap test (eqb-true c d e) ∙ g)) (λ k. cc) h)
  where
    not_true : (b : Bool) → (b ≡ true → ⊥) → b ≡ false
    not_true true n = absurd (n refl)
    not_true false n = refl

skip : {A : Type 0} (b : Bool) (p q r : A) → b ≡ false → q ≡ r → (if b then p else q) ≡ r
skip true p q r h e = cc
skip false p q r h e = e

neither : (a b : Bool) → a ≡ false → b ≡ false → (a || b) ≡ false
neither true b h g = h
neither false b h g = g

-- a character that stands for itself is read so
bare_read : (c : ℕ) (x : Text) → is_bare c ≡ true → token_from false c x ≡ Some (Token.leaf (Leaf.code c), x)
unfolding token_from
bare_read c x h =
    let other : (d : ℕ) → is_bare d ≡ false → (c == d) ≡ false = λ d g. told_apart is_bare c d h g in
    skip (c == 124) _ _ _ (other 124 refl)
    (skip (c == 40) _ _ _ (other 40 refl)
    (skip (c == 41) _ _ _ (other 41 refl)
    (skip (c == 42) _ _ _ (other 42 refl)
    (skip (c == 43) _ _ _ (other 43 refl)
    (skip (c == 63) _ _ _ (other 63 refl)
    (skip (c == 123) _ _ _ (other 123 refl)
    (skip (c == 46) _ _ _ (other 46 refl)
    (skip (c == 94) _ _ _ (other 94 refl)
    (skip (c == 36) _ _ _ (other 36 refl)
    (skip (c == 91) _ _ _ (other 91 refl)
    (skip (c == 92) _ _ _ (other 92 refl)
    (skip (c == 93 || c == 125) _ _ _ (neither (c == 93) (c == 125) (other 93 refl) (other 125 refl)) refl))))))))))))

-- a backslash and one of the five characters are read as that character
escaped_five : (c : ℕ) → is_escaped c ≡ true →
    (c ≡ 47) ⊎ ((c ≡ 45) ⊎ ((c ≡ 95) ⊎ ((c ≡ 36) ⊎ (c ≡ 46))))
escaped_five c h = either (c == 47) (λ e. inl (eqb-true c 47 e)) (λ g. inr
    (either (c == 45) (λ e. inl (eqb-true c 45 e)) (λ g. inr
    (either (c == 95) (λ e. inl (eqb-true c 95 e)) (λ g. inr
    (either (c == 36) (λ e. inl (eqb-true c 36 e)) (λ g. inr (eqb-true c 46 g)) g)) g)) g)) h
  where
    either : {A B : Type 0} (b : Bool) {d : Bool} → (b ≡ true → A ⊎ B) → (d ≡ true → A ⊎ B) → (b || d) ≡ true → A ⊎ B
    either true f g e = f refl
    either false f g e = g e

escaped_read : (c : ℕ) (x : Text) → is_escaped c ≡ true → token_from false 92 (c ∷ x) ≡ Some (Token.leaf (Leaf.code c), x)
unfolding token_from escaped character_escape class_escape is_alphanumeric is_alphabetic in_ranges alphabetic_ranges general_category value_in
    general_category_rows
escaped_read c x h = elim (escaped_five c h) [
  | inl e ↦ subst (λ d. token_from false 92 (d ∷ x) ≡ Some (Token.leaf (Leaf.code d), x)) (sym e) refl
  | inr g ↦ elim g [
    | inl e ↦ subst (λ d. token_from false 92 (d ∷ x) ≡ Some (Token.leaf (Leaf.code d), x)) (sym e) refl
    | inr g ↦ elim g [
      | inl e ↦ subst (λ d. token_from false 92 (d ∷ x) ≡ Some (Token.leaf (Leaf.code d), x)) (sym e) refl
      | inr g ↦ elim g [
        | inl e ↦ subst (λ d. token_from false 92 (d ∷ x) ≡ Some (Token.leaf (Leaf.code d), x)) (sym e) refl
        | inr e ↦ subst (λ d. token_from false 92 (d ∷ x) ≡ Some (Token.leaf (Leaf.code d), x)) (sym e) refl
      ]
    ]
  ]
]

-- a literal is read as its character, literals as a row of them
literal_read : (x : Text) (c : ℕ) (y : Text) (ts : List Token) → Literal x c y → Reads false y ts →
    Reads false x (Token.leaf (Leaf.code c) ∷ ts)
literal_read x c y ts (inl (e, h)) r = (c, y, y, e, bare_read c y h, r)
literal_read x c y ts (inr (e, h)) r = (92, c ∷ y, y, e, escaped_read c y h, r)

literals_read : (x w y : Text) (ts : List Token) → Literals x w y → Reads false y ts → Reads false x (codes_of w ++ ts)
literals_read x [] y ts e r = subst (λ z. Reads false z ts) (sym e) r
literals_read x (c ∷ w) y ts (rest, l, ls) r = literal_read x c rest (codes_of w ++ ts) l (literals_read rest w y ts ls r)

abbrev close_and_end : List Token
close_and_end = Token.closes ∷ Token.leaf Leaf.end ∷ []

others_read : (x : Text) (ws : List Text) → Others x ws → Reads false x (bars_of ws ++ close_and_end)
unfolding token_from
others_read x [] e = (41, 36 ∷ [], 36 ∷ [], e, refl, (36, [], [], refl, refl, refl))
others_read x (w ∷ ws) (y, rest, e, l, o) = (
  124,
  y,
  y,
  e,
  refl,
  subst (Reads false y) (sym (append_assoc (codes_of w) (bars_of ws) close_and_end))
      (literals_read y w rest (bars_of ws ++ close_and_end) l (others_read rest ws o)),
)

alternatives_read : (x w : Text) (ws : List Text) → Alternatives x (w ∷ ws) →
    Reads false x (tokens_of (with_alternatives (alternative w) ws) ++ close_and_end)
alternatives_read x w ws (rest, l, o) =
    let same : tokens_of (with_alternatives (alternative w) ws) ≡ codes_of w ++ bars_of ws =
    tokens_alternatives (alternative w) ws ∙ ap (λ z. z ++ bars_of ws) (tokens_alternative w) in
    subst (Reads false x)
    (sym (ap (λ z. z ++ close_and_end) same ∙ append_assoc (codes_of w) (bars_of ws) close_and_end))
    (literals_read x w rest (bars_of ws ++ close_and_end) l (others_read rest ws o))

-- alternatives of literals do not begin with a question mark
no_mark : (x w : Text) (ws : List Text) → Alternatives x (w ∷ ws) → is_at 63 x ≡ false
no_mark x [] [] (rest, e, o) = ap (is_at 63) (e ∙ o)
no_mark x [] (v ∷ vs) (rest, e, (y, more, o, l, os)) = ap (is_at 63) (e ∙ o)
no_mark x (c ∷ w) ws (rest, (more, inl (e, h), ls), o) = ap (is_at 63) e ∙ told_apart is_bare c 63 h refl
no_mark x (c ∷ w) ws (rest, (more, inr (e, h), ls), o) = ap (is_at 63) e

-- the trees of the four forms
abbrev pub prefix_tree : Text → Tree
prefix_tree w = with_codes (Tree.leaf Leaf.start) w

abbrev pub exact_tree : Text → Tree
exact_tree w = Tree.sequence (prefix_tree w) (Tree.leaf Leaf.end)

abbrev pub alternation_tree : Text → List Text → Tree
alternation_tree w ws =
    Tree.sequence (Tree.sequence (Tree.leaf Leaf.start) (Tree.group Mark.capture (with_alternatives (alternative w) ws)))
    (Tree.leaf Leaf.end)

abbrev pub no_whitespace_tree : Tree
no_whitespace_tree =
    Tree.sequence
    (Tree.sequence (Tree.leaf Leaf.start)
    (Tree.repeat (Tree.leaf (Leaf.escape Escape.not_space)) (record { least = Count.number 0; most = None; lazy = false })))
    (Tree.leaf Leaf.end)

-- a tree of the grammar whose matches are spoken of
abbrev pub HasTree : Text → Tree → Type 0
HasTree x t = Grammar false x t × (is_covered t ≡ true)

has_tree : (x : Text) (t : Tree) → Easy t → fits Level.disjunction t ≡ true → Reads false x (tokens_of t) → HasTree x t
has_tree x t h f r = (easy_grammar x t h f r, h.covered)

easy_start : Easy (Tree.leaf Leaf.start)
easy_start = record { apart = refl; nameless = refl; numberless = refl; free = refl; covered = refl }

easy_end : Easy (Tree.leaf Leaf.end)
easy_end = record { apart = refl; nameless = refl; numberless = refl; free = refl; covered = refl }

pub prefix_has_tree : (x w : Text) → IsAnalysis x (Analysis.prefix w) → HasTree x (prefix_tree w)
unfolding token_from
prefix_has_tree x w (y, e, l) =
    has_tree x (prefix_tree w) (easy_codes (Tree.leaf Leaf.start) w easy_start)
    (alternative_pattern (prefix_tree w) (row_alternative (prefix_tree w) (fits_codes (Tree.leaf Leaf.start) w refl)))
    (subst (Reads false x) (sym (tokens_codes (Tree.leaf Leaf.start) w))
    (94, y, y, e, refl, subst (Reads false y) (append-nil (codes_of w)) (literals_read y w [] [] l refl)))

pub exact_has_tree : (x w : Text) → IsAnalysis x (Analysis.exact w) → HasTree x (exact_tree w)
unfolding token_from
exact_has_tree x w (y, e, l) =
    has_tree x (exact_tree w) (easy_row (prefix_tree w) Leaf.end (easy_codes (Tree.leaf Leaf.start) w easy_start) easy_end)
    (and_true (fits Level.row (prefix_tree w)) true (fits_codes (Tree.leaf Leaf.start) w refl) refl)
    (subst (λ z. Reads false x (z ++ (Token.leaf Leaf.end ∷ []))) (sym (tokens_codes (Tree.leaf Leaf.start) w))
    (94, y, y, e, refl, literals_read y w (36 ∷ []) (Token.leaf Leaf.end ∷ []) l (36, [], [], refl, refl, refl)))

easy_group : (t : Tree) → Easy t → Easy (Tree.sequence (Tree.leaf Leaf.start) (Tree.group Mark.capture t))
easy_group t h = record {
  apart = and_true (apart t && disjoint (names t) []) _ (and_true (apart t) _ h.apart (ap (λ z. disjoint z []) h.nameless))
      (ap (λ z. disjoint z []) h.nameless);
  nameless = h.nameless;
  numberless = h.numberless;
  free = h.free;
  covered = h.covered;
}

pub alternation_has_tree : (x y w : Text) (ws : List Text) → x ≡ 94 ∷ 40 ∷ y → Alternatives y (w ∷ ws) → HasTree x (alternation_tree w ws)
unfolding token_from opening
alternation_has_tree x y w ws e a =
    let inner : Tree = with_alternatives (alternative w) ws in
    let row : Tree = Tree.sequence (Tree.leaf Leaf.start) (Tree.group Mark.capture inner) in
    let shape : fits Level.disjunction inner ≡ true =
    fits_alternatives (alternative w) ws (alternative_pattern (alternative w) (fits_alternative w)) in
    has_tree x (alternation_tree w ws)
    (easy_row row Leaf.end (easy_group inner (easy_alternatives (alternative w) ws (easy_alternative w))) easy_end)
    (and_true (fits Level.row row) true shape refl) (
      94,
      40 ∷ y,
      40 ∷ y,
      e,
      refl,
      (
        40,
        y,
        y,
        refl,
        skip (is_at 63 y) _ _ _ (no_mark y w ws a) refl,
        subst (Reads false y) (sym (append_assoc (tokens_of inner) (Token.closes ∷ []) (Token.leaf Leaf.end ∷ [])))
            (alternatives_read y w ws a),
      ),
    )

pub no_whitespace_has_tree : (x : Text) → IsAnalysis x Analysis.no_whitespace → HasTree x no_whitespace_tree
unfolding token_from escaped class_escape quantifier
no_whitespace_has_tree x e =
    has_tree x no_whitespace_tree (record { apart = refl; nameless = refl; numberless = refl; free = refl; covered = refl }) refl
    (94, _, _, e, refl, (92, _, _, refl, refl, (42, _, _, refl, refl, (36, [], [], refl, refl, refl))))
