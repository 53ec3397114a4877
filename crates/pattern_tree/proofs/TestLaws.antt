-- What the tests need of a tree, they find in its tokens.
use Rattle.std.proofs.Common.{◌≡◌, ◌+◌, ◌≤◌, List, [], ◌∷◌, ◌++◌, length, refl, ap, sym, ◌∙◌, append_assoc, arith, append-nil}
use Rattle.pattern_model.specs.Tree.{Mark, Tree, Token, tokens_of}
use Rattle.pattern_model.specs.SharedNames.{mark_names, names}
use Rattle.pattern_model.specs.BackReferences.{captures, numbers, references, leaf_numbers, leaf_references}
use Rattle.pattern_tree.specs.TokenTests.{token_captures, captures_in, token_numbers, numbers_in, token_references, references_in, token_names, names_in}

pub captures_append : (xs ys : List Token) → captures_in (xs ++ ys) ≡ captures_in xs + captures_in ys
captures_append [] ys = omega arith
captures_append (t ∷ xs) ys = let e = captures_append xs ys in omega arith

pub numbers_append : (xs ys : List Token) → numbers_in (xs ++ ys) ≡ numbers_in xs ++ numbers_in ys
numbers_append [] ys = refl
numbers_append (t ∷ xs) ys = ap (λ z. token_numbers t ++ z) (numbers_append xs ys)
    ∙ sym (append_assoc (token_numbers t) (numbers_in xs) (numbers_in ys))

pub references_append : (xs ys : List Token) → references_in (xs ++ ys) ≡ references_in xs ++ references_in ys
references_append [] ys = refl
references_append (t ∷ xs) ys = ap (λ z. token_references t ++ z) (references_append xs ys)
    ∙ sym (append_assoc (token_references t) (references_in xs) (references_in ys))

pub names_append : (xs ys : List Token) → names_in (xs ++ ys) ≡ names_in xs ++ names_in ys
names_append [] ys = refl
names_append (t ∷ xs) ys = ap (λ z. token_names t ++ z) (names_append xs ys)
    ∙ sym (append_assoc (token_names t) (names_in xs) (names_in ys))

pub captures_tokens : (t : Tree) → captures_in (tokens_of t) ≡ captures t
captures_tokens Tree.empty = refl
captures_tokens (Tree.leaf l) = refl
captures_tokens (Tree.group m t) = let e = captures_tokens t in let f = captures_append (tokens_of t) (Token.closes ∷ []) in omega arith
captures_tokens (Tree.repeat t b) = let e = captures_tokens t in let f = captures_append (tokens_of t) (Token.times b ∷ []) in omega arith
captures_tokens (Tree.sequence l r) = let e = captures_tokens l in let g = captures_tokens r in let f =
    captures_append (tokens_of l) (tokens_of r) in omega arith
captures_tokens (Tree.either l r) = let e = captures_tokens l in let g = captures_tokens r in let f =
    captures_append (tokens_of l) (Token.bar ∷ tokens_of r) in omega arith

pub numbers_tokens : (t : Tree) → numbers_in (tokens_of t) ≡ numbers t
numbers_tokens Tree.empty = refl
numbers_tokens (Tree.leaf l) = append-nil (leaf_numbers l)
numbers_tokens (Tree.group m t) = numbers_append (tokens_of t) (Token.closes ∷ [])
    ∙ (append-nil (numbers_in (tokens_of t)) ∙ numbers_tokens t)
numbers_tokens (Tree.repeat t b) = numbers_append (tokens_of t) (Token.times b ∷ [])
    ∙ (append-nil (numbers_in (tokens_of t)) ∙ numbers_tokens t)
numbers_tokens (Tree.sequence l r) = numbers_append (tokens_of l) (tokens_of r)
    ∙ (ap (λ z. z ++ numbers_in (tokens_of r)) (numbers_tokens l) ∙ ap (λ z. numbers l ++ z) (numbers_tokens r))
numbers_tokens (Tree.either l r) = numbers_append (tokens_of l) (Token.bar ∷ tokens_of r)
    ∙ (ap (λ z. z ++ numbers_in (tokens_of r)) (numbers_tokens l) ∙ ap (λ z. numbers l ++ z) (numbers_tokens r))

pub references_tokens : (t : Tree) → references_in (tokens_of t) ≡ references t
references_tokens Tree.empty = refl
references_tokens (Tree.leaf l) = append-nil (leaf_references l)
references_tokens (Tree.group m t) = references_append (tokens_of t) (Token.closes ∷ [])
    ∙ (append-nil (references_in (tokens_of t)) ∙ references_tokens t)
references_tokens (Tree.repeat t b) = references_append (tokens_of t) (Token.times b ∷ [])
    ∙ (append-nil (references_in (tokens_of t)) ∙ references_tokens t)
references_tokens (Tree.sequence l r) = references_append (tokens_of l) (tokens_of r)
    ∙ (ap (λ z. z ++ references_in (tokens_of r)) (references_tokens l) ∙ ap (λ z. references l ++ z) (references_tokens r))
references_tokens (Tree.either l r) = references_append (tokens_of l) (Token.bar ∷ tokens_of r)
    ∙ (ap (λ z. z ++ references_in (tokens_of r)) (references_tokens l) ∙ ap (λ z. references l ++ z) (references_tokens r))

pub names_tokens : (t : Tree) → names_in (tokens_of t) ≡ names t
names_tokens Tree.empty = refl
names_tokens (Tree.leaf l) = refl
names_tokens (Tree.group m t) = ap (λ z. mark_names m ++ z) (names_append (tokens_of t) (Token.closes ∷ [])
    ∙ (append-nil (names_in (tokens_of t)) ∙ names_tokens t))
names_tokens (Tree.repeat t b) = names_append (tokens_of t) (Token.times b ∷ []) ∙ (append-nil (names_in (tokens_of t)) ∙ names_tokens t)
names_tokens (Tree.sequence l r) = names_append (tokens_of l) (tokens_of r) ∙ (ap (λ z. z ++ names_in (tokens_of r)) (names_tokens l)
    ∙ ap (λ z. names l ++ z) (names_tokens r))
names_tokens (Tree.either l r) = names_append (tokens_of l) (Token.bar ∷ tokens_of r)
    ∙ (ap (λ z. z ++ names_in (tokens_of r)) (names_tokens l) ∙ ap (λ z. names l ++ z) (names_tokens r))

pub captures_one : (t : Token) → token_captures t ≤ 1
captures_one (Token.leaf l) = omega arith
captures_one (Token.opens Mark.capture) = omega arith
captures_one (Token.opens (Mark.named n)) = omega arith
captures_one (Token.opens Mark.plain) = omega arith
captures_one (Token.opens Mark.modified) = omega arith
captures_one (Token.opens Mark.ahead) = omega arith
captures_one (Token.opens Mark.not_ahead) = omega arith
captures_one (Token.opens Mark.behind) = omega arith
captures_one (Token.opens Mark.not_behind) = omega arith
captures_one Token.closes = omega arith
captures_one Token.bar = omega arith
captures_one (Token.times b) = omega arith

pub captures_few : (ts : List Token) → captures_in ts ≤ length ts
captures_few [] = omega arith
captures_few (t ∷ ts) = let e = captures_few ts in let f = captures_one t in omega arith
