-- Trees whose leaves are replaced one by one, and their tokens.
use Rattle.std.proofs.Common.{◌≡◌, Bool, true, false, not, ◌&&◌, List, [], ◌∷◌, ◌++◌, map, refl, ap, sym, ◌∙◌}
use Rattle.std.specs.Prelude.{◌||◌}
use Rattle.std.specs.List.{list_all}
use Rattle.pattern_model.specs.Tree.{Leaf, Mark, Bounds, Tree, Token, tokens_of, Level, fits, is_assertion, is_look, if_atom, is_atom, has_rows, has_bars}
use Rattle.pattern_model.specs.SharedNames.{names, mark_names, disjoint, apart}
use Rattle.rust_pattern_model.specs.Refusals.{some_part}
use Rattle.rust_pattern_model.specs.Alike.{AlikeLeaf, Alike}

abbrev pub map_token : (Leaf → Leaf) → Token → Token
map_token f (Token.leaf l) = Token.leaf (f l)
map_token f t = t

abbrev pub map_tree : (Leaf → Leaf) → Tree → Tree
map_tree f Tree.empty = Tree.empty
map_tree f (Tree.leaf l) = Tree.leaf (f l)
map_tree f (Tree.group m t) = Tree.group m (map_tree f t)
map_tree f (Tree.repeat t b) = Tree.repeat (map_tree f t) b
map_tree f (Tree.sequence l r) = Tree.sequence (map_tree f l) (map_tree f r)
map_tree f (Tree.either l r) = Tree.either (map_tree f l) (map_tree f r)

map_append : (f : Leaf → Leaf) (xs ys : List Token) → map (map_token f) (xs ++ ys) ≡ map (map_token f) xs ++ map (map_token f) ys
map_append f [] ys = refl
map_append f (x ∷ xs) ys = ap (λ z. map_token f x ∷ z) (map_append f xs ys)

-- the tokens of the new tree are those of the old one, each with its leaf replaced
pub tokens_map : (f : Leaf → Leaf) (t : Tree) → tokens_of (map_tree f t) ≡ map (map_token f) (tokens_of t)
tokens_map f Tree.empty = refl
tokens_map f (Tree.leaf l) = refl
tokens_map f (Tree.group m t) =
    ap (λ z. Token.opens m ∷ (z ++ (Token.closes ∷ []))) (tokens_map f t)
    ∙ ap (λ z. Token.opens m ∷ z) (sym (map_append f (tokens_of t) (Token.closes ∷ [])))
tokens_map f (Tree.repeat t b) =
    ap (λ z. z ++ (Token.times b ∷ [])) (tokens_map f t) ∙ sym (map_append f (tokens_of t) (Token.times b ∷ []))
tokens_map f (Tree.sequence l r) =
    ap (λ z. z ++ tokens_of (map_tree f r)) (tokens_map f l)
    ∙ (ap (λ z. map (map_token f) (tokens_of l) ++ z) (tokens_map f r) ∙ sym (map_append f (tokens_of l) (tokens_of r)))
tokens_map f (Tree.either l r) =
    ap (λ z. z ++ (Token.bar ∷ tokens_of (map_tree f r))) (tokens_map f l)
    ∙ (ap (λ z. map (map_token f) (tokens_of l) ++ (Token.bar ∷ z)) (tokens_map f r) ∙ sym (map_append f (tokens_of l) (Token.bar ∷ tokens_of r)))

-- the new tree has the shape of a pattern where the old one has, if assertions stay assertions
pub fits_map : (f : Leaf → Leaf) → ((l : Leaf) → is_assertion (f l) ≡ is_assertion l) → (k : Level) (t : Tree) → fits k (map_tree f t) ≡ fits k t
fits_map f h k Tree.empty = refl
fits_map f h k (Tree.leaf l) = ap (λ z. if_atom k (not z)) (h l)
fits_map f h k (Tree.group m t) = ap (λ z. if_atom k (not (is_look m)) && z) (fits_map f h Level.disjunction t)
fits_map f h k (Tree.repeat t b) = ap (λ z. not (is_atom k) && z) (fits_map f h Level.atom t)
fits_map f h k (Tree.sequence l r) =
    ap (λ z. has_rows k && (z && fits Level.term (map_tree f r))) (fits_map f h Level.row l)
    ∙ ap (λ z. has_rows k && (fits Level.row l && z)) (fits_map f h Level.term r)
fits_map f h k (Tree.either l r) =
    ap (λ z. has_bars k && (z && fits Level.alternative (map_tree f r))) (fits_map f h Level.disjunction l)
    ∙ ap (λ z. has_bars k && (fits Level.disjunction l && z)) (fits_map f h Level.alternative r)

names_map : (f : Leaf → Leaf) (t : Tree) → names (map_tree f t) ≡ names t
names_map f Tree.empty = refl
names_map f (Tree.leaf l) = refl
names_map f (Tree.group m t) = ap (λ z. mark_names m ++ z) (names_map f t)
names_map f (Tree.repeat t b) = names_map f t
names_map f (Tree.sequence l r) = ap (λ z. z ++ names (map_tree f r)) (names_map f l) ∙ ap (λ z. names l ++ z) (names_map f r)
names_map f (Tree.either l r) = ap (λ z. z ++ names (map_tree f r)) (names_map f l) ∙ ap (λ z. names l ++ z) (names_map f r)

-- groups of the new tree share names where those of the old one do
pub apart_map : (f : Leaf → Leaf) (t : Tree) → apart (map_tree f t) ≡ apart t
apart_map f Tree.empty = refl
apart_map f (Tree.leaf l) = refl
apart_map f (Tree.group m t) =
    ap (λ z. z && disjoint (names (map_tree f t)) (mark_names m)) (apart_map f t)
    ∙ ap (λ z. apart t && disjoint z (mark_names m)) (names_map f t)
apart_map f (Tree.repeat t b) = apart_map f t
apart_map f (Tree.sequence l r) =
    ap (λ z. z && (apart (map_tree f r) && disjoint (names (map_tree f r)) (names (map_tree f l)))) (apart_map f l)
    ∙ (ap (λ z. apart l && (z && disjoint (names (map_tree f r)) (names (map_tree f l)))) (apart_map f r)
    ∙ (ap (λ z. apart l && (apart r && disjoint z (names (map_tree f l)))) (names_map f r)
    ∙ ap (λ z. apart l && (apart r && disjoint (names r) z)) (names_map f l)))
apart_map f (Tree.either l r) =
    ap (λ z. z && apart (map_tree f r)) (apart_map f l) ∙ ap (λ z. apart l && z) (apart_map f r)

-- the trees are alike, if the leaves are
pub alike_map : (f : Leaf → Leaf) → ((l : Leaf) → AlikeLeaf l (f l)) → (t : Tree) → Alike t (map_tree f t)
alike_map f h Tree.empty = Alike.empties
alike_map f h (Tree.leaf l) = Alike.leaves (h l)
alike_map f h (Tree.group m t) = Alike.groups (alike_map f h t)
alike_map f h (Tree.repeat t b) = Alike.repeats (alike_map f h t)
alike_map f h (Tree.sequence l r) = Alike.sequences (alike_map f h l) (alike_map f h r)
alike_map f h (Tree.either l r) = Alike.eithers (alike_map f h l) (alike_map f h r)

-- the token has a leaf, a mark or a quantifier that passes its test
abbrev pub token_part : (Leaf → Bool) → (Mark → Bool) → (Bounds → Bool) → Token → Bool
token_part l m b (Token.leaf k) = l k
token_part l m b (Token.opens k) = m k
token_part l m b (Token.times k) = b k
token_part l m b _ = false

module _ (l : Leaf → Bool) (m : Mark → Bool) (b : Bounds → Bool) where
  abbrev free : List Token → Bool
  free ts = list_all (λ t. not (token_part l m b t)) ts

  both_free : (ts us : List Token) → free ts ≡ true → free us ≡ true → free (ts ++ us) ≡ true
  both_free [] us e f = f
  both_free (t ∷ ts) us e f = go (token_part l m b t) e (λ g. both_free ts us g f)
    where
      go : (k : Bool) → not k && free ts ≡ true → (free ts ≡ true → free (ts ++ us) ≡ true) → not k && free (ts ++ us) ≡ true
      go true g h = cc
      go false g h = h g

  neither : (a c : Bool) → a || c ≡ false → (a ≡ false) × (c ≡ false)
  neither true c e = cc
  neither false c e = (refl, e)

  -- a tree with no part that passes has no token with one
  pub parts_none : (t : Tree) → some_part l m b t ≡ false → free (tokens_of t) ≡ true
  parts_none Tree.empty e = refl
  parts_none (Tree.leaf k) e = ap (λ z. not z && true) e
  parts_none (Tree.group k t) e =
      let (f, g) = neither (m k) (some_part l m b t) e in
      ap (λ z. not z && free (tokens_of t ++ (Token.closes ∷ []))) f ∙ both_free (tokens_of t) (Token.closes ∷ []) (parts_none t g) refl
  parts_none (Tree.repeat t k) e =
      let (f, g) = neither (b k) (some_part l m b t) e in
      both_free (tokens_of t) (Token.times k ∷ []) (parts_none t g) (ap (λ z. not z && true) f)
  parts_none (Tree.sequence s t) e =
      let (f, g) = neither (some_part l m b s) (some_part l m b t) e in
      both_free (tokens_of s) (tokens_of t) (parts_none s f) (parts_none t g)
  parts_none (Tree.either s t) e =
      let (f, g) = neither (some_part l m b s) (some_part l m b t) e in
      both_free (tokens_of s) (Token.bar ∷ tokens_of t) (parts_none s f) (parts_none t g)
