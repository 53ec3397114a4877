-- A text has one tree by Rust's grammar, but for the writing of classes.
use Rattle.std.proofs.Common.{◌≡◌, false, List, [], ◌∷◌, ◌++◌, map, refl, ap, sym, ◌∙◌, subst}
use Rattle.pattern_model.specs.Text.{Text}
use Rattle.pattern_model.specs.Tree.{Leaf, Tree, Token, tokens_of, Level, is_assertion}
use Rattle.pattern_tree.proofs.Complete.{one_tree}
use Rattle.rust_pattern_model.specs.RustPatterns.{RustGrammar}
use Rattle.rust_pattern_model.specs.Alike.{AlikeLeaf, Alike}
use Rattle.rust_pattern_model.proofs.TreeMaps.{map_token, map_tree, tokens_map, fits_map}
use Rattle.rust_pattern_model.proofs.TokensOnce.{AlikeToken, AlikeTokens, tokens_once}

-- a class without its items
abbrev bare : Leaf → Leaf
bare (Leaf.class n items) = Leaf.class false []
bare l = l

bare_asserts : (l : Leaf) → is_assertion (bare l) ≡ is_assertion l
bare_asserts (Leaf.escape e) = refl
bare_asserts (Leaf.code c) = refl
bare_asserts Leaf.dot = refl
bare_asserts Leaf.start = refl
bare_asserts Leaf.end = refl
bare_asserts Leaf.boundary = refl
bare_asserts Leaf.not_boundary = refl
bare_asserts (Leaf.class b items) = refl
bare_asserts (Leaf.property b) = refl
bare_asserts (Leaf.back_number n) = refl
bare_asserts (Leaf.back_name n) = refl

bare_token : {t u : Token} → AlikeToken t u → map_token bare t ≡ map_token bare u
bare_token AlikeToken.same = refl
bare_token (AlikeToken.sets p q s) = refl

bare_tokens : (ts us : List Token) → AlikeTokens ts us → map (map_token bare) ts ≡ map (map_token bare) us
bare_tokens [] [] h = refl
bare_tokens [] (u ∷ us) h = absurd h
bare_tokens (t ∷ ts) [] h = absurd h
bare_tokens (t ∷ ts) (u ∷ us) (h, k) =
    ap (λ z. z ∷ map (map_token bare) ts) (bare_token h) ∙ ap (λ z. map_token bare u ∷ z) (bare_tokens ts us k)

-- of two lists that are alike, parts of one length are alike
parts : (xs ys vs ws : List Token) → map (map_token bare) xs ≡ map (map_token bare) ys → AlikeTokens (xs ++ vs) (ys ++ ws) →
    AlikeTokens xs ys × AlikeTokens vs ws
parts [] [] vs ws e h = (tt, h)
parts [] (y ∷ ys) vs ws e h = cc
parts (x ∷ xs) [] vs ws e h = cc
parts (x ∷ xs) (y ∷ ys) vs ws e (h, k) =
    let f : map (map_token bare) xs ≡ map (map_token bare) ys = cc in
    let (i, j) = parts xs ys vs ws f k in ((h, i), j)

shape : (t u : Tree) → map_tree bare t ≡ map_tree bare u → map (map_token bare) (tokens_of t) ≡ map (map_token bare) (tokens_of u)
shape t u e = sym (tokens_map bare t) ∙ (ap tokens_of e ∙ tokens_map bare u)

leaf_alike : {k l : Leaf} → AlikeToken (Token.leaf k) (Token.leaf l) → AlikeLeaf k l
leaf_alike AlikeToken.same = AlikeLeaf.same
leaf_alike (AlikeToken.sets p q s) = AlikeLeaf.sets p q s

-- trees of one shape with alike tokens are alike
alike_from : (t u : Tree) → map_tree bare t ≡ map_tree bare u → AlikeTokens (tokens_of t) (tokens_of u) → Alike t u
alike_from Tree.empty Tree.empty e h = Alike.empties
alike_from (Tree.leaf k) (Tree.leaf l) e h = Alike.leaves (leaf_alike h.0)
alike_from (Tree.group m t) (Tree.group n u) e h =
    let f : m ≡ n = cc in
    let g : map_tree bare t ≡ map_tree bare u = cc in
    let p = parts (tokens_of t) (tokens_of u) (Token.closes ∷ []) (Token.closes ∷ []) (shape t u g) h.1 in
    subst (λ z. Alike (Tree.group m t) (Tree.group z u)) f (Alike.groups (alike_from t u g p.0))
alike_from (Tree.repeat t b) (Tree.repeat u d) e h =
    let f : b ≡ d = cc in
    let g : map_tree bare t ≡ map_tree bare u = cc in
    let p = parts (tokens_of t) (tokens_of u) (Token.times b ∷ []) (Token.times d ∷ []) (shape t u g) h in
    subst (λ z. Alike (Tree.repeat t b) (Tree.repeat u z)) f (Alike.repeats (alike_from t u g p.0))
alike_from (Tree.sequence l r) (Tree.sequence m s) e h =
    let f : map_tree bare l ≡ map_tree bare m = cc in
    let g : map_tree bare r ≡ map_tree bare s = cc in
    let p = parts (tokens_of l) (tokens_of m) (tokens_of r) (tokens_of s) (shape l m f) h in
    Alike.sequences (alike_from l m f p.0) (alike_from r s g p.1)
alike_from (Tree.either l r) (Tree.either m s) e h =
    let f : map_tree bare l ≡ map_tree bare m = cc in
    let g : map_tree bare r ≡ map_tree bare s = cc in
    let p = parts (tokens_of l) (tokens_of m) (Token.bar ∷ tokens_of r) (Token.bar ∷ tokens_of s) (shape l m f) h in
    Alike.eithers (alike_from l m f p.0) (alike_from r s g p.1.1)
alike_from t u e h = cc

-- the trees of a text are alike
pub trees_alike : (y : Text) (t u : Tree) → RustGrammar y t → RustGrammar y u → Alike t u
trees_alike y t u g h =
    let a = tokens_once y (tokens_of t) (tokens_of u) g.reads h.reads in
    let e : map_tree bare t ≡ map_tree bare u = one_tree (map_tree bare t) (map_tree bare u)
    (fits_map bare bare_asserts Level.disjunction t ∙ g.fits)
    (fits_map bare bare_asserts Level.disjunction u ∙ h.fits)
    (tokens_map bare t ∙ (bare_tokens (tokens_of t) (tokens_of u) a ∙ sym (tokens_map bare u))) in
    alike_from t u e a
