-- What is written for a pattern that is not refused has, by Rust's grammar, a tree that is alike to the pattern's.
use Rattle.std.proofs.Common.{◌≡◌, Bool, true, false, not, List, [], ◌∷◌, map, Some, None, refl, ap, sym, ◌∙◌, subst}
use Rattle.std.specs.Prelude.{if◌then◌else◌, ◌||◌, nat_lt}
use Rattle.std.specs.List.{list_all}
use Rattle.std.proofs.Math.Bool.{or-false}
use Rattle.pattern_model.specs.Text.{Text, is_at}
use Rattle.pattern_model.specs.Members.{leaf_has}
use Rattle.pattern_model.specs.Tree.{Escape, Leaf, Mark, Bounds, Tree, Token, tokens_of, Level, is_assertion, is_look}
use Rattle.pattern_model.proofs.BoolLaws.{and_left, and_right}
use Rattle.rust_pattern_model.specs.Refusals.{refers_back, has_look_around, has_back_reference, is_empty_class, has_other_name, has_wide_count, has_other_part, depth, shares_name, has_other_escape, is_unsupported, Refusal, refusal, modifies, is_copied_untold, has_untold_part}
use Rattle.rust_pattern_model.specs.Translation.{Writes, Translates}
use Rattle.rust_pattern_model.specs.RustPatterns.{ReadsTokens, RustGrammar}
use Rattle.rust_pattern_model.specs.Alike.{AlikeLeaf, Alike}
use Rattle.rust_pattern_model.proofs.EscapeScan.{or_left, or_right}
use Rattle.rust_pattern_model.proofs.TreeMaps.{map_token, map_tree, tokens_map, fits_map, apart_map, alike_map, token_part, parts_none}
use Rattle.rust_pattern_model.proofs.EscapeSets.{is_capital, small}
use Rattle.rust_pattern_model.proofs.TokenReads.{rust_leaf, Kept, token_passes}

-- a class escape has the members of its class
escape_alike : (e : Escape) → AlikeLeaf (Leaf.escape e) (Leaf.class (is_capital e) (small e ∷ []))
escape_alike Escape.digit = AlikeLeaf.sets refl refl (λ c. sym (or-false (leaf_has (Leaf.escape Escape.digit) c)))
escape_alike Escape.not_digit = AlikeLeaf.sets refl refl (λ c. ap not (sym (or-false (leaf_has (Leaf.escape Escape.digit) c))))
escape_alike Escape.space = AlikeLeaf.sets refl refl (λ c. sym (or-false (leaf_has (Leaf.escape Escape.space) c)))
escape_alike Escape.not_space = AlikeLeaf.sets refl refl (λ c. ap not (sym (or-false (leaf_has (Leaf.escape Escape.space) c))))
escape_alike Escape.word = AlikeLeaf.sets refl refl (λ c. sym (or-false (leaf_has (Leaf.escape Escape.word) c)))
escape_alike Escape.not_word = AlikeLeaf.sets refl refl (λ c. ap not (sym (or-false (leaf_has (Leaf.escape Escape.word) c))))

leaf_alike : (l : Leaf) → AlikeLeaf l (rust_leaf l)
leaf_alike (Leaf.escape e) = escape_alike e
leaf_alike (Leaf.code c) = AlikeLeaf.same
leaf_alike Leaf.dot = AlikeLeaf.same
leaf_alike Leaf.start = AlikeLeaf.same
leaf_alike Leaf.end = AlikeLeaf.same
leaf_alike Leaf.boundary = AlikeLeaf.same
leaf_alike Leaf.not_boundary = AlikeLeaf.same
leaf_alike (Leaf.class b items) = AlikeLeaf.same
leaf_alike (Leaf.property b) = AlikeLeaf.same
leaf_alike (Leaf.back_number n) = AlikeLeaf.same
leaf_alike (Leaf.back_name n) = AlikeLeaf.same

leaf_asserts : (l : Leaf) → is_assertion (rust_leaf l) ≡ is_assertion l
leaf_asserts (Leaf.escape e) = refl
leaf_asserts (Leaf.code c) = refl
leaf_asserts Leaf.dot = refl
leaf_asserts Leaf.start = refl
leaf_asserts Leaf.end = refl
leaf_asserts Leaf.boundary = refl
leaf_asserts Leaf.not_boundary = refl
leaf_asserts (Leaf.class b items) = refl
leaf_asserts (Leaf.property b) = refl
leaf_asserts (Leaf.back_number n) = refl
leaf_asserts (Leaf.back_name n) = refl

-- no token is a cause of refusal, and Rust's grammar tells of each
abbrev AreKept : List Token → Type 0
AreKept [] = Unit {0}
AreKept (t ∷ ts) = Kept t × AreKept ts

-- no token has a part that passes its test
abbrev free : (Leaf → Bool) → (Mark → Bool) → (Bounds → Bool) → List Token → Bool
free l m b ts = list_all (λ t. not (token_part l m b t)) ts

first_free : (l : Leaf → Bool) (m : Mark → Bool) (b : Bounds → Bool) (t : Token) (ts : List Token) → free l m b (t ∷ ts) ≡ true →
    token_part l m b t ≡ false
first_free l m b t ts e = go (token_part l m b t) (and_left (not (token_part l m b t)) (free l m b ts) e)
  where
    go : (k : Bool) → not k ≡ true → k ≡ false
    go true f = cc
    go false f = refl

more_free : (l : Leaf → Bool) (m : Mark → Bool) (b : Bounds → Bool) (t : Token) (ts : List Token) → free l m b (t ∷ ts) ≡ true →
    free l m b ts ≡ true
more_free l m b t ts e = and_right (not (token_part l m b t)) (free l m b ts) e

are_kept : (ts : List Token) → free (λ l. false) is_look (λ b. false) ts ≡ true → free refers_back (λ m. false) (λ b. false) ts ≡ true →
    free is_empty_class has_other_name has_wide_count ts ≡ true → free is_copied_untold modifies (λ b. false) ts ≡ true → AreKept ts
are_kept [] e f g h = tt
are_kept (t ∷ ts) e f g h = (
  record {
    no_look = first_free (λ l. false) is_look (λ b. false) t ts e;
    no_reference = first_free refers_back (λ m. false) (λ b. false) t ts f;
    no_other = first_free is_empty_class has_other_name has_wide_count t ts g;
    told = first_free is_copied_untold modifies (λ b. false) t ts h;
  },
  are_kept ts (more_free (λ l. false) is_look (λ b. false) t ts e) (more_free refers_back (λ m. false) (λ b. false) t ts f)
      (more_free is_empty_class has_other_name has_wide_count t ts g) (more_free is_copied_untold modifies (λ b. false) t ts h),
)

-- what is written for tokens in a row is these tokens; a question mark begins it only where it begins the source
tokens_read : (ts : List Token) (x w : Text) → Writes x ts w → has_other_escape false x ≡ false → AreKept ts →
    ReadsTokens w (map (map_token rust_leaf) ts) × (is_at 63 x ≡ false → is_at 63 w ≡ false)
tokens_read [] x w (e, f) n k = (f, λ g. ap (is_at 63) f)
tokens_read (t ∷ ts) x w (c, after, rest, v, u, e, read, token, more, f) n (k, ks) =
    let p = token_passes c after rest v t read token (sym (ap (has_other_escape false) e) ∙ n) k in
    let (tail, mark) = tokens_read ts rest u more p.passed ks in
    subst (λ z. ReadsTokens z (map (map_token rust_leaf) (t ∷ ts)) × (is_at 63 x ≡ false → is_at 63 z ≡ false)) (sym f)
    ((u, p.reads u mark, tail), λ g. p.front (sym (ap (is_at 63) e) ∙ g) u)

-- what the causes of refusal say of a text that has none
record Supported (x : Text) (t : Tree) : Type 0 where
  pub no_look : has_look_around t ≡ false
  pub no_reference : has_back_reference t ≡ false
  pub no_escape : has_other_escape false x ≡ false
  pub no_other : has_other_part t ≡ false

supported : (x : Text) (t : Tree) → refusal x t ≡ None → Supported x t
supported x t e = go (has_look_around t) (has_back_reference t) (is_unsupported x t) refl refl refl e
  where
    go : (a b c : Bool) → has_look_around t ≡ a → has_back_reference t ≡ b → is_unsupported x t ≡ c →
        (if a then Some Refusal.look_around else if b then Some Refusal.back_reference else if c then Some Refusal.unsupported else None) ≡ None →
        Supported x t
    go true b c f g h i = cc
    go false true c f g h i = cc
    go false false true f g h i = cc
    go false false false f g h i = record {
      no_look = f;
      no_reference = g;
      no_escape = or_left (has_other_escape false x) (has_other_part t || (nat_lt 250 (depth t) || shares_name t)) h;
      no_other =
          or_left (has_other_part t) (nat_lt 250 (depth t) || shares_name t)
          (or_right (has_other_escape false x) (has_other_part t || (nat_lt 250 (depth t) || shares_name t)) h);
    }

-- The text for Rust of a pattern has, by Rust's grammar, a tree that is alike to the pattern's.
pub text_read : (x w : Text) (h : Translates x w) → has_untold_part h.tree ≡ false → (u : Tree) × RustGrammar w u × Alike h.tree u
text_read x w h e =
    let s = supported x h.tree h.kept in
    let kept = are_kept (tokens_of h.tree) (parts_none (λ l. false) is_look (λ b. false) h.tree s.no_look)
    (parts_none refers_back (λ m. false) (λ b. false) h.tree s.no_reference)
    (parts_none is_empty_class has_other_name has_wide_count h.tree s.no_other)
    (parts_none is_copied_untold modifies (λ b. false) h.tree e) in
    let (reads, mark) = tokens_read (tokens_of h.tree) x w h.writes s.no_escape kept in (
      map_tree rust_leaf h.tree,
      record {
        fits = fits_map rust_leaf leaf_asserts Level.disjunction h.tree ∙ h.grammar.spells.fits;
        reads = subst (ReadsTokens w) (sym (tokens_map rust_leaf h.tree)) reads;
        apart = apart_map rust_leaf h.tree ∙ h.grammar.apart;
      },
      alike_map rust_leaf leaf_alike h.tree,
    )
