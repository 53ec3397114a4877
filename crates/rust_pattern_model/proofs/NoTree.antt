-- Texts that have no tree by Rust's grammar: to give these patterns back would not do.
use Rattle.std.proofs.Common.{◌≡◌, ℕ, Bool, true, false, List, [], ◌∷◌, drop, ap, sym, ◌∙◌, subst}
use Rattle.std.specs.Prelude.{◌==◌, codes}
use Rattle.pattern_model.specs.Text.{Text, is_at}
use Rattle.pattern_model.specs.Tree.{Tree, Token, tokens_of}
use Rattle.rust_pattern_model.specs.RustClasses.{Items, escape, has_range, Opens, ReadsItems, ReadsClass}
use Rattle.rust_pattern_model.specs.RustPatterns.{ReadsToken, ReadsTokens, RustGrammar}
use Rattle.rust_pattern_model.proofs.Alone.{true_false, none_some, pair_same}
use Rattle.rust_pattern_model.proofs.TokensOnce.{Seen, sorted, same_number}

-- behind a backslash `s` is no escape
no_space : (r : Text) (u : Token) (n : ℕ) → Seen u n → 1 == n ≡ true → ReadsToken (codes "\\s") u r → ⊥
unfolding escape
no_space r u n (Seen.code c) e h = none_some h
no_space r u n a e h = true_false (sym e)

space_tokens : (ts : List Token) → ReadsTokens (codes "\\s") ts → ⊥
space_tokens [] h = true_false (ap (is_at 92) h)
space_tokens (t ∷ ts) (r, h, k) = let s = sorted (codes "\\s") t r h in no_space r t s.kind s.seen (same_number 1 s.kind s.at) h

-- `\s` has no tree
pub no_space_tree : (t : Tree) → RustGrammar (codes "\\s") t → ⊥
no_space_tree t g = space_tokens (tokens_of t) g.reads

-- a set operation is no item
operation : (u : Items) (r : Text) → ReadsItems (codes "&&b]") u r → ⊥
operation Items.none r h = true_false (sym (ap (is_at 93) h))
operation (Items.one a more) r (after, b, e, g, h) = true_false b.no_operation
operation (Items.range a c more) r (middle, after, b, e, g, h, i, j) = true_false b.no_operation
operation (Items.nested n inner more) r (inside, after, b, o, g, h, i) = true_false b.no_operation

not_opened : (inside : Text) (n : Bool) → Opens (codes "a&&b]") n inside → ⊥
not_opened inside true o = true_false (ap (is_at 97) o)
not_opened inside false (o, e) = true_false (ap (is_at 97) o)

behind_a : (u : Items) (r : Text) → ReadsItems (codes "a&&b]") u r → ⊥
behind_a Items.none r h = true_false (sym (ap (is_at 93) h))
behind_a (Items.one a more) r (after, b, e, g, h) =
    operation more r (subst (λ z. ReadsItems z more r) (sym (pair_same 97 a (codes "&&b]") after e).1) h)
behind_a (Items.range a c more) r (middle, after, b, e, g, h, i, j) =
    true_false (sym g ∙ ap has_range (sym (pair_same 97 a (codes "&&b]") middle e).1))
behind_a (Items.nested n inner more) r (inside, after, b, o, g, h, i) = not_opened inside n o

no_class : (n : Bool) (u : Items) (r : Text) → ReadsClass (codes "[a&&b]") n u r → ⊥
no_class true u r (inside, o, e, h) = true_false (ap (λ z. is_at 97 (drop 1 z)) o)
no_class false u r (inside, o, e, h) = behind_a u r (subst (λ z. ReadsItems z u r) (sym (ap (drop 1) o.0)) h)

no_operation : (r : Text) (u : Token) (n : ℕ) → Seen u n → 4 == n ≡ true → ReadsToken (codes "[a&&b]") u r → ⊥
no_operation r u n (Seen.class b items) e h = no_class h.caret h.inner r h.class
no_operation r u n a e h = true_false (sym e)

operation_tokens : (ts : List Token) → ReadsTokens (codes "[a&&b]") ts → ⊥
operation_tokens [] h = true_false (ap (is_at 91) h)
operation_tokens (t ∷ ts) (r, h, k) =
    let s = sorted (codes "[a&&b]") t r h in no_operation r t s.kind s.seen (same_number 4 s.kind s.at) h

-- `[a&&b]` has no tree
pub no_operation_tree : (t : Tree) → RustGrammar (codes "[a&&b]") t → ⊥
no_operation_tree t g = operation_tokens (tokens_of t) g.reads
