-- A token that begins with another character than a bracket is no class.
use Rattle.std.proofs.Common.{◌≡◌, ℕ, Bool, true, false, [], ◌∷◌, drop, Option, Some, None, option_map, refl, subst}
use Rattle.std.specs.Prelude.{if◌then◌else◌, ◌==◌, nat_le, ◌&&◌, ◌||◌}
use Rattle.pattern_model.specs.Tree.{Escape, Leaf, Count, count_of, Token}
use Rattle.pattern_model.specs.Text.{Text, is_at}
use Rattle.pattern_model.specs.Digits.{digit_at, digits}
use Rattle.pattern_model.specs.GroupNames.{name}
use Rattle.pattern_model.specs.Escapes.{character_escape, class_escape}
use Rattle.pattern_model.specs.Properties.{past_property}
use Rattle.pattern_model.specs.Quantifiers.{quantifier, most_from, after_comma, least_from, braces}
use Rattle.pattern_model.specs.Groups.{flags, bracketed, marked, opening}
use Rattle.pattern_model.specs.Tokens.{leaf_of_name, back_name, leaf_of_code, escape_or_code, escaped, token_from}

abbrev pub is_class : Token → Bool
is_class (Token.leaf (Leaf.class negated items)) = true
is_class _ = false

abbrev Plain : Option (Token × Text) → Type 0
Plain None = Unit {0}
Plain (Some p) = is_class p.0 ≡ false

plain_if : (b : Bool) (p q : Option (Token × Text)) → Plain p → Plain q → Plain (if b then p else q)
plain_if true p q h g = h
plain_if false p q h g = g

plain_map : {A : Type 0} (f : A → Token × Text) (o : Option A) → ((a : A) → is_class (f a).0 ≡ false) → Plain (option_map f o)
plain_map f None h = tt
plain_map f (Some a) h = h a

one_if : (b : Bool) (p q : Token × Text) → is_class p.0 ≡ false → is_class q.0 ≡ false → is_class (if b then p else q).0 ≡ false
one_if true p q h g = h
one_if false p q h g = g

quantifier_plain : (l : Count) (m : Option Count) (x : Text) → is_class (quantifier l m x).0 ≡ false
unfolding quantifier
quantifier_plain l m x = one_if (is_at 63 x) _ _ refl refl

most_plain : (v : ℕ) (p : ℕ × Text) → Plain (most_from v p)
most_plain v p = plain_if (nat_le v p.0 && is_at 125 p.1) _ _ (quantifier_plain (count_of v) (Some (count_of p.0)) (drop 1 p.1)) tt

comma_plain : (v : ℕ) (x : Text) → Plain (after_comma v x)
unfolding after_comma
comma_plain v x = plain_if (is_at 125 x) _ _ (quantifier_plain (count_of v) None (drop 1 x))
    (plain_if (digit_at x) _ _ (most_plain v (digits x)) tt)

least_plain : (p : ℕ × Text) → Plain (least_from p)
least_plain p =
    plain_if (is_at 125 p.1) _ _ (quantifier_plain (count_of p.0) (Some (count_of p.0)) (drop 1 p.1))
    (plain_if (is_at 44 p.1) _ _ (comma_plain p.0 (drop 1 p.1)) tt)

braces_plain : (x : Text) → Plain (braces x)
unfolding braces
braces_plain x = plain_if (digit_at x) _ _ (least_plain (digits x)) tt

bracketed_plain : (x : Text) → Plain (bracketed x)
unfolding bracketed
bracketed_plain x = plain_if (is_at 61 x) _ _ refl (plain_if (is_at 33 x) _ _ refl (plain_map _ (name x) (λ p. refl)))

marked_plain : (x : Text) → Plain (marked x)
unfolding marked
marked_plain x =
    plain_if (is_at 58 x) _ _ refl
    (plain_if (is_at 61 x) _ _ refl
    (plain_if (is_at 33 x) _ _ refl
    (plain_if (is_at 60 x) _ _ (bracketed_plain (drop 1 x)) (plain_map _ (flags x) (λ p. refl)))))

opening_plain : (x : Text) → Plain (opening x)
unfolding opening
opening_plain x = plain_if (is_at 63 x) _ _ (marked_plain (drop 1 x)) refl

back_name_plain : (x : Text) → Plain (back_name x)
unfolding back_name
back_name_plain x = plain_if (is_at 60 x) _ _ (plain_map leaf_of_name (name (drop 1 x)) (λ p. refl)) tt

code_plain : (c : ℕ) (x : Text) (o : Option Escape) → Plain (escape_or_code c x o)
code_plain c x (Some e) = refl
code_plain c x None = plain_map leaf_of_code (character_escape c x) (λ p. refl)

escaped_plain : (x : Text) → Plain (escaped x)
unfolding escaped
escaped_plain [] = tt
escaped_plain (c ∷ x) =
    plain_if (c == 98) _ _ refl
    (plain_if (c == 66) _ _ refl
    (plain_if (c == 112) _ _ (plain_map _ (past_property x) (λ p. refl))
    (plain_if (c == 80) _ _ (plain_map _ (past_property x) (λ p. refl))
    (plain_if (c == 107) _ _ (back_name_plain x)
    (plain_if (nat_le 49 c && nat_le c 57) _ _ refl (code_plain c x (class_escape c)))))))

no_bracket : (b : Bool) (p q : Option (Token × Text)) → b ≡ false → Plain q → Plain (if b then p else q)
no_bracket true p q e h = cc
no_bracket false p q e h = h

all_plain : (wide : Bool) (c : ℕ) (x : Text) → c == 91 ≡ false → Plain (token_from wide c x)
unfolding token_from
all_plain wide c x e =
    plain_if (c == 124) _ _ refl
    (plain_if (c == 40) _ _ (opening_plain x)
    (plain_if (c == 41) _ _ refl
    (plain_if (c == 42) _ _ (quantifier_plain (Count.number 0) None x)
    (plain_if (c == 43) _ _ (quantifier_plain (Count.number 1) None x)
    (plain_if (c == 63) _ _ (quantifier_plain (Count.number 0) (Some (Count.number 1)) x)
    (plain_if (c == 123) _ _ (braces_plain x)
    (plain_if (c == 46) _ _ refl
    (plain_if (c == 94) _ _ refl
    (plain_if (c == 36) _ _ refl
    (no_bracket (c == 91) _ _ e
    (plain_if (c == 92) _ _ (escaped_plain x)
    (plain_if (c == 93 || c == 125) _ _ (plain_if wide _ _ refl tt) refl))))))))))))

pub token_plain : (wide : Bool) (c : ℕ) (x rest : Text) (t : Token) → c == 91 ≡ false → token_from wide c x ≡ Some (t, rest) →
    is_class t ≡ false
token_plain wide c x rest t e f = subst Plain f (all_plain wide c x e)
