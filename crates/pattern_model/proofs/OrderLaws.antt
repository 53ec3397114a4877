-- The counts and the ranges of a tree that a text spells go from low to high.
use Rattle.std.proofs.Common.{◌≡◌, ℕ, zero, suc, ◌≤◌, Bool, true, false, List, [], ◌∷◌, ◌++◌, length, drop, Option, Some, None, option_map, option_and_then, refl, subst, arith}
use Rattle.std.specs.Prelude.{if◌then◌else◌, ◌==◌, nat_le, nat_lt, ◌&&◌, ◌||◌}
use Rattle.std.proofs.lemmas.Bool.Decides.{nat_tests}
use Rattle.std.proofs.lemmas.Bool.{leb-true}
use Rattle.pattern_model.specs.Tree.{Escape, Item, Count, count_of, Tree, empty, leaf, group, repeat, sequence, either, Token, tokens_of}
use Rattle.pattern_model.specs.Text.{Text, is_at, with_front, many_in, many}
use Rattle.pattern_model.specs.Digits.{digit_at, digits}
use Rattle.pattern_model.specs.GroupNames.{name}
use Rattle.pattern_model.specs.Escapes.{character_escape, class_escape}
use Rattle.pattern_model.specs.Properties.{past_property}
use Rattle.pattern_model.specs.Classes.{Atom, class_atom, item_of_atom, makes_range, range_of, range_to, has_hyphens, part_from, class_part, class_items}
use Rattle.pattern_model.specs.Quantifiers.{quantifier, most_from, after_comma, least_from, braces}
use Rattle.pattern_model.specs.Groups.{flags, bracketed, marked, opening}
use Rattle.pattern_model.specs.Tokens.{class_token, class_from, leaf_of_name, back_name, leaf_of_code, escape_or_code, escaped, token_from, Reads, Spells}
use Rattle.pattern_model.specs.Ordered.{CountsRise, MostRises, BoundsRise, ItemRises, ItemsRise, LeafRises, IsOrdered}
use Rattle.pattern_model.proofs.BoolLaws.{and_left}

abbrev TokenRises : Token → Type 0
TokenRises (Token.leaf l) = LeafRises l
TokenRises (Token.times b) = BoundsRise b
TokenRises _ = Unit {0}

abbrev TokensRise : List Token → Type 0
TokensRise [] = Unit {0}
TokensRise (t ∷ ts) = TokenRises t × TokensRise ts

-- what is read, if something is, goes from low to high
abbrev Rises : Option (Token × Text) → Type 0
Rises None = Unit {0}
Rises (Some p) = TokenRises p.0

abbrev ReadRises : Option (List Item × Text) → Type 0
ReadRises None = Unit {0}
ReadRises (Some p) = ItemsRise p.0

if_rises : (b : Bool) (p q : Option (Token × Text)) → Rises p → Rises q → Rises (if b then p else q)
if_rises true p q h g = h
if_rises false p q h g = g

map_rises : {A : Type 0} (f : A → Token × Text) (o : Option A) → ((a : A) → TokenRises (f a).0) → Rises (option_map f o)
map_rises f None h = tt
map_rises f (Some a) h = h a

one_if : (b : Bool) (p q : Token × Text) → TokenRises p.0 → TokenRises q.0 → TokenRises (if b then p else q).0
one_if true p q h g = h
one_if false p q h g = g

quantifier_rises : (l : Count) (m : Option Count) (x : Text) → MostRises l m → TokenRises (quantifier l m x).0
unfolding quantifier
quantifier_rises l m x h = one_if (is_at 63 x) _ _ h h

not_above : (n m : ℕ) → nat_lt n 4294967296 ≡ false → nat_lt m 4294967296 ≡ true → n ≤ m → ⊥
not_above n m e f h = grind (arith, nat_tests)

counts_rise : (n m : ℕ) → n ≤ m → CountsRise (count_of n) (count_of m)
counts_rise n m h = go (nat_lt n 4294967296) (nat_lt m 4294967296) refl refl
  where
    go : (a b : Bool) → nat_lt n 4294967296 ≡ a → nat_lt m 4294967296 ≡ b →
        CountsRise (if a then Count.number n else Count.wide) (if b then Count.number m else Count.wide)
    go true true e f = h
    go true false e f = tt
    go false true e f = absurd (not_above n m e f h)
    go false false e f = tt

most_rises : (n : ℕ) (p : ℕ × Text) → Rises (most_from n p)
most_rises n p = go (nat_le n p.0 && is_at 125 p.1) refl
  where
    go : (b : Bool) → nat_le n p.0 && is_at 125 p.1 ≡ b →
        Rises (if b then Some (quantifier (count_of n) (Some (count_of p.0)) (drop 1 p.1)) else None)
    go false e = tt
    go true e = quantifier_rises (count_of n) (Some (count_of p.0)) (drop 1 p.1)
        (counts_rise n p.0 (leb-true n p.0 (and_left (nat_le n p.0) (is_at 125 p.1) e)))

comma_rises : (n : ℕ) (x : Text) → Rises (after_comma n x)
unfolding after_comma
comma_rises n x = if_rises (is_at 125 x) _ _ (quantifier_rises (count_of n) None (drop 1 x) tt)
    (if_rises (digit_at x) _ _ (most_rises n (digits x)) tt)

least_rises : (p : ℕ × Text) → Rises (least_from p)
least_rises p =
    if_rises (is_at 125 p.1) _ _ (quantifier_rises (count_of p.0) (Some (count_of p.0)) (drop 1 p.1) (counts_rise p.0 p.0 (omega arith)))
    (if_rises (is_at 44 p.1) _ _ (comma_rises p.0 (drop 1 p.1)) tt)

braces_rise : (x : Text) → Rises (braces x)
unfolding braces
braces_rise x = if_rises (digit_at x) _ _ (least_rises (digits x)) tt

bracketed_rises : (x : Text) → Rises (bracketed x)
unfolding bracketed
bracketed_rises x = if_rises (is_at 61 x) _ _ tt (if_rises (is_at 33 x) _ _ tt (map_rises _ (name x) (λ p. tt)))

marked_rises : (x : Text) → Rises (marked x)
unfolding marked
marked_rises x =
    if_rises (is_at 58 x) _ _ tt
    (if_rises (is_at 61 x) _ _ tt
    (if_rises (is_at 33 x) _ _ tt
    (if_rises (is_at 60 x) _ _ (bracketed_rises (drop 1 x)) (map_rises _ (flags x) (λ p. tt)))))

opening_rises : (x : Text) → Rises (opening x)
unfolding opening
opening_rises x = if_rises (is_at 63 x) _ _ (marked_rises (drop 1 x)) tt

back_name_rises : (x : Text) → Rises (back_name x)
unfolding back_name
back_name_rises x = if_rises (is_at 60 x) _ _ (map_rises leaf_of_name (name (drop 1 x)) (λ p. tt)) tt

code_rises : (c : ℕ) (x : Text) (o : Option Escape) → Rises (escape_or_code c x o)
code_rises c x (Some e) = tt
code_rises c x None = map_rises leaf_of_code (character_escape c x) (λ p. tt)

escaped_rises : (x : Text) → Rises (escaped x)
unfolding escaped
escaped_rises [] = tt
escaped_rises (c ∷ x) =
    if_rises (c == 98) _ _ tt
    (if_rises (c == 66) _ _ tt
    (if_rises (c == 112) _ _ (map_rises _ (past_property x) (λ p. tt))
    (if_rises (c == 80) _ _ (map_rises _ (past_property x) (λ p. tt))
    (if_rises (c == 107) _ _ (back_name_rises x)
    (if_rises (nat_le 49 c && nat_le c 57) _ _ tt (code_rises c x (class_escape c)))))))

-- the items of a class
atom_rises : (a : Atom) → ItemRises (item_of_atom a)
atom_rises (Atom.code c) = tt
atom_rises (Atom.escape e) = tt
atom_rises (Atom.property b) = tt

range_rises : (a b : Atom) (i : Item) → range_of a b ≡ Some i → ItemRises i
range_rises (Atom.code a) (Atom.code b) i e = go (nat_le a b) refl e
  where
    go : (t : Bool) → nat_le a b ≡ t → (if t then Some (Item.range a b) else None) ≡ Some i → ItemRises i
    go true h f = let same : Item.range a b ≡ i = cc in subst ItemRises same (leb-true a b h)
    go false h f = cc
range_rises (Atom.code a) (Atom.escape s) i e = cc
range_rises (Atom.code a) (Atom.property b) i e = cc
range_rises (Atom.escape s) b i e = cc
range_rises (Atom.property p) b i e = cc

range_to_rises : (a : Atom) (p : Atom × Text) → ReadRises (range_to a p)
range_to_rises a p = go (range_of a p.0) refl
  where
    go : (o : Option Item) → range_of a p.0 ≡ o → ReadRises (option_map (λ i. (i ∷ [], p.1)) o)
    go None e = tt
    go (Some i) e = (range_rises a p.0 i e, tt)

if_read : (b : Bool) (p q : Option (List Item × Text)) → ReadRises p → ReadRises q → ReadRises (if b then p else q)
if_read true p q h g = h
if_read false p q h g = g

bind_read : {A : Type 0} (f : A → Option (List Item × Text)) (o : Option A) → ((a : A) → ReadRises (f a)) →
    ReadRises (option_and_then f o)
bind_read f None h = tt
bind_read f (Some a) h = h a

part_rises : (wide : Bool) (p : Atom × Text) → ReadRises (part_from wide p)
unfolding part_from
part_rises wide p =
    if_read (has_hyphens wide p) _ _ (atom_rises p.0, (tt, (tt, tt)))
    (if_read (makes_range p.1) _ _ (bind_read (range_to p.0) (class_atom (drop 1 p.1)) (range_to_rises p.0)) (atom_rises p.0, tt))

class_part_rises : (wide : Bool) (x : Text) → ReadRises (class_part wide x)
unfolding class_part
class_part_rises wide x = bind_read (part_from wide) (class_atom x) (part_rises wide)

items_append : (is js : List Item) → ItemsRise is → ItemsRise js → ItemsRise (is ++ js)
items_append [] js h g = g
items_append (i ∷ is) js h g = (h.0, items_append is js h.1 g)

front_rises : (is : List Item) (o : Option (List Item × Text)) → ItemsRise is → ReadRises o → ReadRises (with_front is o)
front_rises is None h g = tt
front_rises is (Some p) h g = items_append is p.0 h g

then_rises : (f : Text → Option (List Item × Text)) → ((x : Text) → ReadRises (f x)) → (o : Option (List Item × Text)) → ReadRises o →
    ReadRises (option_and_then (λ p. with_front p.0 (f p.1)) o)
then_rises f h None g = tt
then_rises f h (Some p) g = front_rises p.0 (f p.1) g (h p.1)

many_rises : (stop : Text → Bool) (one : Text → Option (List Item × Text)) → ((x : Text) → ReadRises (one x)) → (n : ℕ) (x : Text) →
    ReadRises (many_in stop one n x)
many_rises stop one h zero x = tt
many_rises stop one h (suc n) x =
    if_read (stop x) _ _ tt (then_rises (many_in stop one n) (λ y. many_rises stop one h n y) (one x) (h x))

items_rise : (wide : Bool) (x : Text) → ReadRises (class_items wide x)
unfolding class_items many
items_rise wide x = many_rises (is_at 93) (class_part wide) (class_part_rises wide) (suc (length x)) x

token_of_items : (negated : Bool) (o : Option (List Item × Text)) → ReadRises o → Rises (option_map (class_token negated) o)
token_of_items negated None h = tt
token_of_items negated (Some p) h = h

class_rises : (wide : Bool) (x : Text) → Rises (class_from wide x)
unfolding class_from
class_rises wide x =
    if_rises (is_at 94 x) _ _ (token_of_items true (class_items wide (drop 1 x)) (items_rise wide (drop 1 x)))
    (token_of_items false (class_items wide x) (items_rise wide x))

token_rises : (wide : Bool) (c : ℕ) (x : Text) → Rises (token_from wide c x)
unfolding token_from
token_rises wide c x =
    if_rises (c == 124) _ _ tt
    (if_rises (c == 40) _ _ (opening_rises x)
    (if_rises (c == 41) _ _ tt
    (if_rises (c == 42) _ _ (quantifier_rises (Count.number 0) None x tt)
    (if_rises (c == 43) _ _ (quantifier_rises (Count.number 1) None x tt)
    (if_rises (c == 63) _ _ (quantifier_rises (Count.number 0) (Some (Count.number 1)) x (omega arith))
    (if_rises (c == 123) _ _ (braces_rise x)
    (if_rises (c == 46) _ _ tt
    (if_rises (c == 94) _ _ tt
    (if_rises (c == 36) _ _ tt
    (if_rises (c == 91) _ _ (class_rises wide x)
    (if_rises (c == 92) _ _ (escaped_rises x)
    (if_rises (c == 93 || c == 125) _ _ (if_rises wide _ _ tt tt) tt))))))))))))

-- the tokens of a text, and of a tree
reads_rise : (wide : Bool) (x : Text) (ts : List Token) → Reads wide x ts → TokensRise ts
reads_rise wide x [] e = tt
reads_rise wide x (t ∷ ts) (c, after, rest, e, f, r) = (subst Rises f (token_rises wide c after), reads_rise wide rest ts r)

tokens_left : (ts us : List Token) → TokensRise (ts ++ us) → TokensRise ts
tokens_left [] us h = tt
tokens_left (t ∷ ts) us h = (h.0, tokens_left ts us h.1)

tokens_right : (ts us : List Token) → TokensRise (ts ++ us) → TokensRise us
tokens_right [] us h = h
tokens_right (t ∷ ts) us h = tokens_right ts us h.1

tree_rises : (t : Tree) → TokensRise (tokens_of t) → IsOrdered t
tree_rises empty h = tt
tree_rises (leaf l) h = h.0
tree_rises (group m t) h = tree_rises t (tokens_left (tokens_of t) (Token.closes ∷ []) h.1)
tree_rises (repeat t b) h =
    (tree_rises t (tokens_left (tokens_of t) (Token.times b ∷ []) h), (tokens_right (tokens_of t) (Token.times b ∷ []) h).0)
tree_rises (sequence l r) h =
    (tree_rises l (tokens_left (tokens_of l) (tokens_of r) h), tree_rises r (tokens_right (tokens_of l) (tokens_of r) h))
tree_rises (either l r) h = (
  tree_rises l (tokens_left (tokens_of l) (Token.bar ∷ tokens_of r) h),
  tree_rises r (tokens_right (tokens_of l) (Token.bar ∷ tokens_of r) h).1,
)

-- a text that spells a tree has its counts and ranges from low to high
pub spelled_ordered : (wide : Bool) (x : Text) (t : Tree) → Spells wide x t → IsOrdered t
spelled_ordered wide x t h = tree_rises t (reads_rise wide x (tokens_of t) h.reads)
