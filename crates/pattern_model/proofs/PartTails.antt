-- What follows a part of a pattern is a tail of what it was read from: whatever holds of a text and passes on to its tails
-- holds of what follows.
use Rattle.std.proofs.Common.{◌≡◌, ℕ, zero, suc, ◌+◌, ◌*◌, Bool, true, false, [], ◌∷◌, drop, Option, Some, None, option_map, option_and_then, refl, sym, subst}
use Rattle.std.specs.Prelude.{if◌then◌else◌, ◌==◌, nat_le, ◌&&◌}
use Rattle.pattern_model.specs.Tree.{Item, Escape}
use Rattle.pattern_model.specs.Text.{Text, is_at, past}
use Rattle.pattern_model.specs.Digits.{hex_value, hex_step, hex_from, hex, hex_to_brace, digit_at}
use Rattle.pattern_model.specs.CodePoints.{if_code_point, code_point, is_trail, if_trail, trail, is_lead, with_trail, paired, unicode_escape}
use Rattle.pattern_model.specs.Letters.{is_ascii_letter, is_alphanumeric}
use Rattle.pattern_model.specs.Escapes.{control, character_escape, class_escape}
use Rattle.pattern_model.specs.Properties.{is_word, word_at, past_word, word, property_end, past_property}
use Rattle.pattern_model.specs.GroupNames.{is_scalar, if_scalar, name_character, goes_on_name, if_part, name_part}
use Rattle.pattern_model.specs.Classes.{Atom, code_atom, escape_or_code, escaped_atom, class_atom, makes_range, range_of, range_to, has_hyphens, part_from, class_part}

-- a property of texts that passes on to the text without its first character
pub record Tails : Type 1 where
  pub holds : Text → Type 0
  pub next : (c : ℕ) (x : Text) → holds (c ∷ x) → holds x

-- it holds of what follows the first character
abbrev pub After : Tails → Text → Type 0
After n [] = Unit {0}
After n (c ∷ x) = n.holds x

pub after_of : (n : Tails) (x : Text) → n.holds x → After n x
after_of n [] h = tt
after_of n (c ∷ x) h = n.next c x h

-- it holds of what is left, if anything was read
pub data Short {A : Type 0} (n : Tails) : Option (A × Text) → Type 0 where
  nothing : Short n None
  left : {p : A × Text} → n.holds p.1 → Short n (Some p)

pub data Less (n : Tails) : Option Text → Type 0 where
  no_text : Less n None
  text : {x : Text} → n.holds x → Less n (Some x)

pub short_holds : {A : Type 0} (n : Tails) (o : Option (A × Text)) (p : A × Text) → Short n o → o ≡ Some p → n.holds p.1
short_holds n None p h e = cc
short_holds n (Some q) p (left l) e = let f : q ≡ p = cc in subst (λ z. n.holds z.1) f l

pub short_if : {A : Type 0} {n : Tails} (t : Bool) {a b : Option (A × Text)} → Short n a → Short n b → Short n (if t then a else b)
short_if true h g = h
short_if false h g = g

pub short_bind : {A B : Type 0} (m n : Tails) (f : A × Text → Option (B × Text)) (o : Option (A × Text)) → Short m o →
    ((p : A × Text) → m.holds p.1 → Short n (f p)) → Short n (option_and_then f o)
short_bind m n f None h g = nothing
short_bind m n f (Some p) (left l) g = g p l

pub short_map : {A B : Type 0} (n : Tails) (f : A × Text → B × Text) (o : Option (A × Text)) → ((p : A × Text) → (f p).1 ≡ p.1) →
    Short n o → Short n (option_map f o)
short_map n f None e h = nothing
short_map n f (Some p) e (left l) = left (subst n.holds (sym (e p)) l)

pub less_if : {n : Tails} (t : Bool) {a b : Option Text} → Less n a → Less n b → Less n (if t then a else b)
less_if true h g = h
less_if false h g = g

less_bind : (m n : Tails) (f : Text → Option Text) (o : Option Text) → Less m o → ((x : Text) → m.holds x → Less n (f x)) →
    Less n (option_and_then f o)
less_bind m n f None h g = no_text
less_bind m n f (Some x) (text l) g = g x l

pub short_text : {A : Type 0} (n : Tails) (f : Text → A × Text) (o : Option Text) → ((x : Text) → (f x).1 ≡ x) → Less n o →
    Short n (option_map f o)
short_text n f None e h = nothing
short_text n f (Some x) e (text l) = left (subst n.holds (sym (e x)) l)

pub drop_less : (k : ℕ) (n : Tails) (x : Text) → n.holds x → n.holds (drop k x)
drop_less zero n x h = h
drop_less (suc k) n [] h = h
drop_less (suc k) n (c ∷ x) h = drop_less k n x (n.next c x h)

-- how far each part of the grammar gets
bind_digit : {A : Type 0} (n : Tails) (f : ℕ → Option (A × Text)) (o : Option ℕ) → ((d : ℕ) → Short n (f d)) → Short n (option_and_then f o)
bind_digit n f None h = nothing
bind_digit n f (Some d) h = h d

step_short : (v : ℕ) (x : Text) (n : Tails) → n.holds x → Short n (hex_step v x)
step_short v [] n h = nothing
step_short v (c ∷ x) n h = go (hex_value c)
  where
    go : (o : Option ℕ) → Short n (option_map (λ d. (16 * v + d, x)) o)
    go None = nothing
    go (Some d) = left (n.next c x h)

hex_short : (k v : ℕ) (x : Text) (n : Tails) → n.holds x → Short n (hex_from k v x)
hex_short zero v x n h = left h
hex_short (suc k) v x n h = short_bind n n (λ p. hex_from k p.0 p.1) (hex_step v x) (step_short v x n h) (λ p l. hex_short k p.0 p.1 n l)

brace_short : (v : ℕ) (x : Text) (n : Tails) → n.holds x → Short n (hex_to_brace v x)
brace_short v [] n h = nothing
brace_short v (c ∷ x) n h =
    short_if (c == 125) (left (n.next c x h)) (bind_digit n (λ d. hex_to_brace (16 * v + d) x) (hex_value c)
    (λ d. brace_short (16 * v + d) x n (n.next c x h)))

code_point_short : (x : Text) (n : Tails) → n.holds x → Short n (code_point x)
unfolding code_point
code_point_short x n h =
    short_if (is_at 125 x) nothing (short_bind n n if_code_point (hex_to_brace 0 x) (brace_short 0 x n h)
    (λ p l. short_if (nat_le p.0 1114111) (left l) nothing))

trail_short : (x : Text) (n : Tails) → n.holds x → Short n (trail x)
unfolding trail hex
trail_short x n h =
    short_if (is_at 92 x && is_at 117 (drop 1 x)) (short_bind n n if_trail (hex_from 4 0 (drop 2 x))
    (hex_short 4 0 (drop 2 x) n (drop_less 2 n x h)) (λ p l. short_if (is_trail p.0) (left l) nothing)) nothing

paired_short : (p : ℕ × Text) (n : Tails) → n.holds p.1 → n.holds (paired p).1
unfolding paired
paired_short p n h = go (is_lead p.0)
  where
    inner : (o : Option (ℕ × Text)) → Short n o → n.holds (with_trail p o).1
    inner None s = h
    inner (Some q) (left l) = l

    go : (b : Bool) → n.holds (if b then with_trail p (trail p.1) else p).1
    go true = inner (trail p.1) (trail_short p.1 n h)
    go false = h

map_short : (n : Tails) (o : Option (ℕ × Text)) → Short n o → Short n (option_map paired o)
map_short n None h = nothing
map_short n (Some p) (left l) = left (paired_short p n l)

unicode_short : (x : Text) (n : Tails) → n.holds x → Short n (unicode_escape x)
unfolding unicode_escape hex
unicode_short x n h = short_if (is_at 123 x) (code_point_short (drop 1 x) n (drop_less 1 n x h))
    (map_short n (hex_from 4 0 x) (hex_short 4 0 x n h))

control_short : (x : Text) (n : Tails) → n.holds x → Short n (control x)
unfolding control
control_short [] n h = nothing
control_short (c ∷ x) n h = short_if (is_ascii_letter c) (left (n.next c x h)) nothing

pub character_short : (c : ℕ) (x : Text) (n : Tails) → n.holds x → Short n (character_escape c x)
unfolding character_escape hex
character_short c x n h =
    short_if (c == 102) (left h)
    (short_if (c == 110) (left h) (short_if (c == 114) (left h) (short_if (c == 116) (left h) (short_if (c == 118) (left h)
    (short_if (c == 99) (control_short x n h) (short_if (c == 48) (short_if (digit_at x) nothing (left h))
    (short_if (c == 120) (hex_short 2 0 x n h)
    (short_if (c == 117) (unicode_short x n h) (short_if (is_alphanumeric c) nothing (left h))))))))))

if_less : (n : Tails) (b : Bool) (x y : Text) → n.holds x → n.holds y → n.holds (if b then x else y)
if_less n true x y h g = h
if_less n false x y h g = g

word_short : (x : Text) (n : Tails) → n.holds x → n.holds (past_word x)
word_short [] n h = h
word_short (c ∷ x) n h = if_less n (is_word c) (past_word x) (c ∷ x) (word_short x n (n.next c x h)) h

one_word : (x : Text) (n : Tails) → n.holds x → Less n (word x)
unfolding word
one_word x n h = less_if (word_at x) (text (word_short x n h)) no_text

past_less : (c : ℕ) (x : Text) (n : Tails) → n.holds x → Less n (past c x)
past_less c x n h = less_if (is_at c x) (text (drop_less 1 n x h)) no_text

pub property_less : (x : Text) (n : Tails) → n.holds x → Less n (past_property x)
unfolding past_property
property_less x n h =
    less_if (is_at 123 x) (less_bind n n property_end (word (drop 1 x)) (one_word (drop 1 x) n (drop_less 1 n x h)) (λ y l.
    less_if (is_at 61 y) (less_bind n n (past 125) (word (drop 1 y)) (one_word (drop 1 y) n (drop_less 1 n y l))
    (λ z m. past_less 125 z n m)) (past_less 125 y n l))) no_text

pub name_character_short : (x : Text) (n : Tails) → After n x → Short n (name_character x)
unfolding name_character
name_character_short [] n h = nothing
name_character_short (c ∷ x) n h =
    short_if (c == 92)
    (short_if (is_at 117 x) (short_bind n n if_scalar (unicode_escape (drop 1 x)) (unicode_short (drop 1 x) n (drop_less 1 n x h))
    (λ p l. short_if (is_scalar p.0) (left l) nothing)) nothing)
    (left h)

pub name_part_short : (x : Text) (n : Tails) → After n x → Short n (name_part x)
unfolding name_part
name_part_short x n h =
    short_bind n n (if_part goes_on_name) (name_character x) (name_character_short x n h)
    (λ q k. short_if (goes_on_name q.0) (left k) nothing)

escape_short : (c : ℕ) (x : Text) (n : Tails) (o : Option Escape) → n.holds x → Short n (escape_or_code c x o)
escape_short c x n (Some e) h = left h
escape_short c x n None h = short_map n code_atom (character_escape c x) (λ p. refl) (character_short c x n h)

escaped_atom_short : (x : Text) (n : Tails) → n.holds x → Short n (escaped_atom x)
unfolding escaped_atom
escaped_atom_short [] n h = nothing
escaped_atom_short (c ∷ x) n h =
    let l : n.holds x = n.next c x h in
    short_if (c == 98) (left l)
    (short_if (c == 112) (short_text n _ (past_property x) (λ y. refl) (property_less x n l))
    (short_if (c == 80) (short_text n _ (past_property x) (λ y. refl) (property_less x n l))
    (escape_short c x n (class_escape c) l)))

pub class_atom_short : (x : Text) (n : Tails) → After n x → Short n (class_atom x)
unfolding class_atom
class_atom_short [] n h = nothing
class_atom_short (c ∷ x) n h = short_if (c == 92) (escaped_atom_short x n h) (left h)

range_short : (n : Tails) (a : Atom) (p : Atom × Text) → n.holds p.1 → Short n (range_to a p)
range_short n a p h = go (range_of a p.0)
  where
    go : (o : Option Item) → Short n (option_map (λ i. (i ∷ [], p.1)) o)
    go None = nothing
    go (Some i) = left h

part_from_short : (wide : Bool) (n : Tails) (p : Atom × Text) → n.holds p.1 → Short n (part_from wide p)
unfolding part_from
part_from_short wide n p h =
    short_if (has_hyphens wide p) (left (drop_less 2 n p.1 h))
    (short_if (makes_range p.1)
    (short_bind n n (range_to p.0) (class_atom (drop 1 p.1))
    (class_atom_short (drop 1 p.1) n (after_of n (drop 1 p.1) (drop_less 1 n p.1 h))) (λ q k. range_short n p.0 q k))
    (left h))

pub class_part_short : (wide : Bool) (x : Text) (n : Tails) → After n x → Short n (class_part wide x)
unfolding class_part
class_part_short wide x n h =
    short_bind n n (part_from wide) (class_atom x) (class_atom_short x n h) (λ q k. part_from_short wide n q k)
