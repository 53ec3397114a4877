-- What follows a token is a tail of what follows the token's first character.
use Rattle.std.proofs.Common.{◌≡◌, ℕ, zero, suc, ◌+◌, ◌*◌, ◌-◌, ◌<◌, ◌≤◌, Bool, true, false, List, [], ◌∷◌, ◌++◌, length, drop, Option, Some, None, option_map, option_and_then, refl, ap, arith, subst, sym, ◌∙◌, append_assoc}
use Rattle.std.specs.Prelude.{if◌then◌else◌, ◌==◌, nat_le, ◌&&◌, ◌||◌}
use Rattle.pattern_model.specs.Tree.{Escape, Mark, Count, count_of, Token}
use Rattle.pattern_model.specs.Text.{Text, is_at, with_front, many_in, many}
use Rattle.pattern_model.specs.Digits.{is_digit, digit_at, digits_from, digits}
use Rattle.pattern_model.specs.GroupNames.{name, name_start, name_parts, name_part, past_bracket, starts_name, if_part, name_character}
use Rattle.pattern_model.specs.Classes.{class_part, class_items}
use Rattle.pattern_model.specs.Escapes.{character_escape, class_escape}
use Rattle.pattern_model.specs.Properties.{past_property}
use Rattle.pattern_model.specs.Quantifiers.{quantifier, most_from, after_comma, least_from, braces}
use Rattle.pattern_model.specs.Groups.{to_colon, are_modifiers, if_modifiers, flags, opens, bracketed, marked, opening}
use Rattle.pattern_model.specs.Tokens.{class_token, class_from, leaf_of_name, back_name, leaf_of_code, escape_or_code, escaped, token_from, Reads}
use Rattle.pattern_model.proofs.PartTails.{Tails, after_of, Short, short_if, short_bind, short_map, short_text, Less, less_if, short_holds, drop_less, property_less, character_short, name_character_short, name_part_short, class_part_short, nothing, left, no_text, text}

if_short : (n : Tails) (b : Bool) (p q : Token × Text) → n.holds p.1 → n.holds q.1 → n.holds (if b then p else q).1
if_short n true p q h g = h
if_short n false p q h g = g

quantifier_short : (l : Count) (m : Option Count) (x : Text) (n : Tails) → n.holds x → n.holds (quantifier l m x).1
unfolding quantifier
quantifier_short l m x n h = if_short n (is_at 63 x) _ _ (drop_less 1 n x h) h

pair_less : (n : Tails) (b : Bool) (p q : ℕ × Text) → n.holds p.1 → n.holds q.1 → n.holds (if b then p else q).1
pair_less n true p q h g = h
pair_less n false p q h g = g

digits_short : (v : ℕ) (x : Text) (n : Tails) → n.holds x → n.holds (digits_from v x).1
digits_short v [] n h = h
digits_short v (c ∷ x) n h = pair_less n (is_digit c) (digits_from (10 * v + (c - 48)) x) (v, c ∷ x)
    (digits_short (10 * v + (c - 48)) x n (n.next c x h)) h

most_short : (v : ℕ) (p : ℕ × Text) (n : Tails) → n.holds p.1 → Short n (most_from v p)
most_short v p n h =
    short_if (nat_le v p.0 && is_at 125 p.1)
    (left (quantifier_short (count_of v) (Some (count_of p.0)) (drop 1 p.1) n (drop_less 1 n p.1 h))) nothing

comma_short : (v : ℕ) (x : Text) (n : Tails) → n.holds x → Short n (after_comma v x)
unfolding after_comma digits
comma_short v x n h =
    short_if (is_at 125 x) (left (quantifier_short (count_of v) None (drop 1 x) n (drop_less 1 n x h)))
    (short_if (digit_at x) (most_short v (digits_from 0 x) n (digits_short 0 x n h)) nothing)

least_short : (p : ℕ × Text) (n : Tails) → n.holds p.1 → Short n (least_from p)
least_short p n h =
    short_if (is_at 125 p.1) (left (quantifier_short (count_of p.0) (Some (count_of p.0)) (drop 1 p.1) n (drop_less 1 n p.1 h)))
    (short_if (is_at 44 p.1) (comma_short p.0 (drop 1 p.1) n (drop_less 1 n p.1 h)) nothing)

braces_short : (x : Text) (n : Tails) → n.holds x → Short n (braces x)
unfolding braces digits
braces_short x n h = short_if (digit_at x) (least_short (digits_from 0 x) n (digits_short 0 x n h)) nothing

front_short : {A : Type 0} (n : Tails) (xs : List A) (r : Option (List A × Text)) → Short n r → Short n (with_front xs r)
front_short n xs r h = short_map n (λ p. (xs ++ p.0, p.1)) r (λ p. refl) h

colon_short : (x : Text) (n : Tails) → n.holds x → Short n (to_colon x)
colon_short [] n h = nothing
colon_short (c ∷ x) n h =
    short_if (c == 58) (left (n.next c x h)) (front_short n (c ∷ []) (to_colon x) (colon_short x n (n.next c x h)))

flags_short : (x : Text) (n : Tails) → n.holds x → Less n (flags x)
unfolding flags
flags_short x n h = go (to_colon x) (colon_short x n h)
  where
    go : (o : Option (Text × Text)) → Short n o → Less n (option_and_then if_modifiers o)
    go None s = no_text
    go (Some p) (left l) = less_if (are_modifiers p.0) (text l) no_text

many_in_short : {A : Type 0} (n : Tails) (stop : Text → Bool) (one : Text → Option (List A × Text)) →
    ((x : Text) → n.holds x → Short n (one x)) → (k : ℕ) (x : Text) → n.holds x → Short n (many_in stop one k x)
many_in_short n stop one s zero x h = nothing
many_in_short n stop one s (suc k) x h =
    short_if (stop x) (left h) (short_bind n n (λ p. with_front p.0 (many_in stop one k p.1)) (one x) (s x h)
    (λ p l. front_short n p.0 (many_in stop one k p.1) (many_in_short n stop one s k p.1 l)))

many_short : {A : Type 0} (n : Tails) (stop : Text → Bool) (one : Text → Option (List A × Text)) →
    ((x : Text) → n.holds x → Short n (one x)) → (x : Text) → n.holds x → Short n (many stop one x)
unfolding many
many_short n stop one s x h = many_in_short n stop one s (suc (length x)) x h

drop_short : {A B : Type 0} (n : Tails) (f : A × Text → B × Text) (o : Option (A × Text)) → ((p : A × Text) → (f p).1 ≡ drop 1 p.1) →
    Short n o → Short n (option_map f o)
drop_short n f None e h = nothing
drop_short n f (Some p) e (left l) = left (subst n.holds (sym (e p)) (drop_less 1 n p.1 l))

start_short : (x : Text) (n : Tails) → n.holds x → Short n (name_start x)
unfolding name_start
start_short x n h =
    short_bind n n (if_part starts_name) (name_character x) (name_character_short x n (after_of n x h))
    (λ q k. short_if (starts_name q.0) (left k) nothing)

name_short : (x : Text) (n : Tails) → n.holds x → Short n (name x)
unfolding name name_parts
name_short x n h =
    drop_short n past_bracket _ (λ p. refl)
    (short_bind n n (λ p. with_front p.0 (many (is_at 62) name_part p.1)) (name_start x) (start_short x n h)
    (λ p l. front_short n p.0 (many (is_at 62) name_part p.1)
    (many_short n (is_at 62) name_part (λ y k. name_part_short y n (after_of n y k)) p.1 l)))

bracketed_short : (x : Text) (n : Tails) → n.holds x → Short n (bracketed x)
unfolding bracketed
bracketed_short x n h =
    short_if (is_at 61 x) (left (drop_less 1 n x h))
    (short_if (is_at 33 x) (left (drop_less 1 n x h)) (short_map n (λ p. opens (Mark.named p.0) p.1) (name x) (λ p. refl)
    (name_short x n h)))

marked_short : (x : Text) (n : Tails) → n.holds x → Short n (marked x)
unfolding marked
marked_short x n h =
    short_if (is_at 58 x) (left (drop_less 1 n x h))
    (short_if (is_at 61 x) (left (drop_less 1 n x h))
    (short_if (is_at 33 x) (left (drop_less 1 n x h))
    (short_if (is_at 60 x) (bracketed_short (drop 1 x) n (drop_less 1 n x h))
    (short_text n (opens Mark.modified) (flags x) (λ y. refl) (flags_short x n h)))))

opening_short : (x : Text) (n : Tails) → n.holds x → Short n (opening x)
unfolding opening
opening_short x n h = short_if (is_at 63 x) (marked_short (drop 1 x) n (drop_less 1 n x h)) (left h)

class_short : (wide : Bool) (x : Text) (n : Tails) → n.holds x → Short n (class_from wide x)
unfolding class_from class_items
class_short wide x n h =
    let items : (y : Text) → n.holds y → Short n (many (is_at 93) (class_part wide) y) =
    λ y k. many_short n (is_at 93) (class_part wide) (λ z l. class_part_short wide z n (after_of n z l)) y k in
    short_if (is_at 94 x)
    (drop_short n (class_token true) _ (λ p. refl) (items (drop 1 x) (drop_less 1 n x h)))
    (drop_short n (class_token false) _ (λ p. refl) (items x h))

back_name_short : (x : Text) (n : Tails) → n.holds x → Short n (back_name x)
unfolding back_name
back_name_short x n h =
    short_if (is_at 60 x) (short_map n leaf_of_name (name (drop 1 x)) (λ p. refl) (name_short (drop 1 x) n (drop_less 1 n x h))) nothing

code_short : (c : ℕ) (x : Text) (n : Tails) (o : Option Escape) → n.holds x → Short n (escape_or_code c x o)
code_short c x n (Some e) h = left h
code_short c x n None h = short_map n leaf_of_code (character_escape c x) (λ p. refl) (character_short c x n h)

escaped_short : (x : Text) (n : Tails) → n.holds x → Short n (escaped x)
unfolding escaped digits
escaped_short [] n h = nothing
escaped_short (c ∷ x) n h =
    let l : n.holds x = n.next c x h in
    short_if (c == 98) (left l)
    (short_if (c == 66) (left l)
    (short_if (c == 112) (short_text n _ (past_property x) (λ y. refl) (property_less x n l))
    (short_if (c == 80) (short_text n _ (past_property x) (λ y. refl) (property_less x n l))
    (short_if (c == 107) (back_name_short x n l)
    (short_if (nat_le 49 c && nat_le c 57) (left (digits_short 0 (c ∷ x) n h)) (code_short c x n (class_escape c) l))))))

pub token_short : (wide : Bool) (c : ℕ) (x : Text) (n : Tails) → n.holds x → Short n (token_from wide c x)
unfolding token_from
token_short wide c x n h =
    short_if (c == 124) (left h)
    (short_if (c == 40) (opening_short x n h)
    (short_if (c == 41) (left h)
    (short_if (c == 42) (left (quantifier_short (Count.number 0) None x n h))
    (short_if (c == 43) (left (quantifier_short (Count.number 1) None x n h))
    (short_if (c == 63) (left (quantifier_short (Count.number 0) (Some (Count.number 1)) x n h))
    (short_if (c == 123) (braces_short x n h)
    (short_if (c == 46) (left h)
    (short_if (c == 94) (left h)
    (short_if (c == 36) (left h)
    (short_if (c == 91) (class_short wide x n h)
    (short_if (c == 92) (escaped_short x n h)
    (short_if (c == 93 || c == 125) (short_if wide (left h) nothing) (left h)))))))))))))

-- being shorter than a number
abbrev pub shorter : ℕ → Tails
shorter k = record { holds = λ x. length x < k; next = λ c x h. omega arith }

-- being a tail of a text
abbrev pub tails_of : Text → Tails
tails_of x = record {
  holds = λ y. (front : Text) × (x ≡ front ++ y);
  next =
      λ c y h. (h.0 ++ (c ∷ []), h.1 ∙ sym (append_assoc h.0 (c ∷ []) y));
}

-- what follows a token is a tail of what follows its first character
pub token_tail : (wide : Bool) (c : ℕ) (x rest : Text) (t : Token) → token_from wide c x ≡ Some (t, rest) →
    (front : Text) × (x ≡ front ++ rest)
token_tail wide c x rest t e = short_holds (tails_of x) (token_from wide c x) (t, rest) (token_short wide c x (tails_of x) ([], refl)) e

-- each token takes a character at least
pub reads_few : (wide : Bool) (x : Text) (ts : List Token) → Reads wide x ts → length ts ≤ length x
reads_few wide x [] e = omega arith
reads_few wide x (t ∷ ts) (c, after, rest, e, f, r) =
    let n : Tails = shorter (suc (length after)) in
    let l : length rest < suc (length after) = short_holds n (token_from wide c after) (t, rest) (token_short wide c after n (omega arith))
    f in
    let i : length ts ≤ length rest = reads_few wide rest ts r in
    let k : length x ≡ suc (length after) = ap length e in
    omega arith
