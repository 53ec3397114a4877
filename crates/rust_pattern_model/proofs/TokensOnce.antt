-- A text begins with one token by Rust's grammar, but for the writing of classes.
use Rattle.std.proofs.Common.{◌≡◌, ℕ, zero, suc, Bool, true, false, List, [], ◌∷◌, ◌++◌, drop, Option, Some, None, option_map, refl, ap, sym, ◌∙◌, subst, not, ◌<◌, arith}
use Rattle.std.specs.Prelude.{if◌then◌else◌, ◌||◌, ◌&&◌, ◌==◌, nat_le, codes, slice_index}
use Rattle.std.specs.List.{list_all}
use Rattle.std.specs.Str.{chars}
use Rattle.std.proofs.lemmas.Str.{chars-IsAscii}
use Rattle.std.proofs.lemmas.Bool.{eqb-true}
use Rattle.std.proofs.lemmas.Bool.Decides.{nat_tests}
use Rattle.pattern_model.specs.Text.{Text, is_at}
use Rattle.pattern_model.specs.Members.{is_no_property, class_has}
use Rattle.pattern_model.specs.Digits.{is_digit}
use Rattle.pattern_model.specs.Properties.{is_word}
use Rattle.pattern_model.specs.Tree.{Escape, Item, Name, Leaf, Mark, Bounds, Token}
use Rattle.pattern_model.specs.Escapes.{character_escape, class_escape}
use Rattle.pattern_model.specs.Properties.{past_property}
use Rattle.pattern_model.specs.GroupNames.{name}
use Rattle.pattern_model.specs.Groups.{flags, bracketed, marked, opening}
use Rattle.pattern_model.specs.Classes.{class_items}
use Rattle.pattern_model.specs.Tokens.{class_token, class_from, leaf_of_name, back_name, leaf_of_code, escape_or_code, escaped, token_from}
use Rattle.pattern_model.proofs.BoolLaws.{and_left, and_right}
use Rattle.rust_pattern_model.specs.Refusals.{is_plain_name}
use Rattle.rust_pattern_model.specs.RustClasses.{escape, rust_class_has, ReadsClass}
use Rattle.rust_pattern_model.specs.RustPatterns.{is_syntax, character, ReadsSet, ReadsTimes, ReadsToken, ReadsTokens}
use Rattle.rust_pattern_model.proofs.Alone.{found, true_false, none_some, pair_same}
use Rattle.rust_pattern_model.proofs.TokenReads.{no_syntax}
use Rattle.rust_pattern_model.proofs.OneReading.{class_once}

-- the same token, or two classes with the same members and no property escapes
pub data AlikeToken : Token → Token → Type 0 where
  same : {t : Token} → AlikeToken t t
  sets : {n m : Bool} {xs ys : List Item} → list_all is_no_property xs ≡ true → list_all is_no_property ys ≡ true →
      ((c : ℕ) → class_has n xs c ≡ class_has m ys c) → AlikeToken (Token.leaf (Leaf.class n xs)) (Token.leaf (Leaf.class m ys))

abbrev is_times : Token → Bool
is_times (Token.times b) = true
is_times _ = false

abbrev NoTimes : Option (Token × Text) → Type 0
NoTimes None = Unit {0}
NoTimes (Some p) = is_times p.0 ≡ false

not_if : (b : Bool) (p q : Option (Token × Text)) → NoTimes p → NoTimes q → NoTimes (if b then p else q)
not_if true p q h g = h
not_if false p q h g = g

not_map : {A : Type 0} (f : A → Token × Text) (o : Option A) → ((a : A) → is_times (f a).0 ≡ false) → NoTimes (option_map f o)
not_map f None h = tt
not_map f (Some a) h = h a

skip : (b : Bool) (p q : Option (Token × Text)) → b ≡ false → NoTimes q → NoTimes (if b then p else q)
skip true p q e h = absurd (true_false e)
skip false p q e h = h

bracketed_no_times : (x : Text) → NoTimes (bracketed x)
unfolding bracketed
bracketed_no_times x = not_if (is_at 61 x) _ _ refl (not_if (is_at 33 x) _ _ refl (not_map _ (name x) (λ p. refl)))

marked_no_times : (x : Text) → NoTimes (marked x)
unfolding marked
marked_no_times x =
    not_if (is_at 58 x) _ _ refl
    (not_if (is_at 61 x) _ _ refl
    (not_if (is_at 33 x) _ _ refl
    (not_if (is_at 60 x) _ _ (bracketed_no_times (drop 1 x)) (not_map _ (flags x) (λ p. refl)))))

opening_no_times : (x : Text) → NoTimes (opening x)
unfolding opening
opening_no_times x = not_if (is_at 63 x) _ _ (marked_no_times (drop 1 x)) refl

back_name_no_times : (x : Text) → NoTimes (back_name x)
unfolding back_name
back_name_no_times x = not_if (is_at 60 x) _ _ (not_map leaf_of_name (name (drop 1 x)) (λ p. refl)) tt

code_no_times : (c : ℕ) (x : Text) (o : Option Escape) → NoTimes (escape_or_code c x o)
code_no_times c x (Some e) = refl
code_no_times c x None = not_map leaf_of_code (character_escape c x) (λ p. refl)

escaped_no_times : (x : Text) → NoTimes (escaped x)
unfolding escaped
escaped_no_times [] = tt
escaped_no_times (c ∷ x) =
    not_if (c == 98) _ _ refl
    (not_if (c == 66) _ _ refl
    (not_if (c == 112) _ _ (not_map _ (past_property x) (λ p. refl))
    (not_if (c == 80) _ _ (not_map _ (past_property x) (λ p. refl))
    (not_if (c == 107) _ _ (back_name_no_times x)
    (not_if (nat_le 49 c && nat_le c 57) _ _ refl (code_no_times c x (class_escape c)))))))

class_no_times : (x : Text) → NoTimes (class_from true x)
unfolding class_from
class_no_times x =
    not_if (is_at 94 x) _ _ (not_map (class_token true) (class_items true (drop 1 x)) (λ p. refl))
    (not_map (class_token false) (class_items true x) (λ p. refl))

-- a quantifier begins with `*`, `+`, `?` or `{`
no_times : (c : ℕ) (x : Text) → c == 42 ≡ false → c == 43 ≡ false → c == 63 ≡ false → c == 123 ≡ false → NoTimes (token_from true c x)
unfolding token_from
no_times c x e f g h =
    not_if (c == 124) _ _ refl
    (not_if (c == 40) _ _ (opening_no_times x)
    (not_if (c == 41) _ _ refl
    (skip (c == 42) _ _ e
    (skip (c == 43) _ _ f
    (skip (c == 63) _ _ g
    (skip (c == 123) _ _ h
    (not_if (c == 46) _ _ refl
    (not_if (c == 94) _ _ refl
    (not_if (c == 36) _ _ refl
    (not_if (c == 91) _ _ (class_no_times x)
    (not_if (c == 92) _ _ (escaped_no_times x)
    (not_if (c == 93 || c == 125) _ _ refl refl))))))))))))

-- the kinds of tokens that are read, each with a number
pub data Seen : Token → ℕ → Type 0 where
  code : (c : ℕ) → Seen (Token.leaf (Leaf.code c)) 1
  start : Seen (Token.leaf Leaf.start) 2
  end : Seen (Token.leaf Leaf.end) 3
  class : (n : Bool) (items : List Item) → Seen (Token.leaf (Leaf.class n items)) 4
  capture : Seen (Token.opens Mark.capture) 5
  plain : Seen (Token.opens Mark.plain) 6
  named : (n : Name) → Seen (Token.opens (Mark.named n)) 7
  closes : Seen Token.closes 8
  bar : Seen Token.bar 9
  times : (b : Bounds) → Seen (Token.times b) 10

-- the number of the token that a text begins with
abbrev pub group_at : Text → ℕ
group_at x = if is_at 63 x then (if is_at 58 (drop 1 x) then 6 else 7) else 5

abbrev pub sort_at : Text → ℕ
sort_at [] = 0
sort_at (c ∷ x) =
    if c == 94 then 2
    else if c == 36 then 3
    else if c == 91 then 4
    else if c == 40 then group_at x
    else if c == 41 then 8
    else if c == 124 then 9
    else if c == 42 then 10
    else if c == 43 then 10
    else if c == 63 then 10
    else if c == 123 then 10
    else 1

past : (b : Bool) (p q : ℕ) → b ≡ false → (if b then p else q) ≡ q
past true p q e = absurd (true_false e)
past false p q e = refl

plain_sort : (d : ℕ) (x : Text) → is_syntax d ≡ false → sort_at (d ∷ x) ≡ 1
plain_sort d x e =
    past (d == 94) _ _ (no_syntax d 94 refl e) ∙ (past (d == 36) _ _ (no_syntax d 36 refl e) ∙ (past (d == 91) _ _ (no_syntax d 91 refl e)
    ∙ (past (d == 40) _ _ (no_syntax d 40 refl e) ∙ (past (d == 41) _ _ (no_syntax d 41 refl e) ∙ (past (d == 124) _ _ (no_syntax d 124 refl e)
    ∙ (past (d == 42) _ _ (no_syntax d 42 refl e) ∙ (past (d == 43) _ _ (no_syntax d 43 refl e) ∙ (past (d == 63) _ _ (no_syntax d 63 refl e)
    ∙ past (d == 123) _ _ (no_syntax d 123 refl e)))))))))

code_sort : (c : ℕ) (y r : Text) → character y ≡ Some (c, r) → sort_at y ≡ 1
code_sort c [] r e = absurd (none_some e)
code_sort c (d ∷ x) r e = go (d == 92) refl e
  where
    plain : (b : Bool) → is_syntax d ≡ b → (if b then None else found d x) ≡ found c r → sort_at (d ∷ x) ≡ 1
    plain true f g = absurd (none_some g)
    plain false f g = plain_sort d x f

    go : (b : Bool) → d == 92 ≡ b → (if b then escape x else if is_syntax d then None else found d x) ≡ found c r → sort_at (d ∷ x) ≡ 1
    go true f g = ap (λ z. sort_at (z ∷ x)) (eqb-true d 92 f)
    go false f g = plain (is_syntax d) refl g

times_sort : (c : ℕ) (x : Text) (t : Token) (r : Text) → is_times t ≡ true → token_from true c x ≡ Some (t, r) → sort_at (c ∷ x) ≡ 10
times_sort c x t r k e =
    go 42 refl (c == 42) refl (λ a. go 43 refl (c == 43) refl (λ b. go 63 refl (c == 63) refl (λ d. go 123 refl (c == 123) refl (λ f.
    absurd (true_false (sym k ∙ subst NoTimes e (no_times c x a b d f)))))))
  where
    go : (n : ℕ) → sort_at (n ∷ x) ≡ 10 → (b : Bool) → c == n ≡ b → (c == n ≡ false → sort_at (c ∷ x) ≡ 10) → sort_at (c ∷ x) ≡ 10
    go n g false f h = h f
    go n g true f h = ap (λ z. sort_at (z ∷ x)) (eqb-true c n f) ∙ g

name_sort : (y : Text) (n : Text) (r : Text) → y ≡ codes "(?<" ++ (n ++ r) → sort_at y ≡ 7
name_sort y n r e = ap sort_at e

capture_sort : (y r : Text) → y ≡ codes "(" ++ r → is_at 63 r ≡ false → sort_at y ≡ 5
capture_sort y r e f = ap sort_at e ∙ past (is_at 63 r) _ _ f

class_sort : (y : Text) (n : Bool) (items : List Item) (r : Text) → ReadsSet y n items r → sort_at y ≡ 4
class_sort y n items r h = go h.caret h.class
  where
    go : (b : Bool) → ReadsClass y b h.inner r → sort_at y ≡ 4
    go true k = ap sort_at k.1
    go false k = ap sort_at k.1.0

-- a token that is read from y is of the kind that y begins with
pub record Sorted (y : Text) (t : Token) : Type 0 where
  pub kind : ℕ
  pub seen : Seen t kind
  pub at : sort_at y ≡ kind

pub sorted : (y : Text) (t : Token) (r : Text) → ReadsToken y t r → Sorted y t
sorted y (Token.leaf (Leaf.code c)) r h = record { kind = 1; seen = Seen.code c; at = code_sort c y r h }
sorted y (Token.leaf Leaf.start) r h = record { kind = 2; seen = Seen.start; at = ap sort_at h }
sorted y (Token.leaf Leaf.end) r h = record { kind = 3; seen = Seen.end; at = ap sort_at h }
sorted y (Token.leaf (Leaf.class n items)) r h = record { kind = 4; seen = Seen.class n items; at = class_sort y n items r h }
sorted y (Token.leaf Leaf.dot) r h = absurd h
sorted y (Token.leaf Leaf.boundary) r h = absurd h
sorted y (Token.leaf Leaf.not_boundary) r h = absurd h
sorted y (Token.leaf (Leaf.escape e)) r h = absurd h
sorted y (Token.leaf (Leaf.property b)) r h = absurd h
sorted y (Token.leaf (Leaf.back_number n)) r h = absurd h
sorted y (Token.leaf (Leaf.back_name n)) r h = absurd h
sorted y (Token.opens Mark.capture) r h = record { kind = 5; seen = Seen.capture; at = capture_sort y r h.0 h.1 }
sorted y (Token.opens Mark.plain) r h = record { kind = 6; seen = Seen.plain; at = ap sort_at h }
sorted y (Token.opens (Mark.named n)) r h = record { kind = 7; seen = Seen.named n; at = name_sort y (chars n) (codes ">" ++ r) h.0 }
sorted y (Token.opens Mark.modified) r h = absurd h
sorted y (Token.opens Mark.ahead) r h = absurd h
sorted y (Token.opens Mark.not_ahead) r h = absurd h
sorted y (Token.opens Mark.behind) r h = absurd h
sorted y (Token.opens Mark.not_behind) r h = absurd h
sorted y Token.closes r h = record { kind = 8; seen = Seen.closes; at = ap sort_at h }
sorted y Token.bar r h = record { kind = 9; seen = Seen.bar; at = ap sort_at h }
sorted y (Token.times b) r h = record {
  kind = 10;
  seen = Seen.times b;
  at = ap sort_at h.0.begins ∙ times_sort h.0.first h.0.after (Token.times b) r refl h.0.read;
}

-- names up to their closing bracket
word_at_close : (b : ℕ) → 62 ≡ b → is_word b ≡ true → ⊥
word_at_close b e f = true_false (sym f ∙ sym (ap is_word e))

names_once : (n m r s : Text) → list_all is_word n ≡ true → list_all is_word m ≡ true → n ++ (62 ∷ r) ≡ m ++ (62 ∷ s) → (n ≡ m) × (r ≡ s)
names_once [] [] r s e f h = (refl, ap (drop 1) h)
names_once [] (b ∷ m) r s e f h = absurd (word_at_close b (cc) (and_left (is_word b) (list_all is_word m) f))
names_once (a ∷ n) [] r s e f h = absurd (word_at_close a (cc) (and_left (is_word a) (list_all is_word n) e))
names_once (a ∷ n) (b ∷ m) r s e f h =
    let i : a ≡ b = cc in
    let j : n ++ (62 ∷ r) ≡ m ++ (62 ∷ s) = cc in
    let (k, l) = names_once n m r s (and_right (is_word a) (list_all is_word n) e) (and_right (is_word b) (list_all is_word m) f) j in
    (ap (λ z. z ∷ n) i ∙ ap (λ z. b ∷ z) k, l)

all_words : (n : Name) → is_plain_name n ≡ true → list_all is_word n ≡ true
all_words [] e = refl
all_words (c ∷ n) e = and_right (not (is_digit c)) (list_all is_word (c ∷ n)) e

word_small : (c : ℕ) → is_word c ≡ true → c < 128
word_small c e = grind (arith, nat_tests)

-- an ASCII name is the characters that it spells
plain_chars : (n : Name) → is_plain_name n ≡ true → chars n ≡ n
plain_chars n e = chars-IsAscii n (small n (all_words n e))
  where
    small : (n : Name) → list_all is_word n ≡ true → (i : ℕ) → slice_index n i < 128
    small [] e i = omega arith
    small (c ∷ n) e zero = word_small c (and_left (is_word c) (list_all is_word n) e)
    small (c ∷ n) e (suc i) = small n (and_right (is_word c) (list_all is_word n) e) i

class_alike : (y : Text) (n m : Bool) (xs ys : List Item) (r s : Text) → ReadsSet y n xs r → ReadsSet y m ys s →
    AlikeToken (Token.leaf (Leaf.class n xs)) (Token.leaf (Leaf.class m ys)) × (r ≡ s)
class_alike y n m xs ys r s h k =
    let (e, f, g) = class_once y h.caret k.caret h.inner k.inner r s h.class k.class in (
      AlikeToken.sets h.plain k.plain
          (λ c. sym (h.same c) ∙ (ap (λ z. rust_class_has z h.inner c) e ∙ (ap (λ z. rust_class_has k.caret z c) f ∙ k.same c))),
      g,
    )

same_token : (t u : Token) → t ≡ u → AlikeToken t u
same_token t u e = subst (AlikeToken t) e AlikeToken.same

times_alike : (y : Text) (t u : Token) (r s : Text) → ReadsTimes y t r → ReadsTimes y u s → AlikeToken t u × (r ≡ s)
times_alike y t u r s h k =
    let e : h.first ∷ h.after ≡ k.first ∷ k.after = sym h.begins ∙ k.begins in
    let f : h.first ≡ k.first = cc in
    let g : h.after ≡ k.after = cc in
    let (i, j) = pair_same t u r s (sym h.read ∙ (ap (λ z. token_from true z h.after) f ∙ (ap (token_from true k.first) g ∙ k.read))) in
    (same_token t u i, j)

named_alike : (y : Text) (n m : Name) (r s : Text) → y ≡ codes "(?<" ++ (chars n ++ (codes ">" ++ r)) → is_plain_name n ≡ true →
    y ≡ codes "(?<" ++ (chars m ++ (codes ">" ++ s)) → is_plain_name m ≡ true →
    AlikeToken (Token.opens (Mark.named n)) (Token.opens (Mark.named m)) × (r ≡ s)
named_alike y n m r s e f g h =
    let i : chars n ++ (62 ∷ r) ≡ chars m ++ (62 ∷ s) = ap (drop 3) (sym e ∙ g) in
    let j : n ++ (62 ∷ r) ≡ m ++ (62 ∷ s) =
    sym (ap (λ z. z ++ (62 ∷ r)) (plain_chars n f)) ∙ (i ∙ ap (λ z. z ++ (62 ∷ s)) (plain_chars m h)) in
    let (k, l) = names_once n m r s (all_words n f) (all_words m h) j in
    (same_token _ _ (ap (λ z. Token.opens (Mark.named z)) k), l)

-- tokens of one kind that begin one text are alike, and what follows them is the same
token_once : (y : Text) (t u : Token) (r s : Text) (n m : ℕ) → Seen t n → Seen u m → n == m ≡ true → ReadsToken y t r → ReadsToken y u s →
    AlikeToken t u × (r ≡ s)
token_once y t u r s n m (Seen.code a) (Seen.code b) e h k =
    let (i, j) = pair_same a b r s (sym h ∙ k) in (same_token _ _ (ap (λ z. Token.leaf (Leaf.code z)) i), j)
token_once y t u r s n m Seen.start Seen.start e h k = (AlikeToken.same, ap (drop 1) (sym h ∙ k))
token_once y t u r s n m Seen.end Seen.end e h k = (AlikeToken.same, ap (drop 1) (sym h ∙ k))
token_once y t u r s n m (Seen.class a xs) (Seen.class b ys) e h k = class_alike y a b xs ys r s h k
token_once y t u r s n m Seen.capture Seen.capture e h k = (AlikeToken.same, ap (drop 1) (sym h.0 ∙ k.0))
token_once y t u r s n m Seen.plain Seen.plain e h k = (AlikeToken.same, ap (drop 3) (sym h ∙ k))
token_once y t u r s n m (Seen.named a) (Seen.named b) e h k = named_alike y a b r s h.0 h.1 k.0 k.1
token_once y t u r s n m Seen.closes Seen.closes e h k = (AlikeToken.same, ap (drop 1) (sym h ∙ k))
token_once y t u r s n m Seen.bar Seen.bar e h k = (AlikeToken.same, ap (drop 1) (sym h ∙ k))
token_once y t u r s n m (Seen.times b) (Seen.times d) e h k = times_alike y (Token.times b) (Token.times d) r s h.0 k.0
token_once y t u r s n m a b e h k = absurd (true_false (sym e))

pub same_number : (a b : ℕ) → a ≡ b → a == b ≡ true
same_number a b e = grind (arith, nat_tests)

abbrev pub AlikeTokens : List Token → List Token → Type 0
AlikeTokens [] [] = Unit {0}
AlikeTokens (t ∷ ts) (u ∷ us) = AlikeToken t u × AlikeTokens ts us
AlikeTokens _ _ = ⊥

no_zero : (t : Token) (n : ℕ) → Seen t n → 0 == n ≡ true → ⊥
no_zero t n (Seen.code c) e = true_false (sym e)
no_zero t n a e = true_false (sym e)

no_token : (t : Token) (r : Text) → ReadsToken [] t r → ⊥
no_token t r h = let s = sorted [] t r h in no_zero t s.kind s.seen (same_number 0 s.kind s.at)

-- a text is tokens that are alike
pub tokens_once : (y : Text) (ts us : List Token) → ReadsTokens y ts → ReadsTokens y us → AlikeTokens ts us
tokens_once y [] [] e f = tt
tokens_once y [] (u ∷ us) e (r, h, k) = absurd (no_token u r (subst (λ z. ReadsToken z u r) e h))
tokens_once y (t ∷ ts) [] (r, h, k) e = absurd (no_token t r (subst (λ z. ReadsToken z t r) e h))
tokens_once y (t ∷ ts) (u ∷ us) (r, h, k) (s, i, j) =
    let p = sorted y t r h in
    let q = sorted y u s i in
    let (a, b) = token_once y t u r s p.kind q.kind p.seen q.seen (same_number p.kind q.kind (sym p.at ∙ q.at)) h i in
    (a, tokens_once s ts us (subst (λ z. ReadsTokens z ts) b k) j)
