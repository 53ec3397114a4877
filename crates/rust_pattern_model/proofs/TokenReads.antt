-- What is written for one token that is not refused is that token by Rust's grammar, before whatever is written next.
use Rattle.std.proofs.Common.{◌≡◌, ℕ, Bool, true, false, not, ◌&&◌, List, [], ◌∷◌, ◌++◌, drop, Option, Some, None, option_map, refl, ap, sym, ◌∙◌, subst, arith, append_assoc}
use Rattle.std.specs.Prelude.{if◌then◌else◌, ◌||◌, ◌==◌, nat_le, nat_lt, codes}
use Rattle.std.specs.Str.{chars}
use Rattle.std.specs.List.{list_all}
use Rattle.std.proofs.lemmas.Bool.Decides.{nat_tests}
use Rattle.std.proofs.lemmas.List.{append_cancel_right}
use Rattle.pattern_model.specs.Text.{Text, is_at}
use Rattle.pattern_model.specs.Digits.{digits}
use Rattle.pattern_model.specs.Escapes.{character_escape, class_escape}
use Rattle.pattern_model.specs.Properties.{past_property}
use Rattle.pattern_model.specs.GroupNames.{name}
use Rattle.pattern_model.specs.Classes.{class_items}
use Rattle.pattern_model.specs.Members.{is_no_property}
use Rattle.pattern_model.specs.Quantifiers.{quantifier, braces}
use Rattle.pattern_model.specs.Groups.{opens, flags, bracketed, marked, opening}
use Rattle.pattern_model.specs.Tree.{Escape, Item, Name, Leaf, Mark, Count, Token, is_look}
use Rattle.pattern_model.specs.Tokens.{class_token, class_from, leaf_of_name, back_name, leaf_of_number, leaf_of_code, property_leaf, escape_or_code, escaped, token_from}
use Rattle.pattern_model.proofs.BoolLaws.{and_true, code_is}
use Rattle.rust_pattern_model.specs.Refusals.{refers_back, is_empty_class, is_plain_name, has_other_name, has_wide_count, is_other_escape, has_other_escape, modifies, is_copied_untold}
use Rattle.rust_pattern_model.specs.Written.{control_of, escape_written, code_written}
use Rattle.rust_pattern_model.specs.Translation.{WritesClass, token_written, WritesToken}
use Rattle.rust_pattern_model.specs.RustClasses.{escape}
use Rattle.rust_pattern_model.specs.RustPatterns.{is_syntax, character, ReadsToken}
use Rattle.rust_pattern_model.proofs.Shown.{is_quiet, Shown}
use Rattle.rust_pattern_model.proofs.Alone.{is_calm, true_false, none_some, some_same}
use Rattle.rust_pattern_model.proofs.EscapeReads.{escape_shown}
use Rattle.rust_pattern_model.proofs.EscapeScan.{or_right, past_other, past_all_calm, escape_passed, name_passed}
use Rattle.rust_pattern_model.proofs.TreeMaps.{map_token, token_part}
use Rattle.rust_pattern_model.proofs.SameSet.{reads_set}
use Rattle.rust_pattern_model.proofs.ClassReads.{class_read}
use Rattle.rust_pattern_model.proofs.EscapeSets.{is_capital, small, escape_set}
use Rattle.rust_pattern_model.proofs.QuantifierReads.{at_first, TimesRead, times_read, braces_read}

-- by Rust's grammar a class escape is a class of one item
abbrev pub rust_leaf : Leaf → Leaf
rust_leaf (Leaf.escape e) = Leaf.class (is_capital e) (small e ∷ [])
rust_leaf l = l

-- the token is no cause of refusal, and Rust's grammar tells of it
pub record Kept (t : Token) : Type 0 where
  pub no_look : token_part (λ l. false) is_look (λ b. false) t ≡ false
  pub no_reference : token_part refers_back (λ m. false) (λ b. false) t ≡ false
  pub no_other : token_part is_empty_class has_other_name has_wide_count t ≡ false
  pub told : token_part is_copied_untold modifies (λ b. false) t ≡ false

-- a question mark begins the text only where it begins the other
abbrev pub NoMark : Text → Text → Type 0
NoMark y more = is_at 63 y ≡ false → is_at 63 more ≡ false

-- Of the token, which begins with c and ends before y, w is written. It is read again, and escapes are looked for behind it.
pub record Passes (c : ℕ) (t : Token) (y w : Text) : Type 0 where
  pub reads : (more : Text) → NoMark y more → ReadsToken (w ++ more) (map_token rust_leaf t) more
  pub front : c == 63 ≡ false → (more : Text) → is_at 63 (w ++ more) ≡ false
  pub passed : has_other_escape false y ≡ false

-- of what is read at c and x, if something is, something is written that passes
abbrev Copied : ℕ → Text → Option (Token × Text) → Type 0
Copied c x None = Unit {0}
Copied c x (Some p) =
    (own : Text) → c ∷ x ≡ own ++ p.1 → has_other_escape false (c ∷ x) ≡ false → Kept p.0 → Passes c p.0 p.1 (token_written p.0 (c ∷ x) own)

copied_if : (c : ℕ) (x : Text) (b : Bool) (p q : Option (Token × Text)) → (b ≡ true → Copied c x p) → (b ≡ false → Copied c x q) →
    Copied c x (if b then p else q)
copied_if c x true p q h g = h refl
copied_if c x false p q h g = g refl

copied_map : {A : Type 0} (c : ℕ) (x : Text) (f : A → Token × Text) (o : Option A) → ((a : A) → o ≡ Some a → Copied c x (Some (f a))) →
    Copied c x (option_map f o)
copied_map c x f None h = tt
copied_map c x f (Some a) h = h a refl

copied_at : (c d : ℕ) (x : Text) (o : Option (Token × Text)) → Copied d x o → c == d ≡ true → Copied c x o
copied_at c d x o h e = subst (λ z. Copied z x o) (sym (code_is c d e)) h

-- a token that is refused, or of which Rust's grammar does not tell
refused : (c : ℕ) (x : Text) (p : Token × Text) → (Kept p.0 → ⊥) → Copied c x (Some p)
refused c x p h own e n k = absurd (h k)

-- a token whose own text is copied
own_text : (c : ℕ) (x y front : Text) (t : Token) → x ≡ front ++ y → ((own : Text) → token_written t (c ∷ x) own ≡ own) →
    (has_other_escape false (c ∷ x) ≡ false → has_other_escape false y ≡ false) →
    (Kept t → (more : Text) → NoMark y more → ReadsToken (c ∷ (front ++ more)) (map_token rust_leaf t) more) → Copied c x (Some (t, y))
own_text c x y front t e f g r own h n k =
    let is : c ∷ front ≡ token_written t (c ∷ x) own =
    sym (f own ∙ append_cancel_right own (c ∷ front) y (sym h ∙ ap (λ z. c ∷ z) e)) in
    subst (Passes c t y) is (record { reads = r k; front = λ i more. i; passed = g n })

-- calm text is copied
calm_text : (c : ℕ) (x y front : Text) (t : Token) → x ≡ front ++ y → ((own : Text) → token_written t (c ∷ x) own ≡ own) →
    list_all is_calm (c ∷ front) ≡ true →
    (Kept t → (more : Text) → NoMark y more → ReadsToken (c ∷ (front ++ more)) (map_token rust_leaf t) more) → Copied c x (Some (t, y))
calm_text c x y front t e f g r =
    own_text c x y front t e f (λ n. sym (past_all_calm false (c ∷ front) y g) ∙ (ap (λ z. has_other_escape false (c ∷ z)) (sym e) ∙ n)) r

-- a quantifier
times_copied : (c : ℕ) (x : Text) (p : Token × Text) → is_calm c ≡ true → TimesRead c x p → Copied c x (Some p)
times_copied c x p e r =
    subst (λ t. Copied c x (Some (t, p.1))) (sym r.is)
    (calm_text c x p.1 r.own (Token.times r.bounds) r.stands (λ own. refl) (and_true (is_calm c) (list_all is_calm r.own) e r.calm)
    (λ k more q. (
      record {
        first = c;
        after = r.own ++ more;
        begins = refl;
        read = r.again more q ∙ ap (λ t. Some (t, more)) r.is;
      },
      k.no_other,
    )))

-- groups
named_copied : (x y : Text) (n : Name) → name x ≡ Some (n, y) → Copied 40 (63 ∷ (60 ∷ x)) (Some (opens (Mark.named n) y))
named_copied x y n e own f g k = record {
  reads = λ more q. (
    append_assoc (codes "(?<") (chars n ++ codes ">") more ∙ ap (λ z. codes "(?<" ++ z) (append_assoc (chars n) (codes ">") more),
    is_true (is_plain_name n) k.no_other,
  );
  front = λ i more. refl;
  passed = name_passed x y n e (sym (past_all_calm false (codes "(?<") x refl) ∙ g);
}
  where
    is_true : (b : Bool) → not b ≡ false → b ≡ true
    is_true true h = refl
    is_true false h = cc

bracketed_copied : (x : Text) → Copied 40 (63 ∷ (60 ∷ x)) (bracketed x)
unfolding bracketed
bracketed_copied x =
    copied_if 40 (63 ∷ (60 ∷ x)) (is_at 61 x) _ _ (λ e. refused 40 (63 ∷ (60 ∷ x)) (opens Mark.behind (drop 1 x)) (λ k. true_false k.no_look)) (λ e1.
    copied_if 40 (63 ∷ (60 ∷ x)) (is_at 33 x) _ _ (λ e. refused 40 (63 ∷ (60 ∷ x)) (opens Mark.not_behind (drop 1 x)) (λ k. true_false k.no_look))
    (λ e2.
    copied_map 40 (63 ∷ (60 ∷ x)) (λ p. opens (Mark.named p.0) p.1) (name x) (λ p e. named_copied x p.1 p.0 e)))

marked_copied : (x : Text) → Copied 40 (63 ∷ x) (marked x)
unfolding marked
marked_copied x =
    copied_if 40 (63 ∷ x) (is_at 58 x) _ _ (λ e. calm_text 40 (63 ∷ x) (drop 1 x) (63 ∷ (58 ∷ [])) (Token.opens Mark.plain)
    (ap (λ z. 63 ∷ z) (at_first 58 x e)) (λ own. refl) refl (λ k more q. refl)) (λ e1.
    copied_if 40 (63 ∷ x) (is_at 61 x) _ _ (λ e. refused 40 (63 ∷ x) (opens Mark.ahead (drop 1 x)) (λ k. true_false k.no_look)) (λ e2.
    copied_if 40 (63 ∷ x) (is_at 33 x) _ _ (λ e. refused 40 (63 ∷ x) (opens Mark.not_ahead (drop 1 x)) (λ k. true_false k.no_look)) (λ e3.
    copied_if 40 (63 ∷ x) (is_at 60 x) _ _
    (λ e. subst (λ z. Copied 40 (63 ∷ z) (bracketed (drop 1 x))) (sym (at_first 60 x e)) (bracketed_copied (drop 1 x))) (λ e4.
    copied_map 40 (63 ∷ x) (opens Mark.modified) (flags x) (λ y e. refused 40 (63 ∷ x) (opens Mark.modified y) (λ k. true_false k.told))))))

opening_copied : (x : Text) → Copied 40 x (opening x)
unfolding opening
opening_copied x =
    copied_if 40 x (is_at 63 x) _ _ (λ e. subst (λ z. Copied 40 z (marked (drop 1 x))) (sym (at_first 63 x e)) (marked_copied (drop 1 x)))
    (λ e. calm_text 40 x x [] (Token.opens Mark.capture) refl (λ own. refl) refl (λ k more q. (refl, q e)))

-- characters
low_no_syntax : (c : ℕ) → nat_lt c 32 ≡ true → is_syntax c ≡ false
low_no_syntax c h = grind (arith, nat_tests)

quiet_no_syntax : (c : ℕ) → is_quiet c ≡ true → is_syntax c ≡ false
quiet_no_syntax c e = go (nat_lt c 32) (c == 60) refl refl e
  where
    go : (a b : Bool) → nat_lt c 32 ≡ a → c == 60 ≡ b → a || (b || c == 62) ≡ true → is_syntax c ≡ false
    go true b f g h = low_no_syntax c f
    go false true f g h = ap is_syntax (code_is c 60 g)
    go false false f g h = ap is_syntax (code_is c 62 h)

-- a character that has no part in syntax is another than one that has; it stands for itself
pub no_syntax : (c d : ℕ) → is_syntax d ≡ true → is_syntax c ≡ false → c == d ≡ false
no_syntax c d e f = go (c == d) refl
  where
    go : (b : Bool) → c == d ≡ b → b ≡ false
    go true g = absurd (true_false (sym e ∙ (sym (ap is_syntax (code_is c d g)) ∙ f)))
    go false g = refl

plain_read : (c : ℕ) (more : Text) → is_syntax c ≡ false → character (c ∷ more) ≡ Some (c, more)
plain_read c more e =
    ap (λ b. if b then escape more else if is_syntax c then None else Some (c, more)) (no_syntax c 92 refl e)
    ∙ ap (λ b. if b then None else Some (c, more)) e

shown_read : (c : ℕ) (w : Text) → Shown c w → (more : Text) → character (w ++ more) ≡ Some (c, more)
shown_read c w (Shown.behind v e f) more = ap (λ z. character (z ++ more)) e ∙ f more
shown_read c w (Shown.itself e f) more = ap (λ z. character (z ++ more)) e ∙ plain_read c more (quiet_no_syntax c f)

shown_front : (c : ℕ) (w : Text) → Shown c w → (more : Text) → is_at 63 (w ++ more) ≡ false
shown_front c w (Shown.behind v e f) more = ap (λ z. is_at 63 (z ++ more)) e
shown_front c w (Shown.itself e f) more =
    ap (λ z. is_at 63 (z ++ more)) e ∙ no_syntax c 63 refl (quiet_no_syntax c f)

-- a plain character
plain_copied : (c : ℕ) (x : Text) → is_syntax c ≡ false → Copied c x (Some (Token.leaf (Leaf.code c), x))
plain_copied c x e =
    own_text c x x [] (Token.leaf (Leaf.code c)) refl (λ own. ap (λ b. written b own) (no_syntax c 92 refl e))
    (λ n. ap (λ b. has_other_escape b x) (sym (no_syntax c 91 refl e)) ∙ (past_other false c x (c ∷ x) refl (no_syntax c 92 refl e) ∙ n))
    (λ k more q. plain_read c more e)
  where
    written : Bool → Text → Text
    written b own =
        if b && is_at 99 x then control_of (drop 1 x)
        else if b && is_at 48 x then codes "\\x00"
        else if b && is_at 60 x then codes "<"
        else if b && is_at 62 x then codes ">"
        else own

-- escapes
escape_front : (e : Escape) (more : Text) → is_at 63 (escape_written e ++ more) ≡ false
escape_front Escape.digit more = refl
escape_front Escape.not_digit more = refl
escape_front Escape.space more = refl
escape_front Escape.not_space more = refl
escape_front Escape.word more = refl
escape_front Escape.not_word more = refl

set_or_code : (d : ℕ) (x : Text) (o : Option Escape) → Copied 92 (d ∷ x) (escape_or_code d x o)
set_or_code d x (Some e) = λ own f n k. record {
  reads = λ more q. reads_set (escape_written e ++ more) (is_capital e) (small e ∷ []) more (escape_set e more);
  front = λ i more. escape_front e more;
  passed = or_right (is_other_escape false (d ∷ x)) (has_other_escape false x) n;
}
set_or_code d x None =
    copied_map 92 (d ∷ x) leaf_of_code (character_escape d x) (λ p e own f n k.
    let (known, passed) = escape_passed false d p.0 x p.1 e n in
    let shown = escape_shown false d p.0 x p.1 own e f known in
    record {
      reads = λ more q. shown_read p.0 (code_written (92 ∷ (d ∷ x)) own) shown more;
      front = λ i more. shown_front p.0 (code_written (92 ∷ (d ∷ x)) own) shown more;
      passed = passed;
    })

escaped_copied : (x : Text) → Copied 92 x (escaped x)
unfolding escaped back_name
escaped_copied [] = tt
escaped_copied (d ∷ x) =
    copied_if 92 (d ∷ x) (d == 98) _ _ (λ e. refused 92 (d ∷ x) (Token.leaf Leaf.boundary, x) (λ k. true_false k.told)) (λ e1.
    copied_if 92 (d ∷ x) (d == 66) _ _ (λ e. refused 92 (d ∷ x) (Token.leaf Leaf.not_boundary, x) (λ k. true_false k.told)) (λ e2.
    copied_if 92 (d ∷ x) (d == 112) _ _ (λ e. property false) (λ e3.
    copied_if 92 (d ∷ x) (d == 80) _ _ (λ e. property true) (λ e4.
    copied_if 92 (d ∷ x) (d == 107) _ _ (λ e. copied_if 92 (d ∷ x) (is_at 60 x) _ _ (λ f. copied_map 92 (d ∷ x) leaf_of_name (name (drop 1 x))
    (λ p g. refused 92 (d ∷ x) (leaf_of_name p) (λ k. true_false k.no_reference))) (λ f. tt)) (λ e5.
    copied_if 92 (d ∷ x) (nat_le 49 d && nat_le d 57) _ _
    (λ e. refused 92 (d ∷ x) (leaf_of_number (digits (d ∷ x))) (λ k. true_false k.no_reference)) (λ e6. set_or_code d x (class_escape d)))))))
  where
    property : (b : Bool) → Copied 92 (d ∷ x) (property_leaf b x)
    property b = copied_map 92 (d ∷ x) (λ y. (Token.leaf (Leaf.property b), y)) (past_property x)
        (λ y e. refused 92 (d ∷ x) (Token.leaf (Leaf.property b), y) (λ k. true_false k.told))

-- every token but a class
all_copied : (c : ℕ) (x : Text) → c == 91 ≡ false → Copied c x (token_from true c x)
unfolding token_from
all_copied c x h =
    copied_if c x (c == 124) _ _ (alone 124 Token.bar refl (λ own. refl) (λ more. refl)) (λ e1.
    copied_if c x (c == 40) _ _ (copied_at c 40 x (opening x) (opening_copied x)) (λ e2.
    copied_if c x (c == 41) _ _ (alone 41 Token.closes refl (λ own. refl) (λ more. refl)) (λ e3.
    copied_if c x (c == 42) _ _ (times 42 (Count.number 0) None refl (λ z. refl)) (λ e4.
    copied_if c x (c == 43) _ _ (times 43 (Count.number 1) None refl (λ z. refl)) (λ e5.
    copied_if c x (c == 63) _ _ (times 63 (Count.number 0) (Some (Count.number 1)) refl (λ z. refl)) (λ e6.
    copied_if c x (c == 123) _ _ (copied_at c 123 x (braces x) (counted (braces x) refl)) (λ e7.
    copied_if c x (c == 46) _ _ (λ e. refused c x (Token.leaf Leaf.dot, x) (λ k. true_false k.told)) (λ e8.
    copied_if c x (c == 94) _ _ (alone 94 (Token.leaf Leaf.start) refl (λ own. refl) (λ more. refl)) (λ e9.
    copied_if c x (c == 36) _ _ (alone 36 (Token.leaf Leaf.end) refl (λ own. refl) (λ more. refl)) (λ e10.
    copied_if c x (c == 91) _ _ (λ e. absurd (true_false (sym e ∙ h))) (λ e11.
    copied_if c x (c == 92) _ _ (copied_at c 92 x (escaped x) (escaped_copied x)) (λ e12.
    let plain = plain_copied c x (none e9 (none e10 (none e12 (none e8 (none e4 (none e5
    (none e6 (none e2 (none e3 (none e11 (none e7 e1))))))))))) in
    copied_if c x (c == 93 || c == 125) _ _ (λ e. plain) (λ e13. plain)))))))))))))
  where
    none : {a b : Bool} → a ≡ false → b ≡ false → a || b ≡ false
    none {a} {b} e f = ap (λ z. z || b) e ∙ f

    alone : (d : ℕ) (t : Token) → is_calm d ≡ true → ((own : Text) → token_written t (d ∷ x) own ≡ own) →
        ((more : Text) → ReadsToken (d ∷ more) (map_token rust_leaf t) more) → c == d ≡ true → Copied c x (Some (t, x))
    alone d t e f r g =
        copied_at c d x (Some (t, x)) (calm_text d x x [] t refl f (and_true (is_calm d) true e refl) (λ k more q. r more)) g

    times : (d : ℕ) (least : Count) (most : Option Count) → is_calm d ≡ true →
        ((z : Text) → token_from true d z ≡ Some (quantifier least most z)) → c == d ≡ true → Copied c x (Some (quantifier least most x))
    times d least most e f g =
        copied_at c d x (Some (quantifier least most x))
        (times_copied d x (quantifier least most x) e (times_read d least most x [] x refl refl f)) g

    counted : (o : Option (Token × Text)) → braces x ≡ o → Copied 123 x o
    counted None e = tt
    counted (Some p) e = times_copied 123 x p refl (braces_read x p e)

-- a class
class_passes : (x : Text) (p : Token × Text) (w : Text) → class_from true x ≡ Some p → WritesClass x p.1 w →
    has_other_escape false (91 ∷ x) ≡ false → Kept p.0 → Passes 91 p.0 p.1 w
unfolding class_from
class_passes x p w e f n k = first (is_at 94 x) refl e
  where
    kept : (b : Bool) → not b ≡ false → b ≡ true
    kept true h = refl
    kept false h = cc

    front : (more : Text) → is_at 63 (w ++ more) ≡ false
    front more = ap (λ z. is_at 63 (z ++ more)) f.2 ∙ go (is_at 94 x)
      where
        go : (b : Bool) → is_at 63 (((if b then codes "[^" else codes "[") ++ (f.0 ++ codes "]")) ++ more) ≡ false
        go true = refl
        go false = refl

    is_class : (negated : Bool) (items : List Item) → p.0 ≡ Token.leaf (Leaf.class negated items) → Passes 91 p.0 p.1 w
    is_class negated items g =
        let q : Kept (Token.leaf (Leaf.class negated items)) = subst Kept g k in
        let (reads, passed) = class_read x p.1 w negated items (e ∙ ap (λ t. Some (t, p.1)) g) f n q.no_other
        (kept (list_all is_no_property items) q.told) in
        subst (λ t. Passes 91 t p.1 w) (sym g) (record { reads = λ more m. reads_set (w ++ more) negated items more (reads more); front = λ h more. front more; passed = passed })

    items : (negated : Bool) (o : Option (List Item × Text)) → option_map (class_token negated) o ≡ Some p → Passes 91 p.0 p.1 w
    items negated None g = absurd (none_some g)
    items negated (Some q) g = is_class negated q.0 (ap (λ z. z.0) (sym (some_same (class_token negated q) p g)))

    first : (b : Bool) → is_at 94 x ≡ b → (if b then option_map (class_token true) (class_items true (drop 1 x))
        else option_map (class_token false) (class_items true x)) ≡ Some p → Passes 91 p.0 p.1 w
    first true g h = items true (class_items true (drop 1 x)) h
    first false g h = items false (class_items true x) h

-- every token
pub token_passes : (c : ℕ) (x y w : Text) (t : Token) → token_from true c x ≡ Some (t, y) → WritesToken (c == 91) t c x y w →
    has_other_escape false (c ∷ x) ≡ false → Kept t → Passes c t y w
unfolding token_from
token_passes c x y w t e f n k = go (c == 91) refl f
  where
    at_class : (d : ℕ) → d ≡ 91 → token_from true d x ≡ Some (t, y) → WritesClass x y w → has_other_escape false (d ∷ x) ≡ false → Passes d t y w
    at_class d i = subst (λ z. token_from true z x ≡ Some (t, y) → WritesClass x y w → has_other_escape false (z ∷ x) ≡ false →
        Passes z t y w) (sym i)
        (λ g h m. class_passes x (t, y) w g h m k)

    go : (b : Bool) → c == 91 ≡ b → WritesToken b t c x y w → Passes c t y w
    go true g h = at_class c (code_is c 91 g) e h n
    go false g (own, h, i) = subst (Passes c t y) (sym i) (subst (Copied c x) e (all_copied c x g) own h n k)
