-- Where escapes without a translation are looked for, from token to token.
use Rattle.std.proofs.Common.{◌≡◌, ℕ, zero, suc, ◌%◌, Bool, true, false, not, [], ◌∷◌, ◌++◌, length, drop, Option, Some, None, option_map, option_and_then, refl, ap, sym, ◌∙◌, subst}
use Rattle.std.specs.Prelude.{if◌then◌else◌, ◌||◌, ◌==◌, encode_utf8}
use Rattle.std.specs.List.{list_all}
use Rattle.std.proofs.lemmas.Bool.{eqb-true}
use Rattle.ucd_table.specs.Rows.{in_ranges, value_in}
use Rattle.ucd_derived.specs.Binary.{is_alphabetic}
use Rattle.ucd_derived.specs.AlphabeticRanges.{alphabetic_ranges}
use Rattle.ucd_category.specs.GeneralCategory.{general_category}
use Rattle.ucd_category.specs.GeneralCategoryRows.{general_category_rows}
use Rattle.pattern_model.specs.Text.{Text, is_at, with_front, many_in, many}
use Rattle.pattern_model.specs.Tree.{Name}
use Rattle.pattern_model.specs.Digits.{digit_at, hex_from, hex}
use Rattle.pattern_model.specs.CodePoints.{code_point, paired, unicode_escape}
use Rattle.pattern_model.specs.Letters.{is_ascii_letter, is_alphanumeric}
use Rattle.pattern_model.specs.Escapes.{control, itself, character_escape}
use Rattle.pattern_model.specs.GroupNames.{if_scalar, is_scalar, name_character, starts_name, goes_on_name, if_part, name_start, name_part, name_parts, past_bracket, name}
use Rattle.pattern_model.proofs.BoolLaws.{and_left, and_right, and_true}
use Rattle.rust_pattern_model.specs.Refusals.{has_surrogate, names_surrogate, is_other_escape, has_other_escape}
use Rattle.rust_pattern_model.proofs.Alone.{is_calm, is_calm_if, Alone, found, none_some, some_same, pair_same, hex_alone, code_point_alone}
use Rattle.rust_pattern_model.proofs.EscapeReads.{by_character, not_paired, no_surrogate}

pub or_left : (a b : Bool) → a || b ≡ false → a ≡ false
or_left true b e = cc
or_left false b e = refl

pub or_right : (a b : Bool) → a || b ≡ false → b ≡ false
or_right true b e = cc
or_right false b e = e

step_escape : (k : Bool) (x : Text) → is_other_escape k x ≡ false → has_other_escape k (drop 1 x) ≡ has_other_escape k (92 ∷ x)
step_escape k [] e = refl
step_escape k (d ∷ x) e = sym (ap (λ b. b || has_other_escape k x) e)

-- past an escape that has a translation
pub past_escape : (k : Bool) (c : ℕ) (x y : Text) → y ≡ c ∷ x → c ≡ 92 → is_other_escape k x ≡ false →
    has_other_escape k (drop 1 x) ≡ has_other_escape k y
past_escape k c x y e f h =
    step_escape k x h ∙ (ap (λ z. has_other_escape k (z ∷ x)) (sym f) ∙ ap (has_other_escape k) (sym e))

step_other : (k : Bool) (c : ℕ) (x : Text) → c == 92 ≡ false →
    has_other_escape (if k then not (c == 93) else c == 91) x ≡ has_other_escape k (c ∷ x)
step_other k c [] h = refl
step_other k c (d ∷ x) h =
    sym (ap (λ b. if b then is_other_escape k (d ∷ x) || has_other_escape k x
    else has_other_escape (if k then not (c == 93) else c == 91) (d ∷ x)) h)

-- past another character
pub past_other : (k : Bool) (c : ℕ) (x y : Text) → y ≡ c ∷ x → c == 92 ≡ false →
    has_other_escape (if k then not (c == 93) else c == 91) x ≡ has_other_escape k y
past_other k c x y e h = step_other k c x h ∙ ap (has_other_escape k) (sym e)

not_of_three : (a b d : Bool) → not (a || (b || d)) ≡ true → (a ≡ false) × (b ≡ false) × (d ≡ false)
not_of_three true b d e = cc
not_of_three false true d e = cc
not_of_three false false true e = cc
not_of_three false false false e = (refl, refl, refl)

-- past a calm character, in a class or outside
pub past_calm : (k : Bool) (c : ℕ) (x : Text) → is_calm c ≡ true → has_other_escape k (c ∷ x) ≡ has_other_escape k x
past_calm k c x e =
    let (a, b, d) = not_of_three (c == 92) (c == 91) (c == 93) e in
    sym (step_other k c x a) ∙ ap (λ z. has_other_escape z x) (state k b d)
  where
    state : (k : Bool) → c == 91 ≡ false → c == 93 ≡ false → (if k then not (c == 93) else c == 91) ≡ k
    state true b d = ap not d
    state false b d = b

-- past calm characters
pub past_all_calm : (k : Bool) (own y : Text) → list_all is_calm own ≡ true → has_other_escape k (own ++ y) ≡ has_other_escape k y
past_all_calm k [] y e = refl
past_all_calm k (c ∷ own) y e =
    past_calm k c (own ++ y) (and_left (is_calm c) (list_all is_calm own) e) ∙ past_all_calm k own y (and_right (is_calm c) (list_all is_calm own) e)

-- a bracket begins a class, and another ends it
pub past_open : (x : Text) → has_other_escape false (91 ∷ x) ≡ has_other_escape true x
past_open x = sym (step_other false 91 x refl)

pub past_close : (x : Text) → has_other_escape true (93 ∷ x) ≡ has_other_escape false x
past_close x = sym (step_other true 93 x refl)

-- y stands in x behind calm characters alone
pub record Behind (x y : Text) : Type 0 where
  pub own : Text
  pub stands : x ≡ own ++ y
  pub calm : list_all is_calm own ≡ true

pub past_behind : (k : Bool) (x y : Text) → Behind x y → has_other_escape k x ≡ false → has_other_escape k y ≡ false
past_behind k x y h e = sym (past_all_calm k h.own y h.calm) ∙ (sym (ap (has_other_escape k) h.stands) ∙ e)

pub at_once : (x y : Text) → x ≡ y → Behind x y
at_once x y e = record { own = []; stands = e; calm = refl }

alone_behind : {A : Type 0} (read : Text → Option (A × Text)) (x y : Text) (a : A) → Alone read x a y → Behind x y
alone_behind read x y a r = record { own = r.own; stands = r.stands; calm = r.calm }

pub one_behind : (c : ℕ) (x y : Text) → is_calm c ≡ true → Behind x y → Behind (c ∷ x) y
one_behind c x y e h =
    record { own = c ∷ h.own; stands = ap (λ z. c ∷ z) h.stands; calm = and_true (is_calm c) (list_all is_calm h.own) e h.calm }

-- the test passes no backslash and no bracket
pub calm_by : (test : ℕ → Bool) (c : ℕ) → test 92 ≡ false → test 91 ≡ false → test 93 ≡ false → test c ≡ true → is_calm c ≡ true
calm_by test c e f g h = is_calm_if c (no 92 e) (no 91 f) (no 93 g)
  where
    no : (d : ℕ) → test d ≡ false → c ≡ d → ⊥
    no d i j = let k : true ≡ false = sym h ∙ (ap test j ∙ i) in cc

letter_behind : (c v : ℕ) (x y : Text) → found v x ≡ found c y → Behind x y
letter_behind c v x y e = at_once x y (pair_same v c x y e).1

control_behind : (c : ℕ) (x y : Text) → control x ≡ found c y → Behind x y
unfolding control
control_behind c [] y e = absurd (none_some e)
control_behind c (l ∷ x) y e = go (is_ascii_letter l) refl e
  where
    go : (b : Bool) → is_ascii_letter l ≡ b → (if b then found (l % 32) x else None) ≡ found c y → Behind (l ∷ x) y
    go false g f = absurd (none_some f)
    go true g f = one_behind l x y (calm_by is_ascii_letter l refl refl refl g) (letter_behind c (l % 32) x y f)

nul_behind : (c : ℕ) (x y : Text) → (if digit_at x then None else found 0 x) ≡ found c y → Behind x y
nul_behind c x y e = go (digit_at x) e
  where
    go : (b : Bool) → (if b then None else found 0 x) ≡ found c y → Behind x y
    go true f = absurd (none_some f)
    go false f = letter_behind c 0 x y f

itself_behind : (d c : ℕ) (x y : Text) → itself d x ≡ found c y → Behind x y
itself_behind d c x y e = go (is_alphanumeric d) e
  where
    go : (b : Bool) → (if b then None else found d x) ≡ found c y → Behind x y
    go true f = absurd (none_some f)
    go false f = letter_behind c d x y f

hex_behind : (c : ℕ) (x y : Text) → hex 2 x ≡ found c y → Behind x y
unfolding hex
hex_behind c x y e = alone_behind (hex_from 2 0) x y c (hex_alone 2 0 c x y e)

unicode_behind : (c : ℕ) (x y : Text) → unicode_escape x ≡ found c y → names_surrogate x ≡ false → Behind x y
unfolding unicode_escape hex
unicode_behind c [] y e n = absurd (none_some e)
unicode_behind c (d ∷ x) y e n = go (d == 123) refl e n
  where
    four : (o : Option (ℕ × Text)) → hex_from 4 0 (d ∷ x) ≡ o → option_map paired o ≡ found c y → has_surrogate o ≡ false → Behind (d ∷ x) y
    four None g h i = absurd (none_some h)
    four (Some p) g h i =
        let (j, k) = not_paired p.0 c p.1 y i h in
        alone_behind (hex_from 4 0) (d ∷ x) y c (hex_alone 4 0 c (d ∷ x) y (g ∙ (ap (λ z. found z p.1) j ∙ ap (λ z. found c z) k)))

    go : (b : Bool) → d == 123 ≡ b → (if b then code_point x else option_map paired (hex_from 4 0 (d ∷ x))) ≡ found c y →
        has_surrogate (if b then code_point x else hex_from 4 0 (d ∷ x)) ≡ false → Behind (d ∷ x) y
    go true g h i = one_behind d x y (ap is_calm (eqb-true d 123 g)) (alone_behind code_point x y c (code_point_alone c x y h).0)
    go false g h i = four (hex_from 4 0 (d ∷ x)) refl h i

escape_behind : (k : Bool) (d c : ℕ) (x y : Text) → character_escape d x ≡ Some (c, y) → is_other_escape k (d ∷ x) ≡ false → Behind x y
unfolding character_escape
escape_behind k d c x y =
    by_character d (λ z. character_escape z x ≡ found c y → is_other_escape k (z ∷ x) ≡ false → Behind x y)
    (λ e n. letter_behind c 12 x y e)
    (λ e n. letter_behind c 10 x y e)
    (λ e n. letter_behind c 13 x y e)
    (λ e n. letter_behind c 9 x y e)
    (λ e n. letter_behind c 11 x y e)
    (λ e n. control_behind c x y e)
    (λ e n. nul_behind c x y e)
    (λ e n. hex_behind c x y e)
    (λ e n. unicode_behind c x y e (no_surrogate k x n))
    (λ o e n. itself_behind d c x y (sym (o.read x) ∙ e))

-- an escape of a code point that has a translation; behind it the search goes on
pub escape_passed : (k : Bool) (d c : ℕ) (x y : Text) → character_escape d x ≡ Some (c, y) → has_other_escape k (92 ∷ (d ∷ x)) ≡ false →
    (is_other_escape k (d ∷ x) ≡ false) × (has_other_escape k y ≡ false)
escape_passed k d c x y e n =
    let f = or_left (is_other_escape k (d ∷ x)) (has_other_escape k x) n in
    (f, past_behind k x y (escape_behind k d c x y e f) (or_right (is_other_escape k (d ∷ x)) (has_other_escape k x) n))

-- a name's character: what is searched behind it
abbrev Past : Text → Text → Type 0
Past x y = has_other_escape false x ≡ false → has_other_escape false y ≡ false

unicode_passed : (c : ℕ) (x y : Text) → option_and_then if_scalar (unicode_escape x) ≡ found c y → Past (92 ∷ (117 ∷ x)) y
unicode_passed c x y e n = go (unicode_escape x) refl e
  where
    here : is_other_escape false (117 ∷ x) ≡ false
    here = or_left (is_other_escape false (117 ∷ x)) (has_other_escape false x) n

    there : has_other_escape false x ≡ false
    there = or_right (is_other_escape false (117 ∷ x)) (has_other_escape false x) n

    scalar : (p : ℕ × Text) → unicode_escape x ≡ Some p → (b : Bool) → (if b then Some p else None) ≡ found c y → has_other_escape false y ≡ false
    scalar p f false g = absurd (none_some g)
    scalar p f true g = past_behind false x y (unicode_behind c x y (f ∙ g) (no_surrogate false x here)) there

    go : (o : Option (ℕ × Text)) → unicode_escape x ≡ o → option_and_then if_scalar o ≡ found c y → has_other_escape false y ≡ false
    go None f g = absurd (none_some g)
    go (Some p) f g = scalar p f (is_scalar p.0) g

character_passed : (x : Text) (p : ℕ × Text) → name_character x ≡ Some p → is_calm p.0 ≡ true → Past x p.1
unfolding name_character
character_passed [] p e h n = absurd (none_some e)
character_passed (c ∷ x) p e h n = go (c == 92) refl e
  where
    plain : (if c == 92 then (if is_at 117 x then option_and_then if_scalar (unicode_escape (drop 1 x)) else None) else Some (c, x)) ≡ Some p →
        c == 92 ≡ false → has_other_escape false p.1 ≡ false
    plain f g =
        let (i, j) = pair_same c p.0 x p.1 (sym (ap (λ b. if b then (if is_at 117 x then option_and_then if_scalar (unicode_escape (drop 1 x))
        else None)
        else found c x) g) ∙ f) in
        subst (λ z. has_other_escape false z ≡ false) j (sym (past_calm false c x (ap is_calm i ∙ h)) ∙ n)

    letter : (z : Text) → x ≡ z → (if is_at 117 z then option_and_then if_scalar (unicode_escape (drop 1 z)) else None) ≡ Some p → c == 92 ≡ true →
        has_other_escape false p.1 ≡ false
    letter [] q f g = absurd (none_some f)
    letter (d ∷ z) q f g = inner (d == 117) refl f
      where
        inner : (b : Bool) → d == 117 ≡ b → (if b then option_and_then if_scalar (unicode_escape z) else None) ≡ Some p →
            has_other_escape false p.1 ≡ false
        inner false i j = absurd (none_some j)
        inner true i j =
            let whole : c ∷ x ≡ 92 ∷ (117 ∷ z) = ap (λ w. w ∷ x) (eqb-true c 92 g) ∙ (ap (λ w. 92 ∷ w) q
            ∙ ap (λ w. 92 ∷ (w ∷ z)) (eqb-true d 117 i)) in
            unicode_passed p.0 z p.1 j (sym (ap (has_other_escape false) whole) ∙ n)

    go : (b : Bool) → c == 92 ≡ b → (if b then (if is_at 117 x then option_and_then if_scalar (unicode_escape (drop 1 x)) else None) else Some (
      c,
      x,
    )) ≡ Some p →
        has_other_escape false p.1 ≡ false
    go true g f = letter x refl f g
    go false g f = plain (ap (λ b. if b then (if is_at 117 x then option_and_then if_scalar (unicode_escape (drop 1 x)) else None) else Some (
      c,
      x,
    )) g ∙ f) g

-- a character of a name that passes the test
part_passed : (test : ℕ → Bool) → test 92 ≡ false → test 91 ≡ false → test 93 ≡ false → (x : Text) (q : Name × Text) →
    option_and_then (if_part test) (name_character x) ≡ Some q → Past x q.1
part_passed test a b d x q e n = go (name_character x) refl e
  where
    if_test : (p : ℕ × Text) → name_character x ≡ Some p → if_part test p ≡ Some q → has_other_escape false q.1 ≡ false
    if_test p f g = tested (test p.0) refl g
      where
        tested : (t : Bool) → test p.0 ≡ t → (if t then Some (encode_utf8 p.0, p.1) else None) ≡ Some q → has_other_escape false q.1 ≡ false
        tested false i j = absurd (none_some j)
        tested true i j =
            subst (λ z. has_other_escape false z ≡ false) (ap (λ z. z.1) (some_same (encode_utf8 p.0, p.1) q j))
            (character_passed x p f (calm_by test p.0 a b d i) n)

    go : (o : Option (ℕ × Text)) → name_character x ≡ o → option_and_then (if_part test) o ≡ Some q → has_other_escape false q.1 ≡ false
    go None f g = absurd (none_some g)
    go (Some p) f g = if_test p f g

start_passed : (x : Text) (q : Name × Text) → name_start x ≡ Some q → Past x q.1
unfolding name_start is_alphanumeric is_alphabetic in_ranges alphabetic_ranges
start_passed x q e = part_passed starts_name refl refl refl x q e

one_part_passed : (x : Text) (q : Name × Text) → name_part x ≡ Some q → Past x q.1
unfolding name_part is_alphanumeric is_alphabetic in_ranges alphabetic_ranges general_category value_in general_category_rows
one_part_passed x q e = part_passed goes_on_name refl refl refl x q e

parts_passed : (n : ℕ) (x : Text) (q : Name × Text) → many_in (is_at 62) name_part n x ≡ Some q → has_other_escape false x ≡ false →
    (has_other_escape false q.1 ≡ false) × (is_at 62 q.1 ≡ true)
parts_passed zero x q e h = absurd (none_some e)
parts_passed (suc n) x q e h = go (λ y r f i. parts_passed n y r f i) (is_at 62 x) refl e
  where
    front : (p r q : Name × Text) → Some (p.0 ++ r.0, r.1) ≡ Some q → (has_other_escape false r.1 ≡ false) × (is_at 62 r.1 ≡ true) →
        (has_other_escape false q.1 ≡ false) × (is_at 62 q.1 ≡ true)
    front p r q f i = subst (λ z. (has_other_escape false z ≡ false) × (is_at 62 z ≡ true)) (ap (λ z. z.1) (some_same (p.0 ++ r.0, r.1) q f)) i

    more : ((y : Text) (r : Name × Text) → many_in (is_at 62) name_part n y ≡ Some r → has_other_escape false y ≡ false →
        (has_other_escape false r.1 ≡ false) × (is_at 62 r.1 ≡ true)) → (p : Name × Text) → name_part x ≡ Some p →
        (o : Option (Name × Text)) → many_in (is_at 62) name_part n p.1 ≡ o → with_front p.0 o ≡ Some q →
        (has_other_escape false q.1 ≡ false) × (is_at 62 q.1 ≡ true)
    more rec p f None g i = absurd (none_some i)
    more rec p f (Some r) g i = front p r q i (rec p.1 r g (one_part_passed x p f h))

    part : ((y : Text) (r : Name × Text) → many_in (is_at 62) name_part n y ≡ Some r → has_other_escape false y ≡ false →
        (has_other_escape false r.1 ≡ false) × (is_at 62 r.1 ≡ true)) → (o : Option (Name × Text)) → name_part x ≡ o →
        option_and_then (λ (p : Name × Text). with_front p.0 (many_in (is_at 62) name_part n p.1)) o ≡ Some q →
        (has_other_escape false q.1 ≡ false) × (is_at 62 q.1 ≡ true)
    part rec None f g = absurd (none_some g)
    part rec (Some p) f g = more rec p f (many_in (is_at 62) name_part n p.1) refl g

    go : ((y : Text) (r : Name × Text) → many_in (is_at 62) name_part n y ≡ Some r → has_other_escape false y ≡ false →
        (has_other_escape false r.1 ≡ false) × (is_at 62 r.1 ≡ true)) → (b : Bool) → is_at 62 x ≡ b →
        (if b then Some ([], x) else option_and_then (λ (p : Name × Text). with_front p.0 (many_in (is_at 62) name_part n p.1))
        (name_part x)) ≡ Some q →
        (has_other_escape false q.1 ≡ false) × (is_at 62 q.1 ≡ true)
    go rec true f g = subst (λ z. (has_other_escape false z ≡ false) × (is_at 62 z ≡ true)) (ap (λ z. z.1) (some_same ([], x) q g)) (h, f)
    go rec false f g = part rec (name_part x) refl g

past_bracket_passed : (x : Text) → is_at 62 x ≡ true → Past x (drop 1 x)
past_bracket_passed [] e n = cc
past_bracket_passed (c ∷ x) e n = sym (past_calm false c x (ap is_calm (eqb-true c 62 e))) ∙ n

-- a group's name and its bracket; behind them the search goes on
pub name_passed : (x y : Text) (n : Name) → name x ≡ Some (n, y) → has_other_escape false x ≡ false → has_other_escape false y ≡ false
unfolding name name_parts many
name_passed x y n e h = go (name_start x) refl e
  where
    bracket : (q : Name × Text) → (has_other_escape false q.1 ≡ false) × (is_at 62 q.1 ≡ true) → Some (past_bracket q) ≡ Some (n, y) →
        has_other_escape false y ≡ false
    bracket q (i, j) f =
        subst (λ z. has_other_escape false z ≡ false) (pair_same q.0 n (drop 1 q.1) y f).1 (past_bracket_passed q.1 j i)

    parts : (p : Name × Text) → name_start x ≡ Some p → (o : Option (Name × Text)) → name_parts p.1 ≡ o →
        option_map past_bracket (with_front p.0 o) ≡ Some (n, y) → has_other_escape false y ≡ false
    parts p f None g i = absurd (none_some i)
    parts p f (Some q) g i = bracket (p.0 ++ q.0, q.1) (parts_passed (suc (length p.1)) p.1 q g (start_passed x p f h)) i

    go : (o : Option (Name × Text)) → name_start x ≡ o →
        option_map past_bracket (option_and_then (λ (p : Name × Text). with_front p.0 (name_parts p.1)) o) ≡ Some (n, y) →
        has_other_escape false y ≡ false
    go None f g = absurd (none_some g)
    go (Some p) f g = parts p f (name_parts p.1) refl g
