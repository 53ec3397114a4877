-- A character escape that is not refused is written so that Rust reads its code point, and what follows it has no other escape.
use Rattle.std.proofs.Common.{◌≡◌, ℕ, suc, ◌%◌, ◌<◌, ◌≤◌, Bool, true, false, not, ◌&&◌, List, [], ◌∷◌, ◌++◌, drop, Option, Some, None, option_map, option_and_then, refl, ap, sym, ◌∙◌, subst, arith}
use Rattle.std.specs.Prelude.{if◌then◌else◌, ◌||◌, ◌==◌, nat_le, nat_lt, codes}
use Rattle.std.proofs.lemmas.Bool.{eqb-true}
use Rattle.std.proofs.lemmas.Bool.Decides.{nat_tests}
use Rattle.std.proofs.lemmas.List.{append_cancel_right}
use lib.Utf8.{scalar}
use Rattle.ucd_table.specs.Rows.{Range, in_ranges, value_in}
use Rattle.ucd_derived.specs.Binary.{is_alphabetic}
use Rattle.ucd_derived.specs.AlphabeticRanges.{alphabetic_ranges}
use Rattle.ucd_category.specs.GeneralCategory.{general_category}
use Rattle.ucd_category.specs.GeneralCategoryRows.{general_category_rows}
use Rattle.pattern_model.specs.Text.{Text, is_at}
use Rattle.pattern_model.specs.Digits.{is_digit, digit_at, hex_from, hex}
use Rattle.pattern_model.specs.CodePoints.{code_point, is_lead, with_trail, trail, paired, unicode_escape}
use Rattle.pattern_model.specs.Letters.{is_ascii_letter, is_alphanumeric, is_number}
use Rattle.pattern_model.specs.Escapes.{control, itself, character_escape}
use Rattle.rust_pattern_model.specs.Refusals.{is_surrogate, has_surrogate, names_surrogate, is_other_escape}
use Rattle.rust_pattern_model.specs.Written.{control_of, code_written}
use Rattle.rust_pattern_model.specs.RustClasses.{is_punctuation, letter_escape, if_scalar_value, number_escape, escape}
use Rattle.rust_pattern_model.proofs.Shown.{Shown}
use Rattle.rust_pattern_model.proofs.Alone.{Alone, found, true_false, none_some, pair_same, hex_alone, hex_below, code_point_alone, front_same}

-- the character is none of those that begin an escape of their own: f n r t v c 0 x u
pub record IsOther (d : ℕ) : Type 0 where
  pub no_control : d == 99 ≡ false
  pub no_nul : d == 48 ≡ false
  pub no_hex : d == 120 ≡ false
  pub no_unicode : d == 117 ≡ false
  pub read : (x : Text) → character_escape d x ≡ itself d x

pub by_character : (d : ℕ) (P : ℕ → Type 0) → P 102 → P 110 → P 114 → P 116 → P 118 → P 99 → P 48 → P 120 → P 117 → (IsOther d → P d) → P d
unfolding character_escape
by_character d P a b e f g h i j k other =
    go (d == 102) (λ m. subst P (sym (eqb-true d 102 m)) a) (λ m1.
    go (d == 110) (λ m. subst P (sym (eqb-true d 110 m)) b) (λ m2.
    go (d == 114) (λ m. subst P (sym (eqb-true d 114 m)) e) (λ m3.
    go (d == 116) (λ m. subst P (sym (eqb-true d 116 m)) f) (λ m4.
    go (d == 118) (λ m. subst P (sym (eqb-true d 118 m)) g) (λ m5.
    go (d == 99) (λ m. subst P (sym (eqb-true d 99 m)) h) (λ m6.
    go (d == 48) (λ m. subst P (sym (eqb-true d 48 m)) i) (λ m7.
    go (d == 120) (λ m. subst P (sym (eqb-true d 120 m)) j) (λ m8.
    go (d == 117) (λ m. subst P (sym (eqb-true d 117 m)) k) (λ m9.
    other (record {
      no_control = m6;
      no_nul = m7;
      no_hex = m8;
      no_unicode = m9;
      read = λ x. skip (d == 102) _ _ m1 ∙ (skip (d == 110) _ _ m2 ∙ (skip (d == 114) _ _ m3 ∙ (skip (d == 116) _ _ m4 ∙ (skip (d == 118) _ _ m5
          ∙ (skip (d == 99) _ _ m6 ∙ (skip (d == 48) _ _ m7 ∙ (skip (d == 120) _ _ m8 ∙ skip (d == 117) _ _ m9)))))));
    }))))))))))
  where
    go : (t : Bool) → (t ≡ true → P d) → (t ≡ false → P d) → P d
    go true p q = p refl
    go false p q = q refl

    skip : (t : Bool) (p q : Option (ℕ × Text)) → t ≡ false → (if t then p else q) ≡ q
    skip true p q e = absurd (true_false e)
    skip false p q e = refl

-- what stands before the same end is the same
own_is : (front own x y : Text) → front ++ x ≡ own ++ y → x ≡ y → own ≡ front
own_is front own x y e f = append_cancel_right own front y (sym e ∙ ap (λ z. front ++ z) f)

-- ASCII letters and digits are alphanumeric
in_two : (r s : Range) (rs : List Range) (c : ℕ) → (nat_le r.0 c && nat_le c r.1) || (nat_le s.0 c && nat_le c s.1) ≡ true →
    in_ranges (r ∷ (s ∷ rs)) c ≡ true
unfolding in_ranges
in_two r s rs c e = go (nat_le r.0 c && nat_le c r.1) (nat_le s.0 c && nat_le c s.1) (in_ranges rs c) e
  where
    go : (p q o : Bool) → p || q ≡ true → p || (q || o) ≡ true
    go true q o e = refl
    go false true o e = refl
    go false false o e = cc

letter_alphanumeric : (d : ℕ) → is_ascii_letter d ≡ true → is_alphanumeric d ≡ true
unfolding is_alphanumeric is_alphabetic alphabetic_ranges
letter_alphanumeric d e = ap (λ b. b || is_number (general_category d)) (in_two (65, 90) (97, 122) _ d e)

digit_alphanumeric : (d : ℕ) → is_digit d ≡ true → is_alphanumeric d ≡ true
unfolding is_alphanumeric is_alphabetic in_ranges alphabetic_ranges general_category value_in general_category_rows
digit_alphanumeric d e =
    go (d == 48) (λ m. is 48 refl m) (λ m0.
    go (d == 49) (λ m. is 49 refl m) (λ m1.
    go (d == 50) (λ m. is 50 refl m) (λ m2.
    go (d == 51) (λ m. is 51 refl m) (λ m3.
    go (d == 52) (λ m. is 52 refl m) (λ m4.
    go (d == 53) (λ m. is 53 refl m) (λ m5.
    go (d == 54) (λ m. is 54 refl m) (λ m6.
    go (d == 55) (λ m. is 55 refl m) (λ m7.
    go (d == 56) (λ m. is 56 refl m) (λ m8.
    go (d == 57) (λ m. is 57 refl m) (λ m9. absurd (none m0 m1 m2 m3 m4 m5 m6 m7 m8 m9)))))))))))
  where
    is : (n : ℕ) → is_alphanumeric n ≡ true → d == n ≡ true → is_alphanumeric d ≡ true
    is n f m = ap is_alphanumeric (eqb-true d n m) ∙ f

    go : {P : Type 0} (t : Bool) → (t ≡ true → P) → (t ≡ false → P) → P
    go true p q = p refl
    go false p q = q refl

    none : d == 48 ≡ false → d == 49 ≡ false → d == 50 ≡ false → d == 51 ≡ false → d == 52 ≡ false → d == 53 ≡ false → d == 54 ≡ false →
        d == 55 ≡ false → d == 56 ≡ false → d == 57 ≡ false → ⊥
    none a b c f g h i j k l = grind (arith, nat_tests)

-- what is ASCII and not alphanumeric is punctuation, but for the angle brackets
punctuation : (d : ℕ) → is_alphanumeric d ≡ false → nat_le 128 d ≡ false → d == 60 ≡ false → d == 62 ≡ false → is_punctuation d ≡ true
punctuation d a b e f =
    let low : nat_lt d 128 ≡ true = grind (arith, nat_tests) in
    ap (λ t. t && not (is_ascii_letter d || (is_digit d || (d == 60 || d == 62)))) low
    ∙ (ap (λ t. not (t || (is_digit d || (d == 60 || d == 62)))) (no (is_ascii_letter d) (letter_alphanumeric d))
    ∙ (ap (λ t. not (t || (d == 60 || d == 62))) (no (is_digit d) (digit_alphanumeric d))
    ∙ (ap (λ t. not (t || d == 62)) e ∙ ap not f)))
  where
    no : (t : Bool) → (t ≡ true → is_alphanumeric d ≡ true) → t ≡ false
    no true h = absurd (clash (h refl))
      where
        clash : is_alphanumeric d ≡ true → ⊥
        clash g = let k : true ≡ false = sym g ∙ a in cc
    no false h = refl

-- the numbers below 2^16, or of a code point, that are no surrogates
scalar_from : (n : ℕ) → n ≤ 1114111 → is_surrogate n ≡ false → scalar n ≡ true
scalar_from n h e = grind (arith, nat_tests)

scalar_is : (n : ℕ) (x : Text) → scalar n ≡ true → if_scalar_value (n, x) ≡ Some (n, x)
scalar_is n x e = ap (λ b. if b then Some (n, x) else None) e

-- an escape of one letter
by_letter : (d c v : ℕ) (x y own : Text) → ((rest : Text) → escape (d ∷ rest) ≡ found v rest) → found v x ≡ found c y →
    92 ∷ (d ∷ x) ≡ own ++ y → Shown c own
by_letter d c v x y own r e f = let (g, h) = pair_same v c x y e in
    Shown.behind (d ∷ []) (own_is (92 ∷ (d ∷ [])) own x y f h) (λ rest. r rest ∙ ap (λ z. found z rest) g)

-- \c and a letter
by_control : (c : ℕ) (x y : Text) → control x ≡ Some (c, y) → Shown c (control_of x)
unfolding control
by_control c [] y e = absurd (none_some e)
by_control c (l ∷ x) y e = go (is_ascii_letter l) e
  where
    go : (b : Bool) → (if b then found (l % 32) x else None) ≡ found c y → Shown c ((l % 32) ∷ [])
    go false f = absurd (none_some f)
    go true f = let (g, h) = pair_same (l % 32) c x y f in
        subst (λ z. Shown z ((l % 32) ∷ [])) g (Shown.itself refl (grind (arith, nat_tests)))

-- \0
by_nul : (c : ℕ) (x y : Text) → (if digit_at x then None else found 0 x) ≡ found c y → Shown c (codes "\\x00")
unfolding escape number_escape hex
by_nul c x y e = go (digit_at x) e
  where
    go : (b : Bool) → (if b then None else found 0 x) ≡ found c y → Shown c (codes "\\x00")
    go true f = absurd (none_some f)
    go false f = let (g, h) = pair_same 0 c x y f in
        subst (λ z. Shown z (codes "\\x00")) g (Shown.behind (codes "x00") refl (λ rest. refl))

-- so many hex digits, of a scalar value
digits_read : (k c : ℕ) (x y rest : Text) (r : Alone (hex_from k 0) x c y) → is_at 123 x ≡ false → (r.own ≡ [] → ⊥) → scalar c ≡ true →
    number_escape k (r.own ++ rest) ≡ Some (c, rest)
unfolding number_escape hex
digits_read k c x y rest r n full s =
    ap (λ b. option_and_then if_scalar_value (if b then code_point (drop 1 (r.own ++ rest)) else hex_from k 0 (r.own ++ rest)))
    (front_same 123 r.own rest y full ∙ (sym (ap (is_at 123) r.stands) ∙ n))
    ∙ (ap (option_and_then if_scalar_value) (r.again rest) ∙ scalar_is c rest s)

-- digits are there
some_digits : (k c : ℕ) (x y : Text) (r : Alone (hex_from (suc k) 0) x c y) → r.own ≡ [] → ⊥
some_digits k c x y r e = none_some (ap (λ z. hex_from (suc k) 0 (z ++ [])) (sym e) ∙ r.again [])

-- no brace is a digit
no_brace : (k c : ℕ) (x y : Text) → hex_from (suc k) 0 x ≡ Some (c, y) → is_at 123 x ≡ false
no_brace k c [] y e = refl
no_brace k c (d ∷ x) y e = go (d == 123) refl
  where
    go : (b : Bool) → d == 123 ≡ b → b ≡ false
    go false f = refl
    go true f = absurd (none_some (ap (λ z. hex_from (suc k) 0 (z ∷ x)) (sym (eqb-true d 123 f)) ∙ e))

-- \x and two digits
by_hex : (c : ℕ) (x y own : Text) → hex 2 x ≡ Some (c, y) → 92 ∷ (120 ∷ x) ≡ own ++ y → Shown c own
unfolding hex escape
by_hex c x y own e f =
    let r = hex_alone 2 0 c x y e in
    let low : c < 256 = hex_below 2 0 c 1 x y (omega arith) e in
    Shown.behind (120 ∷ r.own) (append_cancel_right own (92 ∷ (120 ∷ r.own)) y (sym f ∙ ap (λ z. 92 ∷ (120 ∷ z)) r.stands))
    (λ rest. digits_read 2 c x y rest r (no_brace 1 c x y e) (some_digits 1 c x y r) (scalar_from c (omega (arith, low))
    (grind (arith, nat_tests, low))))

-- \u and a number of a scalar value
by_braces : (c : ℕ) (x y own : Text) → code_point x ≡ Some (c, y) → is_surrogate c ≡ false → 92 ∷ (117 ∷ (123 ∷ x)) ≡ own ++ y → Shown c own
unfolding escape number_escape
by_braces c x y own e n f =
    let (r, low) = code_point_alone c x y e in
    Shown.behind (117 ∷ (123 ∷ r.own)) (append_cancel_right own (92 ∷ (117 ∷ (123 ∷ r.own))) y (sym f ∙ ap (λ z. 92 ∷ (117 ∷ (123 ∷ z))) r.stands))
    (λ rest. ap (option_and_then if_scalar_value) (r.again rest) ∙ scalar_is c rest (scalar_from c low n))

by_four : (c : ℕ) (x y own : Text) → hex_from 4 0 x ≡ Some (c, y) → is_surrogate c ≡ false → 92 ∷ (117 ∷ x) ≡ own ++ y → Shown c own
unfolding hex escape
by_four c x y own e n f =
    let r = hex_alone 4 0 c x y e in
    let low : c < 65536 = hex_below 4 0 c 1 x y (omega arith) e in
    Shown.behind (117 ∷ r.own) (append_cancel_right own (92 ∷ (117 ∷ r.own)) y (sym f ∙ ap (λ z. 92 ∷ (117 ∷ z)) r.stands))
    (λ rest. digits_read 4 c x y rest r (no_brace 3 c x y e) (some_digits 3 c x y r) (scalar_from c (omega (arith, low)) n))

-- no surrogate leads a pair
pub not_paired : (n c : ℕ) (z y : Text) → is_surrogate n ≡ false → Some (paired (n, z)) ≡ Some (c, y) → (n ≡ c) × (z ≡ y)
unfolding paired
not_paired n c z y e f =
    let low : is_lead n ≡ false = grind (arith, nat_tests) in
    pair_same n c z y (sym (ap (λ b. Some (if b then with_trail (n, z) (trail z) else (n, z))) low) ∙ f)

-- \u and a number
by_unicode : (c : ℕ) (x y own : Text) → unicode_escape x ≡ found c y → names_surrogate x ≡ false → 92 ∷ (117 ∷ x) ≡ own ++ y → Shown c own
unfolding unicode_escape hex
by_unicode c [] y own e n f = absurd (none_some e)
by_unicode c (d ∷ x) y own e n f = go (d == 123) refl e n
  where
    four : (o : Option (ℕ × Text)) → hex_from 4 0 (d ∷ x) ≡ o → option_map paired o ≡ found c y → has_surrogate o ≡ false → Shown c own
    four None g h i = absurd (none_some h)
    four (Some p) g h i =
        let (j, k) = not_paired p.0 c p.1 y i h in
        by_four c (d ∷ x) y own (g ∙ (ap (λ z. found z p.1) j ∙ ap (λ z. found c z) k)) (ap is_surrogate (sym j) ∙ i) f

    go : (b : Bool) → d == 123 ≡ b → (if b then code_point x else option_map paired (hex_from 4 0 (d ∷ x))) ≡ found c y →
        has_surrogate (if b then code_point x else hex_from 4 0 (d ∷ x)) ≡ false → Shown c own
    go true g h i = by_braces c x y own h (ap has_surrogate (sym h) ∙ i) (ap (λ z. 92 ∷ (117 ∷ (z ∷ x))) (sym (eqb-true d 123 g)) ∙ f)
    go false g h i = four (hex_from 4 0 (d ∷ x)) refl h i

punctuation_read : (d : ℕ) (rest : Text) → is_punctuation d ≡ true → escape (d ∷ rest) ≡ found d rest
unfolding escape
punctuation_read d rest e = ap (λ b. if b then found d rest else if d == 120 then number_escape 2 rest
    else if d == 117 then number_escape 4 rest else letter_escape d rest) e

pub no_surrogate : (k : Bool) (x : Text) → is_other_escape k (117 ∷ x) ≡ false → names_surrogate x ≡ false
no_surrogate true x e = e
no_surrogate false x e = e

-- a backslash and a character that is not alphanumeric
by_itself : (k : Bool) (d c : ℕ) (x y own : Text) → IsOther d → itself d x ≡ found c y → 92 ∷ (d ∷ x) ≡ own ++ y →
    is_other_escape k (d ∷ x) ≡ false → Shown c (code_written (92 ∷ (d ∷ x)) own)
by_itself k d c x y own o e f n = go (is_alphanumeric d) refl e
  where
    or_left : (a b : Bool) → a || b ≡ false → a ≡ false
    or_left true b e = cc
    or_left false b e = refl

    written : code_written (92 ∷ (d ∷ x)) own ≡ (if d == 60 then codes "<" else if d == 62 then codes ">" else own)
    written =
        ap (λ b. if b then control_of x else if d == 48 then codes "\\x00" else if d == 60 then codes "<" else if d == 62 then codes ">"
        else own) o.no_control
        ∙ ap (λ b. if b then codes "\\x00" else if d == 60 then codes "<" else if d == 62 then codes ">" else own) o.no_nul

    shown : is_alphanumeric d ≡ false → d ≡ c → own ≡ 92 ∷ (d ∷ []) → (b e : Bool) → d == 60 ≡ b → d == 62 ≡ e →
        Shown c (if b then codes "<" else if e then codes ">" else own)
    shown a i j true e p q = let z : 60 ≡ c = sym (eqb-true d 60 p) ∙ i in subst (λ z. Shown z (codes "<")) z (Shown.itself refl refl)
    shown a i j false true p q = let z : 62 ≡ c = sym (eqb-true d 62 q) ∙ i in subst (λ z. Shown z (codes ">")) z (Shown.itself refl refl)
    shown a i j false false p q =
        Shown.behind (d ∷ []) j (λ rest. punctuation_read d rest (punctuation d a (or_left (nat_le 128 d) _ n) p q) ∙ ap (λ z. found z rest) i)

    go : (b : Bool) → is_alphanumeric d ≡ b → (if b then None else found d x) ≡ found c y → Shown c (code_written (92 ∷ (d ∷ x)) own)
    go true g h = absurd (none_some h)
    go false g h = let (i, j) = pair_same d c x y h in
        subst (Shown c) (sym written) (shown g i (own_is (92 ∷ (d ∷ [])) own x y f j) (d == 60) (d == 62) refl refl)

-- A character escape that is not refused, with its own text, is written so that Rust reads its code point.
pub escape_shown : (k : Bool) (d c : ℕ) (x y own : Text) → character_escape d x ≡ Some (c, y) → 92 ∷ (d ∷ x) ≡ own ++ y →
    is_other_escape k (d ∷ x) ≡ false → Shown c (code_written (92 ∷ (d ∷ x)) own)
unfolding character_escape escape
escape_shown k d c x y own =
    by_character d (λ z. character_escape z x ≡ found c y → 92 ∷ (z ∷ x) ≡ own ++ y → is_other_escape k (z ∷ x) ≡ false →
    Shown c (code_written (92 ∷ (z ∷ x)) own))
    (λ e f n. by_letter 102 c 12 x y own (λ rest. refl) e f)
    (λ e f n. by_letter 110 c 10 x y own (λ rest. refl) e f)
    (λ e f n. by_letter 114 c 13 x y own (λ rest. refl) e f)
    (λ e f n. by_letter 116 c 9 x y own (λ rest. refl) e f)
    (λ e f n. by_letter 118 c 11 x y own (λ rest. refl) e f)
    (λ e f n. by_control c x y e)
    (λ e f n. by_nul c x y e)
    (λ e f n. by_hex c x y own e f)
    (λ e f n. by_unicode c x y own e (no_surrogate k x n) f)
    (λ o e f n. by_itself k d c x y own o (sym (o.read x) ∙ e) f n)
