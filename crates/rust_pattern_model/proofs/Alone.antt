-- Numbers that are read alone: from digits that mean the same whatever follows them.
use Rattle.std.proofs.Common.{◌≡◌, ℕ, zero, suc, ◌+◌, ◌*◌, ◌<◌, ◌≤◌, Bool, true, false, not, ◌&&◌, [], ◌∷◌, ◌++◌, Option, Some, None, option_map, option_and_then, refl, ap, sym, ◌∙◌, subst, arith}
use Rattle.std.specs.Prelude.{if◌then◌else◌, ◌||◌, ◌==◌, nat_le}
use Rattle.std.specs.List.{list_all}
use Rattle.std.proofs.lemmas.Bool.{eqb-true}
use Rattle.std.proofs.lemmas.Bool.Decides.{nat_tests}
use Rattle.pattern_model.specs.Text.{Text, is_at}
use Rattle.pattern_model.specs.Digits.{hex_value, hex_from, hex_to_brace}
use Rattle.pattern_model.specs.CodePoints.{if_code_point, code_point}
use Rattle.pattern_model.proofs.BoolLaws.{and_true}

-- no backslash and no bracket: it begins no escape, and no class begins or ends with it
abbrev pub is_calm : ℕ → Bool
is_calm c = not (c == 92 || (c == 91 || c == 93))

-- x begins with a part from which `read` reads a, whatever follows it; and y follows it
pub record Alone {A : Type 0} (read : Text → Option (A × Text)) (x : Text) (a : A) (y : Text) : Type 0 where
  pub own : Text
  pub stands : x ≡ own ++ y
  pub again : (rest : Text) → read (own ++ rest) ≡ Some (a, rest)
  pub calm : list_all is_calm own ≡ true

-- a number, and what follows it
abbrev pub found : ℕ → Text → Option (ℕ × Text)
found c x = Some (c, x)

pub true_false : true ≡ false → ⊥
true_false e = cc

pub none_some : {A : Type 0} {a : A} → None ≡ Some a → ⊥
none_some e = cc

pub some_same : {A : Type 0} (a b : A) → Some a ≡ Some b → a ≡ b
some_same a b e = cc

pub pair_same : {A : Type 0} (a b : A) (x y : Text) → ◌≡◌ {A = Option (A × Text)} (Some (a, x)) (Some (b, y)) → (a ≡ b) × (x ≡ y)
pair_same {A} a b x y e = let f : ◌≡◌ {A = A × Text} (a, x) (b, y) = some_same (a, x) (b, y) e in (ap (λ p. p.0) f, ap (λ p. p.1) f)

-- a test of three
pub is_calm_if : (c : ℕ) → (c ≡ 92 → ⊥) → (c ≡ 91 → ⊥) → (c ≡ 93 → ⊥) → is_calm c ≡ true
is_calm_if c f g h = go (c == 92) (c == 91) (c == 93) refl refl refl
  where
    go : (p q r : Bool) → c == 92 ≡ p → c == 91 ≡ q → c == 93 ≡ r → not (p || (q || r)) ≡ true
    go true q r i j k = absurd (f (eqb-true c 92 i))
    go false true r i j k = absurd (g (eqb-true c 91 j))
    go false false true i j k = absurd (h (eqb-true c 93 k))
    go false false false i j k = refl

pub hex_calm : (c d : ℕ) → hex_value c ≡ Some d → is_calm c ≡ true
hex_calm c d e =
    is_calm_if c (λ f. none_some (sym (ap hex_value f) ∙ e)) (λ f. none_some (sym (ap hex_value f) ∙ e)) (λ f. none_some (sym (ap hex_value f) ∙ e))

-- the value of a digit
pub hex_small : (c d : ℕ) → hex_value c ≡ Some d → d < 16
hex_small c d e = grind (arith, nat_tests)

pub hex_alone : (k n m : ℕ) (x y : Text) → hex_from k n x ≡ Some (m, y) → Alone (hex_from k n) x m y
hex_alone zero n m x y e = let (f, g) = pair_same n m x y e in
    record { own = []; stands = g; again = λ rest. ap (λ z. Some (z, rest)) f; calm = refl }
hex_alone (suc k) n m [] y e = absurd (none_some e)
hex_alone (suc k) n m (c ∷ x) y e = go (λ d f. hex_alone k (16 * n + d) m x y f) (hex_value c) refl e
  where
    go : ((d : ℕ) → hex_from k (16 * n + d) x ≡ Some (m, y) → Alone (hex_from k (16 * n + d)) x m y) →
        (o : Option ℕ) → hex_value c ≡ o → option_and_then (λ (p : ℕ × Text). hex_from k p.0 p.1) (option_map (λ d. (16 * n + d, x)) o) ≡ Some (
          m,
          y,
        ) →
        Alone (hex_from (suc k) n) (c ∷ x) m y
    go more None h f = absurd (none_some f)
    go more (Some d) h f = let r = more d f in
        record {
          own = c ∷ r.own;
          stands = ap (λ z. c ∷ z) r.stands;
          again = λ rest. ap (λ o. option_and_then (λ (p : ℕ × Text). hex_from k p.0 p.1) (option_map (λ d. (16 * n + d, r.own ++ rest)) o)) h
              ∙ r.again rest;
          calm = and_true (is_calm c) (list_all is_calm r.own) (hex_calm c d h) r.calm;
        }

-- so many digits have a value below a power of 16
abbrev pub room : ℕ → ℕ → ℕ
room zero b = b
room (suc k) b = room k (16 * b)

pub hex_below : (k n m b : ℕ) (x y : Text) → n < b → hex_from k n x ≡ Some (m, y) → m < room k b
hex_below zero n m b x y h e = let (f, g) = pair_same n m x y e in subst (λ z. z < b) f h
hex_below (suc k) n m b [] y h e = absurd (none_some e)
hex_below (suc k) n m b (c ∷ x) y h e = go (λ d i f. hex_below k (16 * n + d) m (16 * b) x y i f) (hex_value c) refl e
  where
    go : ((d : ℕ) → 16 * n + d < 16 * b → hex_from k (16 * n + d) x ≡ Some (m, y) → m < room k (16 * b)) → (o : Option ℕ) → hex_value c ≡ o →
        option_and_then (λ (p : ℕ × Text). hex_from k p.0 p.1) (option_map (λ d. (16 * n + d, x)) o) ≡ Some (m, y) →
        m < room k (16 * b)
    go more None i f = absurd (none_some f)
    go more (Some d) i f = let s = hex_small c d i in more d (omega (arith, s, h)) f

brace_alone : (n m : ℕ) (x y : Text) → hex_to_brace n x ≡ Some (m, y) → Alone (hex_to_brace n) x m y
brace_alone n m [] y e = absurd (none_some e)
brace_alone n m (c ∷ x) y e = close (λ d f. brace_alone (16 * n + d) m x y f) (c == 125) refl e
  where
    digit : ((d : ℕ) → hex_to_brace (16 * n + d) x ≡ Some (m, y) → Alone (hex_to_brace (16 * n + d)) x m y) → (o : Option ℕ) → c == 125 ≡ false →
        hex_value c ≡ o → option_and_then (λ d. hex_to_brace (16 * n + d) x) o ≡ Some (m, y) →
        Alone (hex_to_brace n) (c ∷ x) m y
    digit more None g h f = absurd (none_some f)
    digit more (Some d) g h f = let r = more d f in
        record {
          own = c ∷ r.own;
          stands = ap (λ z. c ∷ z) r.stands;
          again = λ rest. ap (λ b. if b then Some (n, r.own ++ rest) else option_and_then (λ d. hex_to_brace (16 * n + d) (r.own ++ rest))
              (hex_value c)) g
              ∙ (ap (option_and_then (λ d. hex_to_brace (16 * n + d) (r.own ++ rest))) h ∙ r.again rest);
          calm = and_true (is_calm c) (list_all is_calm r.own) (hex_calm c d h) r.calm;
        }

    close : ((d : ℕ) → hex_to_brace (16 * n + d) x ≡ Some (m, y) → Alone (hex_to_brace (16 * n + d)) x m y) → (b : Bool) → c == 125 ≡ b →
        (if b then Some (n, x) else option_and_then (λ d. hex_to_brace (16 * n + d) x) (hex_value c)) ≡ Some (m, y) →
        Alone (hex_to_brace n) (c ∷ x) m y
    close more true g f = let (h, i) = pair_same n m x y f in
        record {
          own = c ∷ [];
          stands = ap (λ z. c ∷ z) i;
          again = λ rest. ap (λ b. if b then Some (n, rest) else option_and_then (λ d. hex_to_brace (16 * n + d) rest) (hex_value c)) g
              ∙ ap (λ z. Some (z, rest)) h;
          calm = ap (λ z. is_calm z && true) (eqb-true c 125 g);
        }
    close more false g f = digit more (hex_value c) g refl f

-- a text that is not empty begins as it does with another end
pub front_same : (c : ℕ) (own y z : Text) → (own ≡ [] → ⊥) → is_at c (own ++ y) ≡ is_at c (own ++ z)
front_same c [] y z h = absurd (h refl)
front_same c (d ∷ own) y z h = refl

-- a number in braces, behind the opening brace, is that of a code point
pub code_point_alone : (m : ℕ) (x y : Text) → code_point x ≡ Some (m, y) → Alone code_point x m y × (m ≤ 1114111)
unfolding code_point
code_point_alone m x y e = first (is_at 125 x) refl e
  where
    is_code : (p : ℕ × Text) → hex_to_brace 0 x ≡ Some p → is_at 125 x ≡ false → if_code_point p ≡ Some (m, y) →
        Alone code_point x m y × (m ≤ 1114111)
    is_code p f g h = go (nat_le p.0 1114111) refl h
      where
        go : (b : Bool) → nat_le p.0 1114111 ≡ b → (if b then Some p else None) ≡ Some (m, y) → Alone code_point x m y × (m ≤ 1114111)
        go false i j = absurd (none_some j)
        go true i j =
            let k = some_same p (m, y) j in
            let l : nat_le m 1114111 ≡ true = ap (λ q. nat_le q.0 1114111) (sym k) ∙ i in
            let r = brace_alone 0 m x y (f ∙ ap Some k) in
            let full : r.own ≡ [] → ⊥ = λ n. none_some (ap (λ z. hex_to_brace 0 (z ++ [])) (sym n) ∙ r.again []) in (
              record {
                own = r.own;
                stands = r.stands;
                again = λ rest. ap (λ b. if b then None else option_and_then if_code_point (hex_to_brace 0 (r.own ++ rest)))
                    (front_same 125 r.own rest y full ∙ (sym (ap (is_at 125) r.stands) ∙ g))
                    ∙ (ap (option_and_then if_code_point) (r.again rest) ∙ ap (λ b. if b then Some (m, rest) else None) l);
                calm = r.calm;
              },
              grind (arith, nat_tests),
            )

    some : (o : Option (ℕ × Text)) → hex_to_brace 0 x ≡ o → is_at 125 x ≡ false → option_and_then if_code_point o ≡ Some (m, y) →
        Alone code_point x m y × (m ≤ 1114111)
    some None f g h = absurd (none_some h)
    some (Some p) f g h = is_code p f g h

    first : (b : Bool) → is_at 125 x ≡ b → (if b then None else option_and_then if_code_point (hex_to_brace 0 x)) ≡ Some (m, y) →
        Alone code_point x m y × (m ≤ 1114111)
    first true g h = absurd (none_some h)
    first false g h = some (hex_to_brace 0 x) refl g h
