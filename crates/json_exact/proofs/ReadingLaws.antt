-- Each part of a literal that is read is that part of the grammar, and each such part is read.
use Rattle.std.proofs.Common.{◌≡◌, ℕ, zero, suc, ◌<◌, ◌⊎◌, Bool, true, false, eqb, ltb, List, [], ◌∷◌, ◌++◌, length, get_or, take, drop, refl, sym, ap, subst, ◌∙◌, arith, inl, inr}
use Rattle.std.specs.Prelude.{◌&&◌, ◌||◌, not, Option, Some, None, if◌then◌else◌}
use Rattle.std.proofs.lemmas.Bool.{and_parts, and_from, or_cases, eqb-true, eqb-false, eq-eqb, ne_eqb, lt-ltb, ltb-true}
use Rattle.json_exact.specs.Literal.{IsDigit, AreDigits, number, IsMinus, IsWholePart, IsFraction, IsExponentSign, IsExponent}
use Rattle.json_exact.specs.inner.Reading.{is_digit, digit_count, all_digits, minus_of, is_whole_part, some_digits_of, whole_of, fraction_of, exponent_sign_of, size_of, exponent_with, exponent_of}
use Rattle.json_exact.proofs.DigitTextLaws.{is_digit_from, front_digits, count_none, all_are, are_all}

abbrev NoDigit : List ℕ → Type 0
NoDigit rest = is_digit (get_or rest 0 0) ≡ false

count_all : (ds rest : List ℕ) → AreDigits ds → NoDigit rest → digit_count (ds ++ rest) ≡ length ds
count_all [] rest h n = count_none rest n
count_all (d ∷ ds) rest h n =
    ap (λ (t : Bool). elim t as (λ _. ℕ) [ true ↦ suc (digit_count (ds ++ rest)) | false ↦ 0 ]) (is_digit_from d h.0)
    ∙ ap (λ (k : ℕ). suc k) (count_all ds rest h.1 n)

front_of : (ds rest : List ℕ) → take (length ds) (ds ++ rest) ≡ ds
front_of [] rest = refl
front_of (d ∷ ds) rest = ap (λ (xs : List ℕ). d ∷ xs) (front_of ds rest)

back_of : (ds rest : List ℕ) → drop (length ds) (ds ++ rest) ≡ rest
back_of [] rest = refl
back_of (d ∷ ds) rest = back_of ds rest

both : (k : ℕ) (text : List ℕ) → text ≡ take k text ++ drop k text
both zero text = refl
both (suc k) [] = refl
both (suc k) (c ∷ cs) = ap (λ (xs : List ℕ). c ∷ xs) (both k cs)

pub record Minus (text : List ℕ) (r : Bool × List ℕ) : Type 0 where
  pub sign : List ℕ
  pub text_is : text ≡ sign ++ r.1
  pub sign_is : IsMinus sign r.0

-- what is read of a minus is one
pub minus_takes : (text : List ℕ) → Minus text (minus_of text)
unfolding minus_of
minus_takes [] = record { sign = []; text_is = refl; sign_is = inl (refl, refl) }
minus_takes (c ∷ cs) = go (eqb c 45) refl
  where
    go : (t : Bool) → eqb c 45 ≡ t → Minus (c ∷ cs) (if t then (true, cs) else (false, c ∷ cs))
    go true e = record { sign = 45 ∷ []; text_is = ap (λ (x : ℕ). x ∷ cs) (eqb-true c 45 e); sign_is = inr (refl, refl) }
    go false e = record { sign = []; text_is = refl; sign_is = inl (refl, refl) }

-- each minus is read
pub minus_again : (s : List ℕ) (m : Bool) (rest : List ℕ) → IsMinus s m → (get_or rest 0 0 ≡ 45 → ⊥) → minus_of (s ++ rest) ≡ (m, rest)
unfolding minus_of
minus_again s m rest (inl h) n = ap (λ (x : List ℕ). minus_of (x ++ rest)) h.0
    ∙ ap (λ (t : Bool). if t then (true, drop 1 rest) else (false, rest)) (ne_eqb (get_or rest 0 0) 45 n) ∙ ap (λ (b : Bool). (b, rest)) (sym h.1)
minus_again s m rest (inr h) n = ap (λ (x : List ℕ). minus_of (x ++ rest)) h.0 ∙ ap (λ (b : Bool). (b, rest)) (sym h.1)

nil_of : (cs : List ℕ) → length cs ≡ 0 → cs ≡ []
nil_of [] h = refl
nil_of (c ∷ cs) h = absurd (omega arith)

whole_part_takes : (ds : List ℕ) → AreDigits ds → is_whole_part ds ≡ true → IsWholePart ds
unfolding is_whole_part
whole_part_takes [] h e = absurd cc
whole_part_takes (c ∷ cs) h e = (
  h.0,
  h.1,
  λ z. elim (or_cases (not (eqb c 48)) (eqb (length (c ∷ cs)) 1)
      (and_parts (ltb 0 (length (c ∷ cs))) (not (eqb c 48) || eqb (length (c ∷ cs)) 1) e).1) [
        | inl a ↦ absurd (no (eqb c 48) (eq-eqb c 48 z) a)
        | inr a ↦ nil_of cs (let l : length (c ∷ cs) ≡ 1 = eqb-true (length (c ∷ cs)) 1 a in omega arith)
      ],
)
  where
    no : (t : Bool) → t ≡ true → not t ≡ true → ⊥
    no true e f = cc
    no false e f = cc

whole_part_again : (ds : List ℕ) → IsWholePart ds → is_whole_part ds ≡ true
unfolding is_whole_part
whole_part_again [] h = absurd h
whole_part_again (c ∷ cs) h = go (eqb c 48) refl
  where
    go : (t : Bool) → eqb c 48 ≡ t → (ltb 0 (length (c ∷ cs)) && (not t || eqb (length (c ∷ cs)) 1)) ≡ true
    go true e =
        and_from (ltb 0 (length (c ∷ cs))) (eqb (length (c ∷ cs)) 1) (lt-ltb 0 (length (c ∷ cs)) (omega arith))
        (ap (λ (xs : List ℕ). eqb (length (c ∷ xs)) 1) (h.2 (eqb-true c 48 e)))
    go false e = and_from (ltb 0 (length (c ∷ cs))) true (lt-ltb 0 (length (c ∷ cs)) (omega arith)) refl

are_from_whole : (ds : List ℕ) → IsWholePart ds → AreDigits ds
are_from_whole [] h = absurd h
are_from_whole (c ∷ cs) h = (h.0, h.1)

pub record Cut (text : List ℕ) (r : List ℕ × List ℕ) : Type 0 where
  pub text_is : text ≡ r.0 ++ r.1
  pub digits : AreDigits r.0

-- a whole part that is read is one
pub whole_takes : (text : List ℕ) (r : List ℕ × List ℕ) → whole_of text ≡ Some r → Cut text r × IsWholePart r.0
unfolding whole_of
whole_takes text r e = go (is_whole_part (take (digit_count text) text)) refl e
  where
    got : (List ℕ × List ℕ)
    got = (take (digit_count text) text, drop (digit_count text) text)

    go : (t : Bool) → is_whole_part (take (digit_count text) text) ≡ t
        → (if t then Some (take (digit_count text) text, drop (digit_count text) text) else None) ≡ Some r → Cut text r × IsWholePart r.0
    go true f g = let same : (take (digit_count text) text, drop (digit_count text) text) ≡ r = cc in
        subst (λ (x : List ℕ × List ℕ). Cut text x × IsWholePart x.0) same (
          record { text_is = both (digit_count text) text; digits = front_digits text },
          whole_part_takes (take (digit_count text) text) (front_digits text) f,
        )
    go false f g = absurd cc

-- each whole part is read
pub whole_again : (ds rest : List ℕ) → IsWholePart ds → NoDigit rest → whole_of (ds ++ rest) ≡ Some (ds, rest)
unfolding whole_of
whole_again ds rest h n =
    let e = count_all ds rest (are_from_whole ds h) n in
    ap (λ (k : ℕ). if is_whole_part (take k (ds ++ rest)) then Some (take k (ds ++ rest), drop k (ds ++ rest)) else None) e
    ∙ ap (λ (xs : List ℕ). if is_whole_part xs then Some (xs, drop (length ds) (ds ++ rest)) else None) (front_of ds rest)
    ∙ ap (λ (t : Bool). if t then Some (ds, drop (length ds) (ds ++ rest)) else None) (whole_part_again ds h)
    ∙ ap (λ (xs : List ℕ). Some (ds, xs)) (back_of ds rest)

some_front : (text : List ℕ) → (digit_count text ≡ 0 → ⊥) → 0 < length (take (digit_count text) text)
some_front [] h = absurd (h refl)
some_front (c ∷ cs) h = go (digit_count (c ∷ cs)) h
  where
    go : (k : ℕ) → (k ≡ 0 → ⊥) → 0 < length (take k (c ∷ cs))
    go zero h = absurd (h refl)
    go (suc k) h = omega arith

some_takes : (text : List ℕ) (r : List ℕ × List ℕ) → some_digits_of text ≡ Some r → Cut text r × (0 < length r.0)
unfolding some_digits_of
some_takes text r e = go (eqb (digit_count text) 0) refl e
  where
    go : (t : Bool) → eqb (digit_count text) 0 ≡ t → (if t then None else Some (take (digit_count text) text, drop (digit_count text) text)) ≡ Some r
        → Cut text r × (0 < length r.0)
    go true f g = absurd cc
    go false f g = let same : (take (digit_count text) text, drop (digit_count text) text) ≡ r = cc in
        subst (λ (x : List ℕ × List ℕ). Cut text x × (0 < length x.0)) same
        (record { text_is = both (digit_count text) text; digits = front_digits text }, some_front text (eqb-false (digit_count text) 0 f))

some_again : (ds rest : List ℕ) → AreDigits ds → 0 < length ds → NoDigit rest → some_digits_of (ds ++ rest) ≡ Some (ds, rest)
unfolding some_digits_of
some_again ds rest h p n =
    let e = count_all ds rest h n in
    ap (λ (k : ℕ). if eqb k 0 then None else Some (take k (ds ++ rest), drop k (ds ++ rest))) e
    ∙ ap (λ (t : Bool). if t then None else Some (take (length ds) (ds ++ rest), drop (length ds) (ds ++ rest)))
    (ne_eqb (length ds) 0 (λ z. absurd (omega arith)))
    ∙ ap (λ (xs : List ℕ). Some (xs, drop (length ds) (ds ++ rest))) (front_of ds rest)
    ∙ ap (λ (xs : List ℕ). Some (ds, xs)) (back_of ds rest)

pub record Fraction (text : List ℕ) (r : List ℕ × List ℕ) : Type 0 where
  pub part : List ℕ
  pub text_is : text ≡ part ++ r.1
  pub part_is : IsFraction part r.0

-- a fraction that is read is one
pub fraction_takes : (text : List ℕ) (r : List ℕ × List ℕ) → fraction_of text ≡ Some r → Fraction text r
unfolding fraction_of
fraction_takes [] r e =
    let same : ([], []) ≡ r = cc in
    subst (λ (x : List ℕ × List ℕ). Fraction [] x) same (record { part = []; text_is = refl; part_is = inl (refl, refl) })
fraction_takes (c ∷ cs) r e = go (eqb c 46) refl e
  where
    go : (t : Bool) → eqb c 46 ≡ t → (if t then some_digits_of cs else Some ([], c ∷ cs)) ≡ Some r → Fraction (c ∷ cs) r
    go true f g = let h = some_takes cs r g in record {
      part = 46 ∷ r.0;
      text_is = ap (λ (x : ℕ). x ∷ cs) (eqb-true c 46 f) ∙ ap (λ (xs : List ℕ). 46 ∷ xs) h.0.text_is;
      part_is = inr (refl, h.0.digits, h.1);
    }
    go false f g =
        let same : ([], c ∷ cs) ≡ r = cc in
        subst (λ (x : List ℕ × List ℕ). Fraction (c ∷ cs) x) same (record { part = []; text_is = refl; part_is = inl (refl, refl) })

-- each fraction is read
pub fraction_again : (part ds rest : List ℕ) → IsFraction part ds → NoDigit rest → (get_or rest 0 0 ≡ 46 → ⊥)
    → fraction_of (part ++ rest) ≡ Some (ds, rest)
unfolding fraction_of
fraction_again part ds rest (inl h) n p =
    ap (λ (xs : List ℕ). fraction_of (xs ++ rest)) h.0
    ∙ ap (λ (t : Bool). if t then some_digits_of (drop 1 rest) else Some ([], rest)) (ne_eqb (get_or rest 0 0) 46 p)
    ∙ ap (λ (xs : List ℕ). Some (xs, rest)) (sym h.1)
fraction_again part ds rest (inr h) n p = ap (λ (xs : List ℕ). fraction_of (xs ++ rest)) h.0 ∙ some_again ds rest h.1 h.2 n

record Raised (text : List ℕ) (r : Bool × List ℕ) : Type 0 where
  sign : List ℕ
  text_is : text ≡ sign ++ r.1
  sign_is : IsExponentSign sign r.0

exponent_sign_takes : (text : List ℕ) → Raised text (exponent_sign_of text)
unfolding exponent_sign_of
exponent_sign_takes text = go text (eqb (get_or text 0 0) 43) refl
  where
    go : (text : List ℕ) (t : Bool) → eqb (get_or text 0 0) 43 ≡ t → Raised text (if t then (false, drop 1 text) else minus_of text)
    go [] true e = absurd cc
    go (c ∷ cs) true e = record { sign = 43 ∷ []; text_is = ap (λ (x : ℕ). x ∷ cs) (eqb-true c 43 e); sign_is = inl (refl, refl) }
    go text false e = let h = minus_takes text in record { sign = h.sign; text_is = h.text_is; sign_is = inr h.sign_is }

exponent_sign_again : (s : List ℕ) (m : Bool) (rest : List ℕ) → IsExponentSign s m → (get_or rest 0 0 ≡ 45 → ⊥) → (get_or rest 0 0 ≡ 43 → ⊥)
    → exponent_sign_of (s ++ rest) ≡ (m, rest)
unfolding exponent_sign_of
exponent_sign_again s m rest (inl h) n p = ap (λ (x : List ℕ). exponent_sign_of (x ++ rest)) h.0 ∙ ap (λ (b : Bool). (b, rest)) (sym h.1)
exponent_sign_again s m rest (inr h) n p = ap (λ (t : Bool). if t then (false, drop 1 (s ++ rest)) else minus_of (s ++ rest))
    (ne_eqb (get_or (s ++ rest) 0 0) 43 (no_plus h)) ∙ minus_again s m rest h n
  where
    no_plus : IsMinus s m → get_or (s ++ rest) 0 0 ≡ 43 → ⊥
    no_plus (inl h) e = p (ap (λ (xs : List ℕ). get_or (xs ++ rest) 0 0) (sym h.0) ∙ e)
    no_plus (inr h) e = let x : ◌≡◌ {A = ℕ} 45 43 = ap (λ (xs : List ℕ). get_or (xs ++ rest) 0 0) (sym h.0) ∙ e in absurd (omega arith)

size_takes : (text : List ℕ) (n : ℕ) → size_of text ≡ Some n → AreDigits text × (0 < length text) × (n ≡ number text)
unfolding size_of
size_takes text n h = go (ltb 0 (length text) && all_digits text) refl h
  where
    go : (t : Bool) → (ltb 0 (length text) && all_digits text) ≡ t → (if t then Some (number text) else None) ≡ Some n
        → AreDigits text × (0 < length text) × (n ≡ number text)
    go true e f = let p = and_parts (ltb 0 (length text)) (all_digits text) e in (all_are text p.1, ltb-true 0 (length text) p.0, cc)
    go false e f = absurd cc

size_again : (text : List ℕ) → AreDigits text → 0 < length text → size_of text ≡ Some (number text)
unfolding size_of
size_again text h some =
    ap (λ (t : Bool). if t then Some (number text) else None)
    (and_from (ltb 0 (length text)) (all_digits text) (lt-ltb 0 (length text) some) (are_all text h))

record Sized (down : Bool) (o : Option ℕ) (e : Bool × ℕ) : Type 0 where
  size : ℕ
  is : o ≡ Some size
  pair : e ≡ (down, size)

exponent_with_takes : (down : Bool) (o : Option ℕ) (e : Bool × ℕ) → exponent_with down o ≡ Some e → Sized down o e
exponent_with_takes down None e h = absurd cc
exponent_with_takes down (Some size) e h = record { size = size; is = refl; pair = cc }

-- an exponent that is read is one
pub exponent_takes : (text : List ℕ) (e : Bool × ℕ) → exponent_of text ≡ Some e → IsExponent text e.0 e.1
unfolding exponent_of
exponent_takes [] e h = let same : (false, 0) ≡ e = cc in subst (λ (x : Bool × ℕ). IsExponent [] x.0 x.1) same (inl (refl, refl, refl))
exponent_takes (c ∷ cs) e h = go (eqb (length (c ∷ cs)) 0) (eqb c 101 || eqb c 69) refl refl h
  where
    letter : eqb c 101 || eqb c 69 ≡ true → (c ≡ 101) ⊎ (c ≡ 69)
    letter u = elim (or_cases (eqb c 101) (eqb c 69) u) [ inl a ↦ inl (eqb-true c 101 a) | inr a ↦ inr (eqb-true c 69 a) ]

    go : (t u : Bool) → eqb (length (c ∷ cs)) 0 ≡ t → eqb c 101 || eqb c 69 ≡ u
        → (if t then Some (false, 0) else (if u then exponent_with (exponent_sign_of cs).0 (size_of (exponent_sign_of cs).1) else None)) ≡ Some e
        → IsExponent (c ∷ cs) e.0 e.1
    go true u f g h = absurd (let z : length (c ∷ cs) ≡ 0 = eqb-true (length (c ∷ cs)) 0 f in omega arith)
    go false false f g h = absurd cc
    go false true f g h =
        let s = exponent_sign_takes cs in
        let a = exponent_with_takes (exponent_sign_of cs).0 (size_of (exponent_sign_of cs).1) e h in
        let (d, some, n) = size_takes (exponent_sign_of cs).1 a.size a.is in
        subst (λ (x : Bool × ℕ). IsExponent (c ∷ cs) x.0 x.1) (sym a.pair) (inr (record {
          letter = c;
          sign = s.sign;
          digits = (exponent_sign_of cs).1;
          text_is = ap (λ (xs : List ℕ). c ∷ xs) s.text_is;
          letter_is = letter g;
          sign_is = s.sign_is;
          digits_are = d;
          some = some;
          size_is = n;
        }))

first_digit : (ds : List ℕ) → AreDigits ds → 0 < length ds → IsDigit (get_or ds 0 0)
first_digit [] h p = absurd (omega arith)
first_digit (d ∷ ds) h p = h.0

-- and each exponent is read
pub exponent_again : (text : List ℕ) (down : Bool) (size : ℕ) → IsExponent text down size → exponent_of text ≡ Some (down, size)
unfolding exponent_of
exponent_again text down size (inl h) = ap exponent_of h.0 ∙ ap (λ (b : Bool). Some (b, 0)) (sym h.1) ∙ ap (λ (k : ℕ). Some (down, k)) (sym h.2)
exponent_again text down size (inr p) =
    let d = first_digit p.digits p.digits_are p.some in
    let rest = p.sign ++ p.digits in
    let s : exponent_sign_of (p.sign ++ p.digits) ≡ (down, p.digits) = exponent_sign_again p.sign down p.digits p.sign_is
    (λ e. absurd (let x = d.0 in omega arith)) (λ e. absurd (let x = d.0 in omega arith)) in
    ap exponent_of p.text_is
    ∙ ap (λ (b : Bool). if b then Some (false, 0) else
    (if eqb p.letter 101 || eqb p.letter 69 then exponent_with (exponent_sign_of rest).0 (size_of (exponent_sign_of rest).1) else None))
    (ne_eqb (length (p.letter ∷ rest)) 0 (λ z. absurd (omega arith)))
    ∙ ap (λ (b : Bool). if b then exponent_with (exponent_sign_of rest).0 (size_of (exponent_sign_of rest).1) else None) (letter p.letter p.letter_is)
    ∙ ap (λ (r : Bool × List ℕ). exponent_with r.0 (size_of r.1)) s
    ∙ ap (λ (o : Option ℕ). exponent_with down o) (size_again p.digits p.digits_are p.some)
    ∙ ap (λ (k : ℕ). Some (down, k)) (sym p.size_is)
  where
    letter : (c : ℕ) → (c ≡ 101) ⊎ (c ≡ 69) → eqb c 101 || eqb c 69 ≡ true
    letter c (inl e) = ap (λ (x : ℕ). eqb x 101 || eqb x 69) e
    letter c (inr e) = ap (λ (x : ℕ). eqb x 101 || eqb x 69) e

-- no digit stands at the front of an exponent
pub no_digit_exponent : (text : List ℕ) (down : Bool) (size : ℕ) → IsExponent text down size → NoDigit text
no_digit_exponent text down size (inl h) = ap (λ (xs : List ℕ). is_digit (get_or xs 0 0)) h.0
no_digit_exponent text down size (inr p) = ap (λ (xs : List ℕ). is_digit (get_or xs 0 0)) p.text_is ∙ letter p.letter p.letter_is
  where
    letter : (c : ℕ) → (c ≡ 101) ⊎ (c ≡ 69) → is_digit c ≡ false
    letter c (inl e) = ap is_digit e
    letter c (inr e) = ap is_digit e

-- no point stands at the front of an exponent
pub no_point_exponent : (text : List ℕ) (down : Bool) (size : ℕ) → IsExponent text down size → get_or text 0 0 ≡ 46 → ⊥
no_point_exponent text down size (inl h) e = let x : ◌≡◌ {A = ℕ} 0 46 = ap (λ (xs : List ℕ). get_or xs 0 0) (sym h.0) ∙ e in omega arith
no_point_exponent text down size (inr p) e = letter p.letter p.letter_is (ap (λ (xs : List ℕ). get_or xs 0 0) (sym p.text_is) ∙ e)
  where
    letter : (c : ℕ) → (c ≡ 101) ⊎ (c ≡ 69) → c ≡ 46 → ⊥
    letter c (inl e) f = omega arith
    letter c (inr e) f = omega arith

-- no digit stands at the front of a fraction
pub no_digit_fraction : (part ds rest : List ℕ) → IsFraction part ds → NoDigit rest → NoDigit (part ++ rest)
no_digit_fraction part ds rest (inl h) n = ap (λ (xs : List ℕ). is_digit (get_or (xs ++ rest) 0 0)) h.0 ∙ n
no_digit_fraction part ds rest (inr h) n = ap (λ (xs : List ℕ). is_digit (get_or (xs ++ rest) 0 0)) h.0

-- no minus stands at the front of a whole part
pub no_sign : (ds rest : List ℕ) → IsWholePart ds → get_or (ds ++ rest) 0 0 ≡ 45 → ⊥
no_sign [] rest h e = h
no_sign (c ∷ cs) rest h e = let x = h.0.0 in omega arith
