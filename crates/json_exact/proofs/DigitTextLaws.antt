-- Digits of a text, and the number that they write.
use Rattle.std.proofs.Common.{◌≡◌, ℕ, zero, suc, ◌+◌, ◌-◌, ◌*◌, ◌^◌, ◌≤◌, ◌<◌, Bool, true, false, List, [], ◌∷◌, ◌++◌, map, length, get_or, take, refl, sym, ap, ◌∙◌, arith}
use Rattle.std.specs.Prelude.{nat_le}
use Rattle.std.proofs.lemmas.Bool.{leb-true, and_parts, le-leb, and_from}
use Rattle.json_exact.specs.Literal.{IsDigit, AreDigits, number}
use Rattle.json_exact.specs.inner.Reading.{is_digit, digit_count, all_digits}
use Rattle.json_exact.proofs.GroupLaws.{after, after_is, after_zero}

-- the values of digits
abbrev pub values : List ℕ → List ℕ
values cs = map (λ c. c - 48) cs

values_length : (cs : List ℕ) → length (values cs) ≡ length cs
values_length [] = refl
values_length (c ∷ cs) = ap (λ (k : ℕ). suc k) (values_length cs)

-- digits behind n make n times a power of ten, and their number
pub number_after : (n : ℕ) (cs : List ℕ) → after 10 n (values cs) ≡ n * 10 ^ length cs + number cs
number_after n cs = after_is 10 n (values cs) ∙ ap (λ (k : ℕ). n * 10 ^ k + number cs) (values_length cs)

-- no more digits stand at the front of a text than it is long
pub count_within : (text : List ℕ) → digit_count text ≤ length text
count_within [] = omega arith
count_within (c ∷ cs) = go (is_digit c) (count_within cs)
  where
    go : (t : Bool) → digit_count cs ≤ length cs → elim t as (λ _. ℕ) [ true ↦ suc (digit_count cs) | false ↦ 0 ] ≤ length (c ∷ cs)
    go true h = omega arith
    go false h = omega arith

take_length : (k : ℕ) (text : List ℕ) → k ≤ length text → length (take k text) ≡ k
take_length zero text h = refl
take_length (suc k) [] h = absurd (omega arith)
take_length (suc k) (c ∷ cs) h = ap (λ (i : ℕ). suc i) (take_length k cs (omega arith))

-- the digits at the front are as many as are counted
pub front_length : (text : List ℕ) → length (take (digit_count text) text) ≡ digit_count text
front_length text = take_length (digit_count text) text (count_within text)

-- the digits at the front behind n make n times a power of ten, and their number
pub front_after : (n k : ℕ) (text : List ℕ) → k ≡ digit_count text
    → after 10 n (values (take (digit_count text) text)) ≡ n * 10 ^ k + number (take k text)
front_after n k text e =
    number_after n (take (digit_count text) text)
    ∙ ap (λ (i : ℕ). n * 10 ^ i + number (take (digit_count text) text)) (front_length text)
    ∙ ap (λ (i : ℕ). n * 10 ^ i + number (take i text)) (sym e)

-- a byte that is found to be a digit is one
pub digit_is : (c : ℕ) → is_digit c ≡ true → IsDigit c
digit_is c h = let p = and_parts (nat_le 48 c) (nat_le c 57) h in (leb-true 48 c p.0, leb-true c 57 p.1)

-- and each digit is found
pub is_digit_from : (c : ℕ) → IsDigit c → is_digit c ≡ true
is_digit_from c h = and_from (nat_le 48 c) (nat_le c 57) (le-leb 48 c h.0) (le-leb c 57 h.1)

-- the digits at the front are digits
pub front_digits : (text : List ℕ) → AreDigits (take (digit_count text) text)
front_digits [] = tt
front_digits (c ∷ cs) = go (is_digit c) refl (front_digits cs)
  where
    go : (t : Bool) → is_digit c ≡ t → AreDigits (take (digit_count cs) cs)
        → AreDigits (take (elim t as (λ _. ℕ) [ true ↦ suc (digit_count cs) | false ↦ 0 ]) (c ∷ cs))
    go true e h = (digit_is c e, h)
    go false e h = tt

-- where no digit stands at the front, none is counted
pub count_none : (rest : List ℕ) → is_digit (get_or rest 0 0) ≡ false → digit_count rest ≡ 0
count_none [] h = refl
count_none (c ∷ cs) h = ap (λ (t : Bool). elim t as (λ _. ℕ) [ true ↦ suc (digit_count cs) | false ↦ 0 ]) h

-- none is counted in the empty text
pub count_empty : (rest : List ℕ) → length rest < 1 → digit_count rest ≡ 0
count_empty [] h = refl
count_empty (c ∷ cs) h = absurd (omega arith)

-- digits behind digits make a number times a power of ten, and a number
pub number_append : (xs ys : List ℕ) → number (xs ++ ys) ≡ number xs * 10 ^ length ys + number ys
number_append xs ys =
    sym (after_zero 10 (values (xs ++ ys)))
    ∙ ap (λ (zs : List ℕ). after 10 0 zs) (values_append xs ys)
    ∙ after_append 0 (values xs) (values ys)
    ∙ ap (λ (n : ℕ). after 10 n (values ys)) (after_zero 10 (values xs))
    ∙ number_after (number xs) ys
  where
    values_append : (xs ys : List ℕ) → values (xs ++ ys) ≡ values xs ++ values ys
    values_append [] ys = refl
    values_append (x ∷ xs) ys = ap (λ (zs : List ℕ). (x - 48) ∷ zs) (values_append xs ys)

    after_append : (n : ℕ) (xs ys : List ℕ) → after 10 n (xs ++ ys) ≡ after 10 (after 10 n xs) ys
    after_append n [] ys = refl
    after_append n (x ∷ xs) ys = after_append (n * 10 + x) xs ys

-- a text that is found to be all digits is
pub all_are : (text : List ℕ) → all_digits text ≡ true → AreDigits text
all_are [] h = tt
all_are (c ∷ cs) h = let p = and_parts (is_digit c) (all_digits cs) h in (digit_is c p.0, all_are cs p.1)

-- and digits are found
pub are_all : (text : List ℕ) → AreDigits text → all_digits text ≡ true
are_all [] h = refl
are_all (c ∷ cs) h = and_from (is_digit c) (all_digits cs) (is_digit_from c h.0) (are_all cs h.1)
