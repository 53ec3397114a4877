-- Which words are numbers of pairs.
use Rattle.std.proofs.Common.{◌≡◌, ℕ, zero, suc, ◌^◌, ◌<◌, ◌≤◌, List, [], ◌∷◌, get_or, Option, Some, Result, Ok, Err, sym, ap, ◌∙◌, subst, arith}
use Rattle.std.specs.Prelude.{MatchResult, decimal}
use Rattle.std.specs.Str.Parse.{AllDigits, ParsesUnsigned, digits_value}
use Rattle.std.proofs.lemmas.Fmt.{decimal-digits_value, decimal_digit, decimal_injective, first_decimal, parse-decimal}
use Rattle.std.proofs.lemmas.Str.Parse.{numerals_by_value, parse_plain, tells_digits}
use Rattle.judge.specs.Words.{IsMake}
use Rattle.judge.specs.inner.Requests.{IsAsked, IsBare, IsPairs}
use Rattle.judge.specs.declared.words.Request.{Request}
use Rattle.judge.specs.declared.words.Request.TheVariants.{Make}

-- a number of pairs begins neither with 0 nor with a sign
pub bare : (word : List ℕ) (n : ℕ) → IsPairs word n → IsBare word
bare word n pairs =
    let some = pairs.some in
    let most = pairs.most in
    let above = first_decimal n (omega arith) (omega arith) in
    let above_word : 48 < get_or word 0 0 = rw pairs.is above in
    (λ e. absurd (omega arith), λ e. absurd (omega arith))

-- such digits are not those of 0
not_zero : (word : List ℕ) (m : ℕ) → IsBare word → word ≡ decimal m → 1 ≤ m
not_zero word zero is_bare e = absurd (is_bare.0 (ap (λ t. get_or t 0 0) (e ∙ decimal_digit 0 (omega arith))))
not_zero word (suc m) is_bare e = omega arith

module _ {E : Type 0} (word : List ℕ) (is_bare : IsBare word) where
  -- what a result of `parse` tells of a word that begins with neither: the number whose decimal digits the word is, which is not 0, or
  -- that it is no number of pairs
  abbrev Tells : Result ℕ E → Type 0
  Tells r = MatchResult r (λ n. (word ≡ decimal n) × (1 ≤ n) × ((m : ℕ) → IsPairs word m → m ≡ n)) (λ e. (n : ℕ) → IsPairs word n → ⊥)

  -- a number of pairs is parsed
  pairs_parsed : (r : Result ℕ E) (n : ℕ) → ParsesUnsigned 32 10 word r → IsPairs word n → r ≡ Ok n
  pairs_parsed r n h pairs = let most = pairs.most in parse-decimal 32 n word r (omega arith) (omega arith) pairs.is h

  parsed : (r : Result ℕ E) → ParsesUnsigned 32 10 word r → Tells r
  parsed (Ok x) h =
      let own = numerals_by_value (AllDigits 10) tells_digits in
      let read = parse_plain own {E = E} 32 word (Ok x) h is_bare.1 in
      let bound = read.0.2 in
      let small : digits_value 10 word < 2 ^ 64 = omega arith in
      let digits = decimal-digits_value own word read.0.0 read.0.1 (λ e. absurd (is_bare.0 e)) small in
      let is : word ≡ decimal x = sym digits ∙ ap decimal (sym read.1) in
      (is, not_zero word x is_bare is, λ m pairs. let e = pairs_parsed (Ok x) m h pairs in cc)
  parsed (Err e) h = λ n pairs. let is = pairs_parsed (Err e) n h pairs in cc

  pub parsed_ok : (r : Result ℕ E) (x : ℕ) → r ≡ Ok x → ParsesUnsigned 32 10 word r
      → (word ≡ decimal x) × (1 ≤ x) × ((m : ℕ) → IsPairs word m → m ≡ x)
  parsed_ok r x is h = subst Tells is (parsed r h)

  pub parsed_err : (r : Result ℕ E) (e : E) → r ≡ Err e → ParsesUnsigned 32 10 word r → (n : ℕ) → IsPairs word n → ⊥
  parsed_err r e is h = subst Tells is (parsed r h)

make_word : (a b c d : List ℕ) → a ∷ b ∷ [] ≡ c ∷ d ∷ [] → b ≡ d
make_word a b c d e = cc

-- words ask for one number of pairs
pub one_make : (words : List (List ℕ)) (m n : ℕ) → IsMake words m → IsMake words n → m ≡ n
one_make words m n a b =
    let most = a.most in
    let most_too = b.most in
    decimal_injective m n (omega arith) (omega arith) (make_word _ _ _ _ (sym a.is ∙ b.is))

-- where words were read as a request for pairs, they ask for so many
pub asked_make : (words : List (List ℕ)) (read : Option Request) (request : Request) (count n : ℕ) → IsAsked words read → read ≡ Some request
    → request ≡ Make count → IsMake words n → count ≡ n
asked_make words read request count n asked is make = one_make words count n
    (subst (λ (o : Option Request). IsAsked words o) (is ∙ ap (λ (r : Request). let o : Option Request = Some r in o) make) asked)
