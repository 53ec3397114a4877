-- Hex texts are what `hex` decodes.
use Rattle.std.proofs.Common.{◌≡◌, ◌⊎◌, inl, inr, ℕ, zero, suc, ◌+◌, ◌*◌, ◌/◌, ◌%◌, ◌<◌, List, [], ◌∷◌, length, take, slice_index, true, false, is_some, Option, Some, None, Ok, Err, Result, refl, sym, ap, ◌∙◌, subst, arith}
use Rattle.std.specs.List.{AllPass}
use Rattle.std.specs.Prelude.{MatchResult}
use Rattle.std.specs.Str.{IsAscii, IsUtf8}
use Rattle.std.proofs.lemmas.Bool.{false≢true, cases_eq}
use Rattle.std.proofs.lemmas.Str.{IsUtf8-from_ascii}
use Rattle.std.proofs.lemmas.Str.Ascii.{IsAscii-nil, IsAscii-cons}
use Rattle.std.proofs.lemmas.List.Elements.{All-head, All-tail}
use Rattle.hex.specs.declared.error.FromHexError.{FromHexError}
use Rattle.hex.specs.declared.error.FromHexError.TheVariants.{InvalidHexCharacter, InvalidStringLength, OddLength, OutOfMemory}
use Rattle.hex.specs.Hex.{decode_of, decode_pairs, decode_sized, hex_digit_value, is_hex_digit, pair_value}
use Rattle.hex.proofs.Pairs.{cons_byte, decode_pairs-ok_pair}
use Rattle.hex.proofs.HexLemmas.{decode_of-err, decode_of-even, decode_of-odd, decode_of-ok, decode_of-same, decode_sized-twice}
use Rattle.jsonb_layout.proofs.Tools.{IsBytes}
use Rattle.jsonb.specs.HexText.{IsFirstNotHex, IsHexPair, IsHexText}

abbrev IsHexDigit : ℕ → Type 0
IsHexDigit c = is_hex_digit c ≡ true

-- hex text has an even length
pub even_hex : (text bytes : List ℕ) → IsHexText text bytes → length text % 2 ≡ 0
even_hex [] [] h = refl
even_hex [] (b ∷ bytes) h = absurd h
even_hex (x ∷ []) [] h = absurd h
even_hex (x ∷ []) (b ∷ bytes) h = absurd h
even_hex (x ∷ y ∷ text) [] h = absurd h
even_hex (x ∷ y ∷ text) (b ∷ bytes) h = let rest = even_hex text bytes h.1 in omega (arith, rest)

-- ---- one pair

pair_decodes : (x y byte i : ℕ) → IsHexPair x y byte → pair_value x y i ≡ Ok byte
pair_decodes x y byte i h =
    let whole : byte / 16 * 16 + byte % 16 ≡ byte = omega arith in
    rw (h.0, h.1) (ap Ok whole)

digit_reads : (o : Option ℕ) → is_some o ≡ true → (v : ℕ) × (o ≡ Some v)
digit_reads (Some v) h = (v, refl)
digit_reads None h = cc h

digit_small : (c v : ℕ) → hex_digit_value c ≡ Some v → v < 16
digit_small c v h = grind (arith)

pair_reads : (x y : ℕ) → IsHexDigit x → IsHexDigit y → (byte : ℕ) × IsHexPair x y byte
pair_reads x y hx hy =
    let high = digit_reads (hex_digit_value x) hx in
    let low = digit_reads (hex_digit_value y) hy in
    let small = digit_small y low.0 low.1 in
    let byte = high.0 * 16 + low.0 in
    let upper : high.0 ≡ (high.0 * 16 + low.0) / 16 = omega arith in
    let lower : low.0 ≡ (high.0 * 16 + low.0) % 16 = omega arith in
    (high.0 * 16 + low.0, (high.1 ∙ ap Some upper, low.1 ∙ ap Some lower))

-- ---- whole texts

pairs_decode : (i : ℕ) (text bytes : List ℕ) → IsHexText text bytes → decode_pairs i text ≡ Ok bytes
unfolding decode_pairs
pairs_decode i [] [] h = refl
pairs_decode i [] (b ∷ bytes) h = absurd h
pairs_decode i (x ∷ []) [] h = absurd h
pairs_decode i (x ∷ []) (b ∷ bytes) h = absurd h
pairs_decode i (x ∷ y ∷ text) [] h = absurd h
pairs_decode i (x ∷ y ∷ text) (b ∷ bytes) h =
    decode_pairs-ok_pair i x y b text (pair_decodes x y b i h.0) ∙ ap (cons_byte b) (pairs_decode (i + 2) text bytes h.1)

pub hex_decodes : (text bytes : List ℕ) → IsHexText text bytes → decode_of text ≡ Ok bytes
hex_decodes text bytes h = decode_of-even text (even_hex text bytes h) ∙ pairs_decode 0 text bytes h

digits_read : (text : List ℕ) → length text % 2 ≡ 0 → AllPass is_hex_digit text → (bytes : List ℕ) × IsHexText text bytes
digits_read [] even h = ([], tt)
digits_read (x ∷ []) even h = absurd (omega arith)
digits_read (x ∷ y ∷ text) even h =
    let after = All-tail IsHexDigit x (y ∷ text) h in
    let byte = pair_reads x y (All-head IsHexDigit x (y ∷ text) h) (All-head IsHexDigit y text after) in
    let rest = digits_read text (omega arith) (All-tail IsHexDigit y text after) in
    (byte.0 ∷ rest.0, (byte.1, rest.1))

-- what is decoded is what the text stands for
pub decoded_hex : (text bytes : List ℕ) → decode_of text ≡ Ok bytes → IsHexText text bytes
decoded_hex text bytes e =
    let whole = decode_of-ok text bytes e in
    let hex = digits_read text whole.0 whole.1 in
    subst (λ b. IsHexText text b) (decode_of-same text hex.0 bytes (hex_decodes text hex.0 hex.1) e) hex.1

-- ---- texts that are refused

-- what each error of `hex` says of the text
abbrev Tells : List ℕ → FromHexError → Type 0
Tells text (InvalidHexCharacter c place) = IsFirstNotHex text place
Tells text OddLength = length text % 2 ≡ 1
Tells text InvalidStringLength = ⊥
Tells text OutOfMemory = Unit {0}

not_odd : (text : List ℕ) (c place : ℕ) → length text % 2 ≡ 1 → decode_of text ≡ Err (InvalidHexCharacter c place) → ⊥
not_odd text c place odd e = let o = decode_of-odd text odd in cc

even_refused : (text : List ℕ) (error : FromHexError) (c place : ℕ) → decode_of text ≡ Err error → error ≡ InvalidHexCharacter c place
    → length text % 2 ≡ 0
even_refused text error c place e is =
    elim (cases_eq (length text % 2) 1) [
      | inl odd ↦ absurd (not_odd text c place odd (e ∙ ap Err is))
      | inr even ↦ omega arith
    ]

refused : (text : List ℕ) (error : FromHexError) → decode_of text ≡ Err error → Tells text error
refused text error e =
    elim (decode_of-err text error e) [
      | inl odd ↦ rw odd.1 odd.0
      | inr there ↦
          let place : there.0 ≡ 0 + there.0 = omega arith in
          rw there.1 (rw (sym place) (record { even = even_refused text error _ _ e there.1; within = there.2; digits = there.4; here = there.3 }))
    ]

-- want of memory is no error of the text
never_memory : (text : List ℕ) (error : FromHexError) → decode_of text ≡ Err error → error ≡ OutOfMemory → ⊥
never_memory text error e is =
    elim (decode_of-err text error e) [
      | inl odd ↦ absurd (let both = sym odd.1 ∙ is in cc)
      | inr there ↦ absurd (let both = sym there.1 ∙ is in cc)
    ]

-- why a text is not decoded
pub tells : (text : List ℕ) (error : FromHexError) → (error ≡ OutOfMemory) ⊎ (decode_of text ≡ Err error) → Tells text error
tells text error (inl memory) = rw memory tt
tells text error (inr e) = refused text error e

-- ---- decoding into room for the bytes

-- what is answered where the room is r's, and is out afterwards
abbrev pub Sized : List ℕ → ℕ → List ℕ → Result (Unit {0}) FromHexError → Type 0
Sized text n out r = MatchResult (decode_sized text n) (λ bytes. (r ≡ Ok tt) × (out ≡ bytes)) (λ e. r ≡ Err e)

of_room : (text out : List ℕ) (n : ℕ) (r : Result (Unit {0}) FromHexError) → length text ≡ 2 * n → Sized text n out r
    → MatchResult (decode_of text) (λ bytes. (r ≡ Ok tt) × (out ≡ bytes)) (λ e. r ≡ Err e)
of_room text out n r len h =
    subst (λ d. MatchResult d (λ bytes. (r ≡ Ok tt) × (out ≡ bytes)) (λ e. r ≡ Err e)) (decode_sized-twice text n len) h

-- what is decoded into room for it is what the text stands for
pub sized_hex : (text out : List ℕ) (n : ℕ) (r : Result (Unit {0}) FromHexError) → length text ≡ 2 * n → Sized text n out r
    → r ≡ Ok tt → IsHexText text out
sized_hex text out n r len h ok = by_result (decode_of text) refl (of_room text out n r len h)
  where
    by_result : (d : Result (List ℕ) FromHexError) → decode_of text ≡ d
        → MatchResult d (λ bytes. (r ≡ Ok tt) × (out ≡ bytes)) (λ e. r ≡ Err e) → IsHexText text out
    by_result (Ok bytes) e h = subst (λ b. IsHexText text b) (sym h.1) (decoded_hex text bytes e)
    by_result (Err error) e h = absurd (let both = sym ok ∙ h in cc)

-- why a text is not decoded into room for it
pub sized_tells : (text out : List ℕ) (n : ℕ) (r : Result (Unit {0}) FromHexError) (error : FromHexError) → length text ≡ 2 * n
    → Sized text n out r → r ≡ Err error → Tells text error × (error ≡ OutOfMemory → ⊥)
sized_tells text out n r error len h err = by_result (decode_of text) refl (of_room text out n r len h)
  where
    by_result : (d : Result (List ℕ) FromHexError) → decode_of text ≡ d
        → MatchResult d (λ bytes. (r ≡ Ok tt) × (out ≡ bytes)) (λ e. r ≡ Err e) → Tells text error × (error ≡ OutOfMemory → ⊥)
    by_result (Ok bytes) e h = absurd (let both = sym err ∙ h.0 in cc)
    by_result (Err other) e h =
        let same : other ≡ error = (let both = sym h ∙ err in cc) in
        let told = refused text other e in
        (subst (Tells text) same told, λ memory. never_memory text other e (same ∙ memory))

-- a text of digits has no first byte that is no digit
pub all_digits : (text : List ℕ) (place : ℕ) → AllPass is_hex_digit text → place < length text → is_hex_digit (slice_index text place) ≡ false → ⊥
all_digits [] place h within here = absurd (omega arith)
all_digits (x ∷ text) zero h within here = absurd (false≢true (sym here ∙ All-head IsHexDigit x text h))
all_digits (x ∷ text) (suc place) h within here = all_digits text place (All-tail IsHexDigit x text h) (omega arith) here

first_once : (text : List ℕ) (i j : ℕ) → i < length text → AllPass is_hex_digit (take i text) → is_hex_digit (slice_index text i) ≡ false
    → j < length text → AllPass is_hex_digit (take j text) → is_hex_digit (slice_index text j) ≡ false → i ≡ j
first_once [] i j lt h e lt' h' e' = absurd (omega arith)
first_once (x ∷ text) zero zero lt h e lt' h' e' = refl
first_once (x ∷ text) zero (suc j) lt h e lt' h' e' = absurd (false≢true (sym e ∙ All-head IsHexDigit x (take j text) h'))
first_once (x ∷ text) (suc i) zero lt h e lt' h' e' = absurd (false≢true (sym e' ∙ All-head IsHexDigit x (take i text) h))
first_once (x ∷ text) (suc i) (suc j) lt h e lt' h' e' =
    ap suc (first_once text i j (omega arith) (All-tail IsHexDigit x (take i text) h) e (omega arith) (All-tail IsHexDigit x (take j text) h') e')

-- there is one first byte that is no digit
pub one_first : (text : List ℕ) (i j : ℕ) → IsFirstNotHex text i → IsFirstNotHex text j → i ≡ j
one_first text i j f g = first_once text i j f.within f.digits f.here g.within g.digits g.here

-- hex text has no byte that is no digit
pub hex_or_not : (text bytes : List ℕ) (place : ℕ) → IsHexText text bytes → IsFirstNotHex text place → ⊥
hex_or_not text bytes place h first =
    let whole = decode_of-ok text bytes (hex_decodes text bytes h) in
    all_digits text place whole.1 first.within first.here

-- ---- hex texts are ASCII

digit_ascii : (c : ℕ) → IsHexDigit c → c < 128
digit_ascii c h = grind (arith)

ascii_digits : (text : List ℕ) → AllPass is_hex_digit text → IsAscii text
ascii_digits [] h = IsAscii-nil
ascii_digits (x ∷ text) h = IsAscii-cons x text (digit_ascii x (All-head IsHexDigit x text h)) (ascii_digits text (All-tail IsHexDigit x text h))

pub IsUtf8-from_hex : (text bytes : List ℕ) → IsHexText text bytes → IsUtf8 text
IsUtf8-from_hex text bytes h = IsUtf8-from_ascii text (ascii_digits text ((decode_of-ok text bytes (hex_decodes text bytes h)).1))

-- ---- hex texts have no space

digit_no_space : (c v : ℕ) → hex_digit_value c ≡ Some v → c ≡ 32 → ⊥
digit_no_space c v h e = let none : hex_digit_value c ≡ None = ap hex_digit_value e in cc

pub pair_no_space : (x y byte : ℕ) → IsHexPair x y byte → (x ≡ 32 → ⊥) × (y ≡ 32 → ⊥)
pair_no_space x y byte h = (digit_no_space x (byte / 16) h.0, digit_no_space y (byte % 16) h.1)

-- ---- which texts are hex texts, and of what

-- a text stands for one list of bytes at most
pub hex_once : (text x y : List ℕ) → IsHexText text x → IsHexText text y → x ≡ y
hex_once text x y h g = let same = sym (hex_decodes text x h) ∙ hex_decodes text y g in cc

-- a text stands for some bytes, or for none
pub hex_or_none : (text : List ℕ) → ((bytes : List ℕ) × IsHexText text bytes) ⊎ ((bytes : List ℕ) → IsHexText text bytes → ⊥)
hex_or_none text = by_result (decode_of text) refl
  where
    by_result : (r : Result (List ℕ) FromHexError) → decode_of text ≡ r
        → ((bytes : List ℕ) × IsHexText text bytes) ⊎ ((bytes : List ℕ) → IsHexText text bytes → ⊥)
    by_result (Ok bytes) e = inl (bytes, decoded_hex text bytes e)
    by_result (Err error) e = inr (λ bytes h. let same = sym e ∙ hex_decodes text bytes h in cc)

-- what a hex text stands for is bytes
pub hex_bytes : (text bytes : List ℕ) → IsHexText text bytes → IsBytes bytes
hex_bytes [] [] h i = omega arith
hex_bytes [] (b ∷ bytes) h i = absurd h
hex_bytes (x ∷ []) [] h i = absurd h
hex_bytes (x ∷ []) (b ∷ bytes) h i = absurd h
hex_bytes (x ∷ y ∷ text) [] h i = absurd h
hex_bytes (x ∷ y ∷ text) (b ∷ bytes) h zero = let high = digit_small x (b / 16) h.0.0 in omega arith
hex_bytes (x ∷ y ∷ text) (b ∷ bytes) h (suc i) = hex_bytes text bytes h.1 i
