-- Places in a text, in bytes.
use Rattle.std.proofs.Common.{◌≡◌, ℕ, ◌+◌, Bool, [], ◌∷◌, ◌++◌, length, Some, refl, ap, sym, ◌∙◌, arith, append_assoc, length-append}
use Rattle.std.proofs.lemmas.Str.{encodes-append}
use lib.Utf8.{encodes}
use Rattle.pattern_model.specs.Text.{Text}
use Rattle.pattern_model.specs.Tree.{Token}
use Rattle.pattern_model.specs.Tokens.{token_from}
use Rattle.pattern_model.specs.Spans.{IsAfter, TokenStands}
use Rattle.pattern_model.proofs.TokenTails.{token_tail}

pub bytes_append : (x y : Text) → length (encodes (x ++ y)) ≡ length (encodes x) + length (encodes y)
bytes_append x y = ap length (encodes-append x y) ∙ length-append (encodes x) (encodes y)

pub after_first : (x : Text) → IsAfter x 0 x
after_first x = ([], refl, refl)

-- what is left is so long that it tells how much stands before it
pub after_bytes : (x y : Text) (at : ℕ) → IsAfter x at y → at + length (encodes y) ≡ length (encodes x)
after_bytes x y at (front, e, n) = let b = bytes_append front y in let k : length (encodes x) ≡ length (encodes (front ++ y)) =
    ap (λ z. length (encodes z)) e in omega arith

pub after_tail : (x y z front : Text) (at next : ℕ) → IsAfter x at y → y ≡ front ++ z → next + length (encodes z) ≡ length (encodes x) →
    IsAfter x next z
after_tail x y z front at next (before, e, n) f k =
    let all : x ≡ (before ++ front) ++ z = e ∙ (ap (λ w. before ++ w) f ∙ sym (append_assoc before front z)) in
    let b = bytes_append (before ++ front) z in
    let l : length (encodes x) ≡ length (encodes ((before ++ front) ++ z)) = ap (λ w. length (encodes w)) all in
    (before ++ front, all, omega arith)

-- what follows the next token
pub token_after : (wide : Bool) (x y : Text) (start end c : ℕ) (after rest : Text) (t : Token) → IsAfter x start y → y ≡ c ∷ after →
    token_from wide c after ≡ Some (t, rest) → end + length (encodes rest) ≡ length (encodes x) → IsAfter x end rest
token_after wide x y start end c after rest t a e f k =
    let (front, tail) = token_tail wide c after rest t f in
    let all : y ≡ (c ∷ front) ++ rest = e ∙ ap (λ z. c ∷ z) tail in
    after_tail x y rest (c ∷ front) start end a all k

-- the token that is read next stands from here to what follows it
pub token_stands : (wide : Bool) (x y : Text) (start end c : ℕ) (after rest : Text) (t : Token) → IsAfter x start y → y ≡ c ∷ after →
    token_from wide c after ≡ Some (t, rest) → IsAfter x end rest → TokenStands wide x start t end
token_stands wide x y start end c after rest t a e f k =
    record { first = c; after = after; rest = rest; starts = (a.0, a.1 ∙ ap (λ z. a.0 ++ z) e, a.2); read = f; ends = k }
