-- The computed reading of a number literal from its front, which the code follows. Laws of proofs/ReadingLaws.antt join it to
-- the grammar `IsLiteral`, so nothing here need be believed. This project's own.
use Rattle.std.specs.Prelude.{ℕ, suc, ◌-◌, ◌^◌, Bool, true, false, ◌==◌, ◌&&◌, ◌||◌, not, nat_lt, nat_le, List, [], ◌∷◌, length, get_or, take, drop, Option, Some, None, min, if◌then◌else◌}
use Rattle.json_exact.specs.Literal.{number}

abbrev pub is_digit : ℕ → Bool
is_digit c = nat_le 48 c && nat_le c 57

-- how many digits stand at the front
abbrev pub digit_count : List ℕ → ℕ
digit_count [] = 0
digit_count (c ∷ cs) = elim (is_digit c) [ true ↦ suc (digit_count cs) | false ↦ 0 ]

abbrev pub all_digits : List ℕ → Bool
all_digits [] = true
all_digits (c ∷ cs) = is_digit c && all_digits cs

-- whether `-` stands at the front, and what is behind it
unfoldable pub minus_of : List ℕ → Bool × List ℕ
minus_of text = if get_or text 0 0 == 45 then (true, drop 1 text) else (false, text)

-- of digits: `0`, or digits that do not begin with `0`
unfoldable pub is_whole_part : List ℕ → Bool
is_whole_part ds = nat_lt 0 (length ds) && (not (get_or ds 0 0 == 48) || (length ds == 1))

-- the digits of the whole part, and what is behind them
unfoldable pub whole_of : List ℕ → Option (List ℕ × List ℕ)
whole_of text = if is_whole_part (take (digit_count text) text) then Some (take (digit_count text) text, drop (digit_count text) text) else None

-- digits, at least one, and what is behind them
unfoldable pub some_digits_of : List ℕ → Option (List ℕ × List ℕ)
some_digits_of text = if digit_count text == 0 then None else Some (take (digit_count text) text, drop (digit_count text) text)

-- the digits of the fraction, and what is behind them
unfoldable pub fraction_of : List ℕ → Option (List ℕ × List ℕ)
fraction_of text = if get_or text 0 0 == 46 then some_digits_of (drop 1 text) else Some ([], text)

-- digits by their count, and what is behind them
abbrev pub counted : List ℕ × List ℕ → ℕ × List ℕ
counted r = (length r.0, r.1)

-- whether the exponent is negated, and what is behind its sign
unfoldable pub exponent_sign_of : List ℕ → Bool × List ℕ
exponent_sign_of text = if get_or text 0 0 == 43 then (false, drop 1 text) else minus_of text

-- the number of a text that is digits, at least one
unfoldable pub size_of : List ℕ → Option ℕ
size_of text = if nat_lt 0 (length text) && all_digits text then Some (number text) else None

abbrev pub exponent_with : Bool → Option ℕ → Option (Bool × ℕ)
exponent_with down None = None
exponent_with down (Some size) = Some (down, size)

unfoldable pub exponent_of : List ℕ → Option (Bool × ℕ)
exponent_of text =
    if length text == 0 then Some (false, 0)
    else (if (get_or text 0 0 == 101) || (get_or text 0 0 == 69)
    then exponent_with (exponent_sign_of (drop 1 text)).0 (size_of (exponent_sign_of (drop 1 text)).1)
    else None)

-- a size as it is kept: the largest `u64` where it is larger
abbrev pub capped : ℕ → ℕ
capped n = min n (2 ^ 64 - 1)

abbrev pub capped_exponent : Bool × ℕ → Bool × ℕ
capped_exponent e = (e.0, capped e.1)

pub record Parts : Type 0 where
  pub negative : Bool
  pub whole : List ℕ
  pub fraction : List ℕ
  pub exponent : Bool × ℕ

unfoldable pub with_exponent : Bool → List ℕ → List ℕ → Option (Bool × ℕ) → Option Parts
with_exponent negative whole fraction None = None
with_exponent negative whole fraction (Some e) = Some (record { negative = negative; whole = whole; fraction = fraction; exponent = e })

unfoldable pub with_fraction : Bool → List ℕ → Option (List ℕ × List ℕ) → Option Parts
with_fraction negative whole None = None
with_fraction negative whole (Some r) = with_exponent negative whole r.0 (exponent_of r.1)

unfoldable pub with_whole : Bool → Option (List ℕ × List ℕ) → Option Parts
with_whole negative None = None
with_whole negative (Some r) = with_fraction negative r.0 (fraction_of r.1)

unfoldable pub literal_of : List ℕ → Option Parts
literal_of text = with_whole (minus_of text).0 (whole_of (minus_of text).1)
