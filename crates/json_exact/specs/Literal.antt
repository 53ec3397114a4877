-- The number literals of JSON, and what each writes: RFC 8259, section 6. Texts are lists of bytes.
use Rattle.std.specs.Prelude.{◌≡◌, ℕ, ◌+◌, ◌-◌, ◌*◌, ◌^◌, ◌<◌, ◌≤◌, Bool, true, false, List, [], ◌∷◌, ◌++◌, map, length, ◌⊎◌, if◌then◌else◌}
use Rattle.json_model.specs.Decimal.{Decimal as Written, signed}
use Rattle.json_exact.specs.Digits.{joined}

abbrev pub IsDigit : ℕ → Type 0
IsDigit c = (48 ≤ c) × (c ≤ 57)

abbrev pub AreDigits : List ℕ → Type 0
AreDigits [] = Unit {0}
AreDigits (c ∷ cs) = IsDigit c × AreDigits cs

-- the number that digits write
abbrev pub number : List ℕ → ℕ
number cs = joined 10 (map (λ c. c - 48) cs)

-- nothing, or `-`
abbrev pub IsMinus : List ℕ → Bool → Type 0
IsMinus text negative = ((text ≡ []) × (negative ≡ false)) ⊎ ((text ≡ 45 ∷ []) × (negative ≡ true))

-- `0`, or digits that do not begin with `0`
abbrev pub IsWholePart : List ℕ → Type 0
IsWholePart [] = ⊥
IsWholePart (c ∷ cs) = IsDigit c × AreDigits cs × (c ≡ 48 → cs ≡ [])

-- nothing, or `.` and digits, at least one
abbrev pub IsFraction : List ℕ → List ℕ → Type 0
IsFraction text digits = ((text ≡ []) × (digits ≡ [])) ⊎ ((text ≡ 46 ∷ digits) × AreDigits digits × (0 < length digits))

-- nothing, `+` or `-`
abbrev pub IsExponentSign : List ℕ → Bool → Type 0
IsExponentSign text down = ((text ≡ 43 ∷ []) × (down ≡ false)) ⊎ IsMinus text down

-- `e` or `E`, a sign, and digits, at least one
pub record IsWrittenExponent (text : List ℕ) (down : Bool) (size : ℕ) : Type 0 where
  pub letter : ℕ
  pub sign : List ℕ
  pub digits : List ℕ
  pub text_is : text ≡ letter ∷ (sign ++ digits)
  pub letter_is : (letter ≡ 101) ⊎ (letter ≡ 69)
  pub sign_is : IsExponentSign sign down
  pub digits_are : AreDigits digits
  pub some : 0 < length digits
  pub size_is : size ≡ number digits

-- nothing, which is the exponent 0, or a written exponent; `down` says that it is negated
abbrev pub IsExponent : List ℕ → Bool → ℕ → Type 0
IsExponent text down size = ((text ≡ []) × (down ≡ false) × (size ≡ 0)) ⊎ IsWrittenExponent text down size

-- The number n, of whose digits `count` stand behind the point, under an exponent. The fraction digits that are written are
-- those less the exponent, and never below 0.
abbrev pub placed : Bool → ℕ → ℕ → Bool → ℕ → Written
placed negative n count down size = record {
  digits = signed negative (n * 10 ^ (if down then 0 else size - count));
  places = if down then count + size else count - size;
}

-- the text is a literal, and w is what it writes
pub record IsLiteral (text : List ℕ) (w : Written) : Type 0 where
  pub minus : List ℕ
  pub negative : Bool
  pub whole : List ℕ
  pub fraction : List ℕ
  pub digits : List ℕ
  pub exponent : List ℕ
  pub down : Bool
  pub size : ℕ
  pub text_is : text ≡ minus ++ (whole ++ (fraction ++ exponent))
  pub minus_is : IsMinus minus negative
  pub whole_is : IsWholePart whole
  pub fraction_is : IsFraction fraction digits
  pub exponent_is : IsExponent exponent down size
  pub written_is : w ≡ placed negative (number (whole ++ digits)) (length digits) down size
