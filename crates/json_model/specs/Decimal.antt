-- Decimals as they are written: the number notation of RFC 8259, section 6, with its fraction digits counted.
-- That a narrow decimal has at most 38 digits is this project's own limit.
use Rattle.std.specs.Prelude.{◌≡◌, ℕ, ◌+◌, ◌*◌, ◌^◌, ◌<◌, Bool, ℤ, pos, neg_ℤ, ◌*ℤ◌, ◌<ℤ◌, nat_abs, if◌then◌else◌}

-- the value is digits / 10 ^ places, and places counts the fraction digits that are written
pub record Decimal : Type 0 where
  pub digits : ℤ
  pub places : ℕ

-- n, or its negation
abbrev pub signed : Bool → ℕ → ℤ
signed negative n = if negative then neg_ℤ (pos n) else pos n

abbrev pub IsSameValue : Decimal → Decimal → Type 0
IsSameValue a b = a.digits *ℤ pos (10 ^ b.places) ≡ b.digits *ℤ pos (10 ^ a.places)

abbrev pub IsBelow : Decimal → Decimal → Type 0
IsBelow a b = (a.digits *ℤ pos (10 ^ b.places)) <ℤ (b.digits *ℤ pos (10 ^ a.places))

abbrev pub IsWhole : Decimal → Type 0
IsWhole a = (k : ℤ) × (a.digits ≡ k *ℤ pos (10 ^ a.places))

-- at most 38 digits from the first to the last that is not 0
abbrev pub HasNarrowDigits : ℕ → Type 0
HasNarrowDigits n = (b k : ℕ) × (n ≡ k * 10 ^ b) × (n < 10 ^ (38 + b))

abbrev pub IsNarrow : Decimal → Type 0
IsNarrow a = HasNarrowDigits (nat_abs a.digits)
