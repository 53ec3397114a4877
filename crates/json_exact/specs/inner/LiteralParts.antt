-- What the code keeps of a literal, and what it answers of it. This project's own.
use Rattle.std.specs.Prelude.{◌≡◌, ℕ, ◌++◌, ℤ, List, length}
use Rattle.json_model.specs.Decimal.{Decimal as Written, IsNarrow}
use Rattle.json_exact.specs.Exact.{IsWorth}
use Rattle.json_exact.specs.Literal.{number}
use Rattle.json_exact.specs.Parsed.{IsInRange, IsNoLiteral, IsTooWide, IsOutOfRange}
use Rattle.json_exact.specs.inner.Reading.{Parts, capped}
use Rattle.json_exact.specs.inner.SignificantDigits.{Holds}
use Rattle.json_exact.specs.declared.literal.Literal.{Literal}
use Rattle.json_exact.specs.declared.number_error.NumberError.{NumberError}
use Rattle.json_exact.specs.declared.number_error.NumberError.TheVariants.{NotANumber, TooWide, OutOfRange}

-- these parts are kept
pub record AreKept (p : Parts) (l : Literal) : Type 0 where
  pub negative : l.negative ≡ p.negative
  pub digits : Holds l.digits (number (p.whole ++ p.fraction))
  pub fraction_digits : l.fraction_digits ≡ length p.fraction
  pub down : l.exponent.down ≡ p.exponent.0
  pub size : l.exponent.size ≡ capped p.exponent.1

-- w, which is narrow and in range, is d parts with so many fraction digits
pub record IsRead (d : ℤ) (places : ℕ) (w : Written) : Type 0 where
  pub narrow : IsNarrow w
  pub in_range : IsInRange w
  pub worth : IsWorth d w
  pub places_are : places ≡ w.places

-- why a literal that writes w is refused
abbrev pub IsFault : NumberError → Written → Type 0
IsFault NotANumber w = ⊥
IsFault TooWide w = ¬ IsNarrow w
IsFault OutOfRange w = IsNarrow w × ¬ IsInRange w

-- why a text is refused
abbrev pub IsRefused : NumberError → List ℕ → Type 0
IsRefused NotANumber text = IsNoLiteral text
IsRefused TooWide text = IsTooWide text
IsRefused OutOfRange text = IsOutOfRange text
