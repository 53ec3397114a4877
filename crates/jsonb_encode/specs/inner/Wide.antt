-- What the code keeps of a number literal.
use Rattle.std.specs.Prelude.{◌≡◌, ℕ, ◌+◌, ◌-◌, ◌*◌, ◌/◌, ◌%◌, ◌^◌, ◌<◌, ◌≤◌, ◌++◌, length}
use Rattle.json_model.specs.Decimal.{Decimal}
use Rattle.json_exact.specs.Literal.{AreDigits, number}
use Rattle.jsonb_encode.specs.Number.{magnitude, header}
use Rattle.jsonb_encode.specs.declared.numeral.Numeral.{Numeral}
use Rattle.jsonb_encode.specs.declared.wide_number.WideNumber.{WideNumber}

-- the number that the digits and the zeros make
abbrev pub size : WideNumber → ℕ
size n = number (n.whole.now ++ n.fraction.now) * 10 ^ n.zeros

pub record AreDigitsAndZeros (n : WideNumber) : Type 0 where
  pub whole : AreDigits n.whole.now
  pub fraction : AreDigits n.fraction.now
  pub few : length n.whole.now + length n.fraction.now < 2 ^ 63
  pub zeros : n.zeros < 2 ^ 20

-- a number has so many digits in base 10000
pub record IsCount (count x : ℕ) : Type 0 where
  pub below : x < 10000 ^ count
  pub first : 0 < count → 10000 ^ (count - 1) ≤ x

-- of so many digits in base 10000 these last ones are 0, and not the one before them
pub record AreZeros (zeros count x : ℕ) : Type 0 where
  pub within : zeros ≤ count
  pub all : (i : ℕ) → i < zeros → x / 10000 ^ i % 10000 ≡ 0
  pub next : zeros < count → ¬ (x / 10000 ^ zeros % 10000 ≡ 0)

-- this is kept of a literal that writes w
pub record IsKept (n : Numeral) (w : Decimal) : Type 0 where
  pub digits : AreDigitsAndZeros n.number
  pub size : size n.number ≡ magnitude w
  pub header : n.header ≡ header w
  pub count : IsCount n.count (magnitude w)
  pub zeros : AreZeros n.zeros n.count (magnitude w)
  pub few : n.count < 2 ^ 62
