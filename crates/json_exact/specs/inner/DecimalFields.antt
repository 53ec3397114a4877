-- The fields of a `Decimal`, and the parts that they are: eleven groups of four digits, of which the first is not 0, and how
-- many groups the magnitude has when it is written with 4096 groups behind the point. 16384 digits stand in those, one more
-- than the digits of the parts, so the groups write ten times the parts. This project's own.
use Rattle.std.specs.Prelude.{◌≡◌, ℕ, ◌*◌, ◌/◌, ◌^◌, ◌<◌, ◌≤◌, true, List, ℤ}
use Rattle.json_model.specs.Decimal.{HasNarrowDigits, signed}
use Rattle.json_exact.specs.Digits.{joined}
use Rattle.json_exact.specs.inner.LeadingDigits.{Keeps}
use Rattle.json_exact.specs.declared.decimal.Decimal.TheInside.{Inside}

-- the magnitude, in parts
unfoldable pub size_of : List ℕ → ℕ → ℕ
size_of gs top = joined 10000 gs * 10000 ^ top / 10000 ^ 11 / 10

-- the value that contracts see
unfoldable pub parts_of : Inside → ℤ
parts_of a = signed a.negative (size_of a.groups a.top)

-- the groups write a whole number of parts, which is narrow; zero has no sign; the magnitude is below 10 ^ 131072
pub record IsFields (a : Inside) : Type 0 where
  pub worth : (q : ℕ) × Keeps 10000 10 a.groups a.top (q * 10) × HasNarrowDigits q
  pub sign : a.negative ≡ true → 0 < a.top
  pub low : a.top ≤ 36864
