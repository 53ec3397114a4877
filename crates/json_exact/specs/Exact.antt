-- What contracts see of a `Decimal`: the whole number of parts that it is, of which 10 ^ 16383 make one. This project's
-- own. The number notation itself is that of RFC 8259, section 6.
use Rattle.std.specs.Prelude.{◌≡◌, ℕ, ◌*◌, ◌^◌, ◌<◌, ℤ, pos, ◌*ℤ◌, nat_abs}
use Rattle.json_model.specs.Decimal.{Decimal as Written, HasNarrowDigits}

-- how many parts make one
unfoldable pub parts : ℕ
parts = 10 ^ 16383

-- d parts, written with 16383 fraction digits
unfoldable pub exactly : ℤ → Written
exactly d = record { digits = d; places = 16383 }

-- d parts are what w is worth
abbrev pub IsWorth : ℤ → Written → Type 0
IsWorth d w = d *ℤ pos (10 ^ w.places) ≡ w.digits *ℤ pos parts

-- 10 ^ 131072, in parts
unfoldable pub limit : ℕ
limit = 10 ^ 131072 * parts

-- the limits of each `Decimal` of d parts: at most 38 digits from the first to the last that is not 0, and a magnitude
-- below 10 ^ 131072
pub record IsWithinLimits (d : ℤ) : Type 0 where
  pub narrow : HasNarrowDigits (nat_abs d)
  pub below : nat_abs d < limit
