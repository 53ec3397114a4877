-- The groups of four digits of a magnitude, at places that count from the point: place 0 holds the ones, place 1 the ten
-- thousands, place -1 the first four fraction digits. PostgreSQL's `numeric` calls the greatest place the weight.
-- The definitions are this project's own.
use Rattle.std.specs.Prelude.{◌≡◌, ℕ, suc, ◌*◌, ◌/◌, ◌%◌, ◌^◌, ℤ, pos, negsuc, ◌+ℤ◌, ◌<ℤ◌}
use Rattle.json_exact.specs.Exact.{parts}

-- the group at a place: n parts, divided by 10000 ^ place, rounded down, modulo 10000
abbrev pub group : ℤ → ℕ → ℕ
group (pos k) n = n / (parts * 10000 ^ k) % 10000
group (negsuc k) n = n * 10000 ^ suc k / parts % 10000

-- the greatest place whose group is not 0
pub record IsGreatestPlace (n : ℕ) (place : ℤ) : Type 0 where
  pub some : ¬ (group place n ≡ 0)
  pub none_above : (p : ℤ) → place <ℤ p → group p n ≡ 0

-- the least place whose group is not 0
pub record IsLeastPlace (n : ℕ) (place : ℤ) : Type 0 where
  pub some : ¬ (group place n ≡ 0)
  pub none_below : (p : ℤ) → p <ℤ place → group p n ≡ 0

-- n parts are mantissa * 10 ^ exponent. Both sides are raised by 10 ^ up, so that no exponent is negative.
abbrev pub IsScaled : ℕ → ℕ → ℤ → Type 0
IsScaled n mantissa exponent = (up l : ℕ) → exponent +ℤ pos up ≡ pos l → n * 10 ^ up ≡ mantissa * parts * 10 ^ l
