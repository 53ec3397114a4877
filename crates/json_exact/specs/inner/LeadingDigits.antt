-- The first digits of a number, in any base. This project's own.
use Rattle.std.specs.Prelude.{◌≡◌, ℕ, suc, ◌*◌, ◌^◌, ◌<◌, ◌≤◌, List, length, ◌⊎◌}
use Rattle.json_exact.specs.Digits.{joined, AllBelow}

-- The number n has `len` digits in base b, the first of which is not 0, and those that are not 0 are among the first, of
-- which ds are one and `more`.
pub record Keeps (b more : ℕ) (ds : List ℕ) (len n : ℕ) : Type 0 where
  pub count : length ds ≡ suc more
  pub below : AllBelow b ds
  pub size : n * b ^ suc more ≡ joined b ds * b ^ len
  pub lead : ((len ≡ 0) × (joined b ds ≡ 0)) ⊎ ((0 < len) × (b ^ more ≤ joined b ds))
