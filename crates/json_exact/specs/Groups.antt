-- Groups of four decimal digits, as PostgreSQL's `numeric` stores them (NBASE is 10000): two bytes each, the lower first.
use Rattle.std.specs.Prelude.{◌≡◌, ℕ, ◌+◌, ◌*◌, ◌^◌, ◌<◌, List, [], ◌∷◌, length, ℤ, pos, ◌+ℤ◌, nat_abs}
use Rattle.json_exact.specs.Exact.{parts}
use Rattle.json_exact.specs.Digits.{joined}

-- the groups that bytes hold
abbrev pub groups_of : List ℕ → List ℕ
groups_of [] = []
groups_of (low ∷ []) = []
groups_of (low ∷ high ∷ bytes) = (low + 256 * high) ∷ groups_of bytes

-- whole groups, each below 10000
abbrev pub AreGroups : List ℕ → Type 0
AreGroups [] = Unit {0}
AreGroups (low ∷ []) = ⊥
AreGroups (low ∷ high ∷ bytes) = (low + 256 * high < 10000) × AreGroups bytes

-- how far a weight, which is at least -2 ^ 15, lies above the least
abbrev pub lifted : ℤ → ℕ
lifted weight = nat_abs (weight +ℤ pos (2 ^ 15))

-- q parts are the sum of group i times 10000 ^ (weight - i). That sum is `joined 10000 gs` times
-- 10000 ^ (weight + 1 - length gs), and both sides are raised by 10000 ^ (length gs + 2 ^ 15), so that no exponent is negative.
abbrev pub AreWorth : ℤ → List ℕ → ℕ → Type 0
AreWorth weight gs q = q * 10000 ^ (length gs + 2 ^ 15) ≡ parts * (joined 10000 gs * 10000 ^ (lifted weight + 1))
