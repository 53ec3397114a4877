-- Places that do not hold the same. This project's own.
use Rattle.std.specs.Prelude.{◌≡◌, ◌<◌, ℕ, List, length, slice_index}

-- no place before k holds the same as k
abbrev pub IsApart : (ℕ → ℕ → Type 0) → ℕ → Type 0
IsApart same k = (j : ℕ) → j < k → same j k → ⊥

-- no two of the first n places hold the same
abbrev pub AreApart : (ℕ → ℕ → Type 0) → ℕ → Type 0
AreApart same n = (k : ℕ) → k < n → IsApart same k

-- places that hold the same have the same number
abbrev pub AreNumbered : (ℕ → ℕ → Type 0) → List ℕ → Type 0
AreNumbered same numbers =
    (j k : ℕ) → j < k → k < length numbers → same j k → slice_index numbers j ≡ slice_index numbers k
