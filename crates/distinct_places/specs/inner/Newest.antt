-- Which of the places before one has a number, and which were not compared yet.
use Rattle.std.specs.Prelude.{◌≡◌, ◌≢◌, ◌<◌, ℕ, List, Option, MatchOption, slice_index}

-- o is the newest place before k that has the number h
abbrev pub IsNewest : List ℕ → ℕ → ℕ → Option ℕ → Type 0
IsNewest numbers k h o = MatchOption o
    ((j : ℕ) → j < k → slice_index numbers j ≢ h)
    (λ p. (p < k) × (slice_index numbers p ≡ h) × ((j : ℕ) → p < j → j < k → slice_index numbers j ≢ h))

-- no place before k holds the same as k, but for those up to o that are still to be compared
abbrev pub IsLeft : (ℕ → ℕ → Type 0) → List ℕ → ℕ → Option ℕ → Type 0
IsLeft same numbers k o = MatchOption o
    ((j : ℕ) → j < k → same j k → ⊥)
    (λ p. (p < k) × (slice_index numbers p ≡ slice_index numbers k) × ((j : ℕ) → p < j → j < k → same j k → ⊥))
