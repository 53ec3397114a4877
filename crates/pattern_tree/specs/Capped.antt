-- Numbers that are exact below 2^32.
use Rattle.std.specs.Prelude.{◌≡◌, ℕ, ◌+◌, ◌<◌, ◌≤◌, [], ◌∷◌, if◌then◌else◌, ◌⊎◌}
use Rattle.pattern_model.specs.Text.{Text}
use Rattle.pattern_model.specs.Digits.{is_digit}

-- the number is n, or both are 2^32 or more
abbrev pub IsCapped : ℕ → ℕ → Type 0
IsCapped number n = ((number < 4294967296) × (number ≡ n)) ⊎ ((4294967296 ≤ number) × (number < 42949672960) × (4294967296 ≤ n))

-- how many digits a text begins with
abbrev pub run : Text → ℕ
run [] = 0
run (c ∷ x) = if is_digit c then run x + 1 else 0
