-- How many bytes pass a test, as the lanes of a vector and the bytes of a word count them: this project's own.
use Rattle.std.specs.Prelude.{ℕ, Bool, List, ◌≡◌, ◌≤◌, ◌<◌, if◌then◌else◌, length, count_by}
use Rattle.std.specs.Simd.Lanes.{Each1, sum_l, number_l}

-- 1 for a byte that passes, else 0
abbrev pub mark : (ℕ → Bool) → ℕ → ℕ
mark p b = if p b then 1 else 0

-- n lanes, none of them above most, that add up to how many of the bytes pass
pub record Tallies (p : ℕ → Bool) (n most : ℕ) (bytes lanes : List ℕ) : Type 0 where
  pub long : length lanes ≡ n
  pub each : Each1 (λ lane. lane ≤ most) lanes
  pub total : sum_l lanes ≡ count_by p bytes

-- the word of 64 bits whose eight bytes these are, the lowest first
pub record IsWord (bytes : List ℕ) (word : ℕ) : Type 0 where
  pub long : length bytes ≡ 8
  pub each : Each1 (λ byte. byte < 256) bytes
  pub value : word ≡ number_l 256 bytes

-- a word whose bytes are eight lanes that add up to how many of the bytes pass
pub record WordTallies (p : ℕ → Bool) (most : ℕ) (bytes : List ℕ) (word : ℕ) : Type 0 where
  pub lanes : List ℕ
  pub tallies : Tallies p 8 most bytes lanes
  pub value : word ≡ number_l 256 lanes
