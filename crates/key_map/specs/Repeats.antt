-- Keys that stand twice in a list. This project's own.
use Rattle.std.specs.Prelude.{◌≡◌, ℕ, ◌<◌, List, length, slice_get}

-- the key at a place stands at an earlier place too
pub record RepeatsAt (keys : List (List ℕ)) (place : ℕ) : Type 0 where
  pub within : place < length keys
  pub earlier : ℕ
  pub before : earlier < place
  pub same : slice_get keys earlier ≡ slice_get keys place

-- the least such place
abbrev pub IsFirstRepeat : List (List ℕ) → ℕ → Type 0
IsFirstRepeat keys place = RepeatsAt keys place × ((q : ℕ) → q < place → RepeatsAt keys q → ⊥)

abbrev pub AreDistinct : List (List ℕ) → Type 0
AreDistinct keys = (place : ℕ) → RepeatsAt keys place → ⊥
