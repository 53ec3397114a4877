-- What the words of a command line ask for. This project's own.
use Rattle.std.specs.Prelude.{◌≡◌, ◌⊎◌, ◌≤◌, ℕ, List, [], ◌∷◌, codes, decimal}

-- no word, or the one word `check`
abbrev pub IsCheck : List (List ℕ) → Type 0
IsCheck words = (words ≡ []) ⊎ (words ≡ codes "check" ∷ [])

-- the one word `check4`
abbrev pub IsCheck4 : List (List ℕ) → Type 0
IsCheck4 words = words ≡ codes "check4" ∷ []

-- the one word `encode`
abbrev pub IsEncode : List (List ℕ) → Type 0
IsEncode words = words ≡ codes "encode" ∷ []

-- the word `make` and a number from 1 to 100000, in decimal digits of which the first is not 0
pub record IsMake (words : List (List ℕ)) (count : ℕ) : Type 0 where
  pub is : words ≡ codes "make" ∷ decimal count ∷ []
  pub some : 1 ≤ count
  pub most : count ≤ 100000

-- the words ask for one of the four
abbrev pub AreGood : List (List ℕ) → Type 0
AreGood words = IsCheck words ⊎ (IsCheck4 words ⊎ (IsEncode words ⊎ ((count : ℕ) × IsMake words count)))
