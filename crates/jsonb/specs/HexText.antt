-- Base 16 (RFC 4648, section 8), read in either case.
use Rattle.std.specs.Prelude.{◌≡◌, ℕ, ◌/◌, ◌%◌, ◌<◌, List, [], ◌∷◌, length, slice_index, take, Some, false}
use Rattle.std.specs.List.{AllPass}
use Rattle.hex.specs.Hex.{hex_digit_value, is_hex_digit}

-- two digits stand for one byte, the first for its high four bits
abbrev pub IsHexPair : ℕ → ℕ → ℕ → Type 0
IsHexPair first second byte =
    (hex_digit_value first ≡ Some (byte / 16)) × (hex_digit_value second ≡ Some (byte % 16))

-- the text is two digits for each of the bytes
abbrev pub IsHexText : List ℕ → List ℕ → Type 0
IsHexText [] [] = Unit {0}
IsHexText (first ∷ second ∷ text) (byte ∷ bytes) = IsHexPair first second byte × IsHexText text bytes
IsHexText _ _ = ⊥

-- the text has an even length, and its first byte that is no digit stands at this place
pub record IsFirstNotHex (text : List ℕ) (place : ℕ) : Type 0 where
  pub even : length text % 2 ≡ 0
  pub within : place < length text
  pub digits : AllPass is_hex_digit (take place text)
  pub here : is_hex_digit (slice_index text place) ≡ false
