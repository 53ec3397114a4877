-- The piece at a place, by an entry word whose bits of a kind count as length. A word with a length is the length itself. A word with a
-- sum is 2^31 and the sum.
use Rattle.std.specs.Prelude.{ℕ, ◌+◌, ◌-◌, ◌%◌, ◌^◌, ◌==◌, nat_le, List, length, take, drop, Option, Some, if◌then◌else◌}
use Rattle.jsonb_layout.specs.Options.{◌>>=◌, only_if}
use Rattle.jsonb_layout.specs.inner.Reading.{Place}

-- the length that a word gives, by the number of its item and the bytes in front
unfoldable pub length_in : ℕ → ℕ → ℕ → Option ℕ
length_in index at word = if index % 32 == 0 then only_if (nat_le (2 ^ 31 + at) word) (Some (word - (2 ^ 31 + at))) else Some word

-- the piece, and the place behind it
abbrev pub piece_with : ℕ → Place → Option (List ℕ × Place)
piece_with word p =
    length_in p.index p.at word >>= λ len.
    only_if (nat_le len (length p.rest)) (Some (
      take len p.rest,
      record { index = p.index + 1; at = p.at + len; words = drop 4 p.words; rest = drop len p.rest },
    ))
