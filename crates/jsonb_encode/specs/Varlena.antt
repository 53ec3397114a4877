-- The header of a stored value (PostgreSQL, `varatt.h`), on a machine with low bytes first, as a table by the first byte. The
-- size that a header holds counts the header too. Which slices are refused is this project's own.
use Rattle.std.specs.Prelude.{◌≡◌, ◌⊎◌, ℕ, ◌/◌, ◌%◌, ◌≤◌, List, [], ◌∷◌, length, take, slice_range, Result, Ok, Err}
use Rattle.std.specs.Int.{w32, from_le_bytes}
use Rattle.jsonb_encode.specs.declared.varlena.VarlenaError.{VarlenaError}
use Rattle.jsonb_encode.specs.declared.varlena.VarlenaError.TheVariants.{External, Compressed, Short}

-- The answer is what is behind a header of so many bytes, up to the size. It is `Short` where the size is less than the header's
-- length or more than that of the bytes.
abbrev pub IsBehind : ℕ → ℕ → List ℕ → Result (List ℕ) VarlenaError → Type 0
IsBehind header size bytes (Ok value) = (header ≤ size) × (size ≤ length bytes) × (value ≡ slice_range bytes header size)
IsBehind header size bytes (Err e) = (e ≡ Short) × (header ≤ size → size ≤ length bytes → ⊥)

-- `VARATT_IS_1B_E`: the first byte is 1, and the value is kept elsewhere
abbrev pub IsKeptElsewhere : ℕ → Type 0
IsKeptElsewhere first = first ≡ 1

-- `VARATT_IS_1B`, but for the first byte 1: the lowest bit is 1, and the upper seven bits of this one byte are the size
abbrev pub HasOneByteHeader : ℕ → Type 0
HasOneByteHeader first = (first % 2 ≡ 1) × (first ≡ 1 → ⊥)

-- `VARATT_IS_4B_C`: the two lowest bits are 10, and the value is compressed
abbrev pub IsCompressed : ℕ → Type 0
IsCompressed first = first % 4 ≡ 2

-- `VARATT_IS_4B_U`: the two lowest bits are 00, and the upper thirty bits of the word of four bytes are the size
abbrev pub HasFourByteHeader : ℕ → Type 0
HasFourByteHeader first = first % 4 ≡ 0

-- the answer for a stored value: of the four rows one alone speaks of its first byte
abbrev pub IsStripped : List ℕ → Result (List ℕ) VarlenaError → Type 0
IsStripped [] answer = answer ≡ Err Short
IsStripped (first ∷ rest) answer =
    (IsKeptElsewhere first × (answer ≡ Err External))
    ⊎ ((HasOneByteHeader first × IsBehind 1 (first / 2) (first ∷ rest) answer)
    ⊎ ((IsCompressed first × (answer ≡ Err Compressed))
    ⊎ (HasFourByteHeader first × IsBehind 4 (from_le_bytes w32 (take 4 (first ∷ rest)) / 4) (first ∷ rest) answer)))
