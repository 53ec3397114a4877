-- The header of a stored value, as it is read.
use Rattle.std.specs.Prelude.{ℕ, ◌/◌, ◌%◌, ◌==◌, ◌&&◌, nat_le, List, [], ◌∷◌, length, take, slice_range, Result, Ok, Err, if◌then◌else◌}
use Rattle.std.specs.Int.{w32, from_le_bytes}
use Rattle.jsonb_encode.specs.declared.varlena.VarlenaError.{VarlenaError}
use Rattle.jsonb_encode.specs.declared.varlena.VarlenaError.TheVariants.{External, Compressed, Short}

abbrev pub behind_header : ℕ → ℕ → List ℕ → Result (List ℕ) VarlenaError
behind_header header size bytes =
    if nat_le header (length bytes) && nat_le header size && nat_le size (length bytes) then Ok (slice_range bytes header size) else Err Short

unfoldable pub stripped : List ℕ → Result (List ℕ) VarlenaError
stripped [] = Err Short
stripped (first ∷ bytes) =
    if first == 1 then Err External
    else (if first % 2 == 1 then behind_header 1 (first / 2) (first ∷ bytes)
    else (if first % 4 == 2 then Err Compressed
    else behind_header 4 (from_le_bytes w32 (take 4 (first ∷ bytes)) / 4) (first ∷ bytes)))
