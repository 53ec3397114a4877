-- The hash of bytes.
use Rattle.std.proofs.Common.{◌≡◌, ℕ, List, [], ◌∷◌, ◌++◌, refl}
use Rattle.json_elements.specs.Number.{fed, fed_one}

-- the bytes of two lists, one after the other
pub fed_append : (s : ℕ) (us bs : List ℕ) → fed s (us ++ bs) ≡ fed (fed s us) bs
fed_append s [] bs = refl
fed_append s (u ∷ us) bs = fed_append (fed_one s u) us bs
