-- Many documents, which stand one behind another. This project's own.
use Rattle.std.specs.Prelude.{ℕ, ◌≡◌, ◌≤◌, ◌+◌, List, length, slice_range, slice_index_or}
use Rattle.judge_c.specs.Codes.{bad_offsets}

-- the bytes from the one offset to the other are there
pub record AreThere (documents : List ℕ) (from to : ℕ) : Type 0 where
  pub ordered : from ≤ to
  pub within : to ≤ length documents

-- the code for the bytes from the one offset to the other, which may not be there; a document has the codes that `HasCode` says
pub record IsCoded (HasCode : List ℕ → ℕ → Type 0) (documents : List ℕ) (from to code : ℕ) : Type 0 where
  pub there : AreThere documents from to → HasCode (slice_range documents from to) code
  pub absent : (AreThere documents from to → ⊥) → code ≡ bad_offsets

-- document number i, from its offset to the next one, has its code at place i
abbrev pub IsCodedAt : (List ℕ → ℕ → Type 0) → List ℕ → List ℕ → List ℕ → ℕ → Type 0
IsCodedAt HasCode documents offsets codes i =
    IsCoded HasCode documents (slice_index_or offsets i 0) (slice_index_or offsets (i + 1) 0) (slice_index_or codes i 0)
