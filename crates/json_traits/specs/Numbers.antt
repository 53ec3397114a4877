-- The numbers of trees, and whole values. The notation is that of RFC 8259, section 6.
use Rattle.std.specs.Prelude.{ℤ, pos, unwrap_or}
use Rattle.json_model.specs.Decimal.{Decimal, IsSameValue}
use Rattle.json_model.specs.Tree.{Tree}
use Rattle.json_model.specs.Parts.{as_number}

-- a whole number, written without fraction digits
abbrev pub whole : ℤ → Decimal
whole z = record { digits = z; places = 0 }

-- the number that a tree is, and 0 for another tree
abbrev pub decimal_in : Tree → Decimal
decimal_in t = unwrap_or (as_number t) (whole (pos 0))

-- the value of a decimal is a whole number
abbrev pub IsValue : ℤ → Decimal → Type 0
IsValue z d = IsSameValue d (whole z)
