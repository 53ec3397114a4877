-- A number literal of JSON (RFC 8259, section 6) that is cut into its parts. How large an exponent is kept is this project's own.
use Rattle.std.specs.Prelude.{◌≡◌, ℕ, ◌+◌, ◌-◌, ◌^◌, ◌≤◌, min, List, ◌++◌, length}
use Rattle.json_exact.specs.Literal.{AreDigits, number, placed, IsLiteral}
use Rattle.json_exact.specs.declared.literal_parts.LiteralParts.{LiteralParts}

-- The text is a literal of these parts. An exponent of 2 ^ 64 or more is kept as 2 ^ 64 - 1.
pub record IsCut (text : List ℕ) (p : LiteralParts) : Type 0 where
  pub size : ℕ
  pub literal : IsLiteral text (placed p.negative (number (p.whole.now ++ p.fraction.now)) (length p.fraction.now) p.exponent.down size)
  pub kept : p.exponent.size ≡ min size (2 ^ 64 - 1)
  pub whole_digits : AreDigits p.whole.now
  pub fraction_digits : AreDigits p.fraction.now
  pub within : length p.whole.now + length p.fraction.now ≤ length text
