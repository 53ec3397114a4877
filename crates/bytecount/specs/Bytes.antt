-- How UTF-8 marks its bytes: RFC 3629, section 3.
use Rattle.std.specs.Prelude.{ℕ, Bool, ◌/◌, ◌==◌, not}

-- the byte is not a continuation byte: its top two bits are not 10
abbrev pub begins_char : ℕ → Bool
begins_char b = not (b / 64 == 2)
