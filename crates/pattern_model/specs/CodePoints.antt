-- Escapes by number (ECMA-262, section 22.2.1: RegExpUnicodeEscapeSequence).
use Rattle.std.specs.Prelude.{Bool, None, Option, Some, drop, if◌then◌else◌, nat_le, option_and_then, option_map, ℕ, ◌&&◌, ◌*◌, ◌+◌, ◌-◌}
use Rattle.pattern_model.specs.Text.{Text, is_at}
use Rattle.pattern_model.specs.Digits.{hex, hex_to_brace}

abbrev pub if_code_point : ℕ × Text → Option (ℕ × Text)
if_code_point p = if nat_le p.0 1114111 then Some p else None

-- CodePoint and its brace: at least one digit, and at most 10FFFF by value
unfoldable pub code_point : Text → Option (ℕ × Text)
code_point x = if is_at 125 x then None else option_and_then if_code_point (hex_to_brace 0 x)

-- HexLeadSurrogate, HexTrailSurrogate
abbrev pub is_lead : ℕ → Bool
is_lead n = nat_le 55296 n && nat_le n 56319

abbrev pub is_trail : ℕ → Bool
is_trail n = nat_le 56320 n && nat_le n 57343

abbrev pub if_trail : ℕ × Text → Option (ℕ × Text)
if_trail p = if is_trail p.0 then Some p else None

-- `\u` HexTrailSurrogate
unfoldable pub trail : Text → Option (ℕ × Text)
trail x = if is_at 92 x && is_at 117 (drop 1 x) then option_and_then if_trail (hex 4 (drop 2 x)) else None

abbrev pub joined_pair : ℕ → ℕ → ℕ
joined_pair a b = 65536 + (1024 * (a - 55296) + (b - 56320))

abbrev pub with_trail : ℕ × Text → Option (ℕ × Text) → ℕ × Text
with_trail p None = p
with_trail p (Some q) = (joined_pair p.0 q.0, q.1)

-- a lead surrogate and the trail surrogate directly after it are one code point
unfoldable pub paired : ℕ × Text → ℕ × Text
paired p = if is_lead p.0 then with_trail p (trail p.1) else p

-- RegExpUnicodeEscapeSequence, after its `u`
unfoldable pub unicode_escape : Text → Option (ℕ × Text)
unicode_escape x = if is_at 123 x then code_point (drop 1 x) else option_map paired (hex 4 x)
