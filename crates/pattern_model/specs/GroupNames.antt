-- Names of groups (ECMA-262, section 22.2.1: GroupSpecifier, GroupName, RegExpIdentifierName).
use Rattle.std.specs.Prelude.{Bool, None, Option, Some, [], drop, encode_utf8, if◌then◌else◌, nat_lt, option_and_then, option_map, ℕ, ◌==◌, ◌||◌, ◌∷◌}
use Rattle.ucd_derived.specs.Binary.{is_alphabetic}
use Rattle.pattern_model.specs.Text.{Text, is_at, with_front, many}
use Rattle.pattern_model.specs.CodePoints.{unicode_escape}
use Rattle.pattern_model.specs.Letters.{is_alphanumeric}
use Rattle.pattern_model.specs.Tree.{Name}

-- the characters of a name: as written, or by a `\u` escape of a scalar value
abbrev pub is_scalar : ℕ → Bool
is_scalar n = nat_lt n 55296 || nat_lt 57343 n

abbrev pub if_scalar : ℕ × Text → Option (ℕ × Text)
if_scalar p = if is_scalar p.0 then Some p else None

unfoldable pub name_character : Text → Option (ℕ × Text)
name_character [] = None
name_character (c ∷ x) =
    if c == 92 then (if is_at 117 x then option_and_then if_scalar (unicode_escape (drop 1 x)) else None)
    else Some (c, x)

-- RegExpIdentifierStart, RegExpIdentifierPart, here by letters and alphanumeric characters
abbrev pub starts_name : ℕ → Bool
starts_name c = is_alphabetic c || (c == 36 || c == 95)

abbrev pub goes_on_name : ℕ → Bool
goes_on_name c = is_alphanumeric c || ((c == 36 || c == 95) || (c == 8204 || c == 8205))

abbrev pub if_part : (ℕ → Bool) → ℕ × Text → Option (Name × Text)
if_part test p = if test p.0 then Some (encode_utf8 p.0, p.1) else None

unfoldable pub name_start : Text → Option (Name × Text)
name_start x = option_and_then (if_part starts_name) (name_character x)

unfoldable pub name_part : Text → Option (Name × Text)
name_part x = option_and_then (if_part goes_on_name) (name_character x)

unfoldable pub name_parts : Text → Option (Name × Text)
name_parts x = many (is_at 62) name_part x

abbrev pub past_bracket : Name × Text → Name × Text
past_bracket p = (p.0, drop 1 p.1)

-- RegExpIdentifierName and its closing bracket
unfoldable pub name : Text → Option (Name × Text)
name x = option_map past_bracket (option_and_then (λ p. with_front p.0 (name_parts p.1)) (name_start x))
