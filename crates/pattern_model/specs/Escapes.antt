-- Escapes of one character, and class escapes (ECMA-262, section 22.2.1: CharacterEscape, CharacterClassEscape).
use Rattle.std.specs.Prelude.{None, Option, Some, [], if◌then◌else◌, ℕ, ◌%◌, ◌==◌, ◌∷◌}
use Rattle.pattern_model.specs.Text.{Text}
use Rattle.pattern_model.specs.Digits.{digit_at, hex}
use Rattle.pattern_model.specs.CodePoints.{unicode_escape}
use Rattle.pattern_model.specs.Letters.{is_alphanumeric, is_ascii_letter}
use Rattle.pattern_model.specs.Tree.{Escape}

-- `c` AsciiLetter, after its `c`: the letter's code modulo 32
unfoldable pub control : Text → Option (ℕ × Text)
control [] = None
control (c ∷ x) = if is_ascii_letter c then Some (c % 32, x) else None

-- IdentityEscape, here wider: any character that is not alphanumeric
abbrev pub itself : ℕ → Text → Option (ℕ × Text)
itself c x = if is_alphanumeric c then None else Some (c, x)

-- CharacterEscape, after its backslash: the character that follows it, and the text after that
unfoldable pub character_escape : ℕ → Text → Option (ℕ × Text)
character_escape c x =
    if c == 102 then Some (12, x)
    else if c == 110 then Some (10, x)
    else if c == 114 then Some (13, x)
    else if c == 116 then Some (9, x)
    else if c == 118 then Some (11, x)
    else if c == 99 then control x
    else if c == 48 then (if digit_at x then None else Some (0, x))
    else if c == 120 then hex 2 x
    else if c == 117 then unicode_escape x
    else itself c x

-- CharacterClassEscape, after its backslash
unfoldable pub class_escape : ℕ → Option Escape
class_escape c =
    if c == 100 then Some Escape.digit
    else if c == 68 then Some Escape.not_digit
    else if c == 115 then Some Escape.space
    else if c == 83 then Some Escape.not_space
    else if c == 119 then Some Escape.word
    else if c == 87 then Some Escape.not_word
    else None
