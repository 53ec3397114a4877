-- Property escapes (ECMA-262, section 22.2.1: UnicodePropertyValueExpression). Only the shape is asked, not whether there is
-- such a property: that is this project's own.
use Rattle.std.specs.Prelude.{Bool, None, Option, Some, [], drop, false, if◌then◌else◌, option_and_then, ℕ, ◌==◌, ◌||◌, ◌∷◌}
use Rattle.pattern_model.specs.Text.{Text, is_at, past}
use Rattle.pattern_model.specs.Digits.{is_digit}
use Rattle.pattern_model.specs.Letters.{is_ascii_letter}

-- UnicodePropertyNameCharacters, which have no digits, here wider: as UnicodePropertyValueCharacters, letters, digits and `_`
abbrev pub is_word : ℕ → Bool
is_word c = is_ascii_letter c || (is_digit c || c == 95)

abbrev pub word_at : Text → Bool
word_at [] = false
word_at (c ∷ x) = is_word c

abbrev pub past_word : Text → Text
past_word [] = []
past_word (c ∷ x) = if is_word c then past_word x else c ∷ x

-- what follows a word, which has at least one character
unfoldable pub word : Text → Option Text
word x = if word_at x then Some (past_word x) else None

-- UnicodePropertyValueExpression and its brace: a word, or a word, `=` and a word
abbrev pub property_end : Text → Option Text
property_end x = if is_at 61 x then option_and_then (past 125) (word (drop 1 x)) else past 125 x

unfoldable pub past_property : Text → Option Text
past_property x = if is_at 123 x then option_and_then property_end (word (drop 1 x)) else None
