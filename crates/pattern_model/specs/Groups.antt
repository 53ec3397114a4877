-- How a group opens (ECMA-262, section 22.2.1: Atom, Assertion, GroupSpecifier, RegularExpressionModifiers).
use Rattle.std.specs.Prelude.{Bool, None, Option, Some, [], drop, if◌then◌else◌, not, option_and_then, option_map, true, ℕ, ◌&&◌, ◌==◌, ◌||◌, ◌∷◌}
use Rattle.std.specs.List.{list_all, list_any}
use Rattle.pattern_model.specs.Text.{Text, is_at, with_front}
use Rattle.pattern_model.specs.GroupNames.{name}
use Rattle.pattern_model.specs.Tree.{Mark, Token}

-- the characters before the first colon, and what follows it
abbrev pub to_colon : Text → Option (Text × Text)
to_colon [] = None
to_colon (c ∷ x) = if c == 58 then Some ([], x) else with_front (c ∷ []) (to_colon x)

-- RegularExpressionModifier
abbrev pub is_modifier : ℕ → Bool
is_modifier c = c == 105 || (c == 109 || c == 115)

abbrev pub has : ℕ → Text → Bool
has c x = list_any (λ d. d == c) x

-- the character stands there at most once
abbrev pub is_once : ℕ → Text → Bool
is_once c [] = true
is_once c (d ∷ x) = if d == c then not (has c x) else is_once c x

-- RegularExpressionModifiers, or two of them with a hyphen between: `i`, `m`, `s` and `-`, none of them twice, and not the
-- hyphen alone (the early errors of section 22.2.1.1)
abbrev pub are_modifiers : Text → Bool
are_modifiers x =
    list_all (λ c. is_modifier c || c == 45) x
    && (list_any is_modifier x && (is_once 105 x && (is_once 109 x && (is_once 115 x && is_once 45 x))))

abbrev pub if_modifiers : Text × Text → Option Text
if_modifiers p = if are_modifiers p.0 then Some p.1 else None

-- what follows modifiers and their colon
unfoldable pub flags : Text → Option Text
flags x = option_and_then if_modifiers (to_colon x)

abbrev pub opens : Mark → Text → Token × Text
opens m x = (Token.opens m, x)

-- after `(?<`
unfoldable pub bracketed : Text → Option (Token × Text)
bracketed x =
    if is_at 61 x then Some (opens Mark.behind (drop 1 x))
    else if is_at 33 x then Some (opens Mark.not_behind (drop 1 x))
    else option_map (λ p. opens (Mark.named p.0) p.1) (name x)

-- after `(?`
unfoldable pub marked : Text → Option (Token × Text)
marked x =
    if is_at 58 x then Some (opens Mark.plain (drop 1 x))
    else if is_at 61 x then Some (opens Mark.ahead (drop 1 x))
    else if is_at 33 x then Some (opens Mark.not_ahead (drop 1 x))
    else if is_at 60 x then bracketed (drop 1 x)
    else option_map (opens Mark.modified) (flags x)

-- after the parenthesis of a group
unfoldable pub opening : Text → Option (Token × Text)
opening x = if is_at 63 x then marked (drop 1 x) else Some (opens Mark.capture x)
