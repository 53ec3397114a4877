-- Quantifiers (ECMA-262, section 22.2.1: Quantifier, QuantifierPrefix), and the early error on a least count above the
-- greatest (section 22.2.1.1).
use Rattle.std.specs.Prelude.{None, Option, Some, drop, false, if◌then◌else◌, nat_le, true, ℕ, ◌&&◌}
use Rattle.pattern_model.specs.Text.{Text, is_at}
use Rattle.pattern_model.specs.Digits.{digit_at, digits}
use Rattle.pattern_model.specs.Tree.{Count, Token, count_of}

-- Quantifier: a question mark makes it lazy
unfoldable pub quantifier : Count → Option Count → Text → Token × Text
quantifier least most x =
    if is_at 63 x then (Token.times (record { least = least; most = most; lazy = true }), drop 1 x)
    else (Token.times (record { least = least; most = most; lazy = false }), x)

-- the greatest count and the closing brace, over a least count of this value
abbrev pub most_from : ℕ → ℕ × Text → Option (Token × Text)
most_from n p =
    if nat_le n p.0 && is_at 125 p.1 then Some (quantifier (count_of n) (Some (count_of p.0)) (drop 1 p.1)) else None

-- after the comma
unfoldable pub after_comma : ℕ → Text → Option (Token × Text)
after_comma n x =
    if is_at 125 x then Some (quantifier (count_of n) None (drop 1 x))
    else if digit_at x then most_from n (digits x)
    else None

abbrev pub least_from : ℕ × Text → Option (Token × Text)
least_from p =
    if is_at 125 p.1 then Some (quantifier (count_of p.0) (Some (count_of p.0)) (drop 1 p.1))
    else if is_at 44 p.1 then after_comma p.0 (drop 1 p.1)
    else None

-- QuantifierPrefix in braces, after its opening brace
unfoldable pub braces : Text → Option (Token × Text)
braces x = if digit_at x then least_from (digits x) else None
