-- Digits and their values (ECMA-262, section 12.9.3: DecimalDigit, HexDigit).
use Rattle.std.specs.Prelude.{Bool, None, Option, Some, [], false, if◌then◌else◌, nat_le, option_and_then, option_map, suc, zero, ℕ, ◌&&◌, ◌*◌, ◌+◌, ◌-◌, ◌==◌, ◌∷◌}
use Rattle.pattern_model.specs.Text.{Text}

-- DecimalDigit, HexDigit
abbrev pub is_digit : ℕ → Bool
is_digit c = nat_le 48 c && nat_le c 57

abbrev pub digit_at : Text → Bool
digit_at [] = false
digit_at (c ∷ x) = is_digit c

abbrev pub hex_value : ℕ → Option ℕ
hex_value c =
    if is_digit c then Some (c - 48)
    else if nat_le 65 c && nat_le c 70 then Some (c - 55)
    else if nat_le 97 c && nat_le c 102 then Some (c - 87)
    else None

-- DecimalDigits: all the digits that stand here, and their value over what stood before them
abbrev pub digits_from : ℕ → Text → ℕ × Text
digits_from n [] = (n, [])
digits_from n (c ∷ x) = if is_digit c then digits_from (10 * n + (c - 48)) x else (n, c ∷ x)

unfoldable pub digits : Text → ℕ × Text
digits x = digits_from 0 x

-- one hex digit more
abbrev pub hex_step : ℕ → Text → Option (ℕ × Text)
hex_step n [] = None
hex_step n (c ∷ x) = option_map (λ d. (16 * n + d, x)) (hex_value c)

-- so many hex digits, and their value over what stood before them
abbrev pub hex_from : ℕ → ℕ → Text → Option (ℕ × Text)
hex_from zero n x = Some (n, x)
hex_from (suc k) n x = option_and_then (λ p. hex_from k p.0 p.1) (hex_step n x)

unfoldable pub hex : ℕ → Text → Option (ℕ × Text)
hex k x = hex_from k 0 x

-- hex digits up to a closing brace
abbrev pub hex_to_brace : ℕ → Text → Option (ℕ × Text)
hex_to_brace n [] = None
hex_to_brace n (c ∷ x) = if c == 125 then Some (n, x) else option_and_then (λ d. hex_to_brace (16 * n + d) x) (hex_value c)
