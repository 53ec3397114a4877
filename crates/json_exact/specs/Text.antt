-- Plain decimal notation, as ASCII: the number notation of RFC 8259, section 6, without an exponent.
use Rattle.std.specs.Prelude.{ℕ, ◌+◌, ◌/◌, ◌%◌, ◌^◌, ◌==◌, max, List, [], ◌∷◌, ◌++◌, map, ℤ, pos, nat_abs, int_lt, if◌then◌else◌}
use Rattle.json_model.specs.Decimal.{Decimal as Written}
use Rattle.json_exact.specs.Digits.{spread, count}

-- the last k digits of n, as characters
abbrev pub digits_text : ℕ → ℕ → List ℕ
digits_text k n = map (λ d. 48 + d) (spread 10 k (n % 10 ^ k))

-- `-` before a value below zero
abbrev pub sign_text : ℤ → List ℕ
sign_text d = if int_lt d (pos 0) then 45 ∷ [] else []

-- all digits of n, none leading; `0` where n is 0
abbrev pub whole_text : ℕ → List ℕ
whole_text n = digits_text (max 1 (count n)) n

-- the point, and the last `places` digits of n; nothing where there are none to write
abbrev pub fraction_text : ℕ → ℕ → List ℕ
fraction_text places n = if places == 0 then [] else 46 ∷ digits_text places n

-- the sign, the whole part, and exactly as many fraction digits as are written
unfoldable pub text : Written → List ℕ
text w = sign_text w.digits ++ whole_text (nat_abs w.digits / 10 ^ w.places) ++ fraction_text w.places (nat_abs w.digits)
