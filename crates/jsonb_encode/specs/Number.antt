-- The bytes of a number in each of three forms: a size, a header, and the digits in base 10000 (PostgreSQL, `varatt.h`;
-- `numeric.c`: `make_result`, `NumericShort`, `NumericLong`). All words are little-endian. The layout allows one number many
-- bytes; each form writes one of them.
use Rattle.std.specs.Prelude.{ℕ, ◌+◌, ◌-◌, ◌*◌, ◌/◌, ◌%◌, ◌^◌, Bool, true, ◌==◌, ◌&&◌, nat_lt, nat_le, List, [], ◌∷◌, ◌++◌, length, pos, nat_abs, int_lt, if◌then◌else◌}
use Rattle.std.specs.List.{flat_map}
use Rattle.std.specs.Int.{w16, w32, to_le_bytes}
use Rattle.json_model.specs.Decimal.{Decimal}
use Rattle.json_exact.specs.Digits.{spread, count_of}
use Rattle.jsonb_layout.specs.Numeric.{bit}
use Rattle.jsonb_layout.specs.declared.header.Header.{Header}
use Rattle.jsonb_encode.specs.declared.number_form.NumericForm.{NumericForm}
use Rattle.jsonb_encode.specs.declared.number_form.NumericForm.TheVariants.{Short, Long, ShortVarlena}

-- ---- groups

-- how many groups of four digits hold so many fraction digits
abbrev pub fraction_groups : ℕ → ℕ
fraction_groups places = (places + 3) / 4

-- the magnitude, counted in the last of the groups that hold the fraction digits
abbrev pub magnitude : Decimal → ℕ
magnitude d = nat_abs d.digits * 10 ^ (4 * fraction_groups d.places - d.places)

abbrev pub all_zero : List ℕ → Bool
all_zero [] = true
all_zero (g ∷ gs) = (g == 0) && all_zero gs

-- without the zeros at the end
abbrev pub trimmed : List ℕ → List ℕ
trimmed [] = []
trimmed (g ∷ gs) = if all_zero (g ∷ gs) then [] else g ∷ trimmed gs

-- how many digits the magnitude has in base 10000
abbrev pub group_count : Decimal → ℕ
group_count d = count_of 10000 (magnitude d)

-- the digits of the magnitude in base 10000, the greatest first, without the zeros at the end; 0 has none
unfoldable pub groups : Decimal → List ℕ
groups d = trimmed (spread 10000 (group_count d) (magnitude d))

-- ---- the header

-- 2 ^ 15 plus the weight: the first of the groups counts 10000 ^ weight. The weight of 0 is 0.
abbrev pub lift : Decimal → ℕ
lift d = if magnitude d == 0 then 2 ^ 15 else (2 ^ 15 + group_count d) - (1 + fraction_groups d.places)

unfoldable pub header : Decimal → Header
header d = record { minus = int_lt d.digits (pos 0); dscale = d.places; lift = lift d }

-- at most 63 fraction digits, and a weight from -64 to 63
abbrev pub is_short : Header → Bool
is_short h = nat_lt h.dscale 64 && nat_le (2 ^ 15 - 64) h.lift && nat_lt h.lift (2 ^ 15 + 64)

-- the weight in seven bits
abbrev pub short_head : Header → List ℕ
short_head h = to_le_bytes w16 (2 ^ 15 + 2 ^ 13 * bit h.minus + 2 ^ 7 * h.dscale + h.lift % 2 ^ 7)

-- the weight in sixteen bits
abbrev pub long_head : Header → List ℕ
long_head h = to_le_bytes w16 (2 ^ 14 * bit h.minus + h.dscale) ++ to_le_bytes w16 ((h.lift + 2 ^ 15) % 2 ^ 16)

abbrev pub head : NumericForm → Header → List ℕ
head Short h = if is_short h then short_head h else long_head h
head Long h = long_head h
head ShortVarlena h = short_head h

-- ---- the whole

-- a size of four bytes, or of one, that counts itself
abbrev pub varlena : NumericForm → List ℕ → List ℕ
varlena Short body = to_le_bytes w32 (4 * (4 + length body)) ++ body
varlena Long body = to_le_bytes w32 (4 * (4 + length body)) ++ body
varlena ShortVarlena body = (2 * (1 + length body) + 1) ∷ body

abbrev pub body : NumericForm → Decimal → List ℕ
body form d = head form (header d) ++ flat_map (to_le_bytes w16) (groups d)

-- the bytes of a number in a form
unfoldable pub numeric : NumericForm → Decimal → List ℕ
numeric form d = varlena form (body form d)

-- Whether a number has the form. That of one size byte has the short header, and its size, which the byte holds, is below 128.
-- The second never fails for a narrow number: it has at most 11 groups.
unfoldable pub fits : NumericForm → Decimal → Bool
fits Short d = true
fits Long d = true
fits ShortVarlena d = is_short (header d) && nat_lt (length (body ShortVarlena d)) 127
