-- The bytes of a number: a varlena header (PostgreSQL, `varatt.h`), a numeric header and groups of four decimal digits
-- (`numeric.c`: `NumericShort`, `NumericLong`). All words are little-endian. That no digit but 0 stands past the written
-- fraction digits, and that 0 has one shape, is this project's own.
use Rattle.std.specs.Prelude.{◌≡◌, ℕ, ◌+◌, ◌-◌, ◌*◌, ◌^◌, ◌<◌, Bool, true, false, List, [], ◌∷◌, ◌++◌, length, get_or, nat_abs, ◌⊎◌, if◌then◌else◌, nat_lt, IsTrue, ◌&&◌}
use Rattle.std.specs.List.{flat_map}
use Rattle.std.specs.Int.{w16, w32, to_le_bytes}
use Rattle.json_model.specs.Decimal.{Decimal, signed}
use Rattle.jsonb_layout.specs.declared.header.Header.{Header}

-- four bytes, or one; the size counts the header too
abbrev pub IsVarlena : List ℕ → List ℕ → Type 0
IsVarlena p body =
    ((length p < 2 ^ 30) × (p ≡ to_le_bytes w32 (4 * length p) ++ body))
    ⊎ ((length p < 2 ^ 7) × (p ≡ (2 * length p + 1) ∷ body))

abbrev pub bit : Bool → ℕ
bit b = if b then 1 else 0

-- of seven bits the highest is the sign
abbrev pub short_lift : ℕ → ℕ
short_lift seven = if nat_lt seven 64 then 2 ^ 15 + seven else (2 ^ 15 - 128) + seven

-- of sixteen bits the highest is the sign
abbrev pub long_lift : ℕ → ℕ
long_lift sixteen = if nat_lt sixteen (2 ^ 15) then 2 ^ 15 + sixteen else sixteen - 2 ^ 15

abbrev pub IsShort : List ℕ → Header → Type 0
IsShort bytes h = (seven : ℕ) × (seven < 128) × (h.dscale < 64) × (h.lift ≡ short_lift seven)
    × (bytes ≡ to_le_bytes w16 (2 ^ 15 + 2 ^ 13 * bit h.minus + 2 ^ 7 * h.dscale + seven))

abbrev pub IsLong : List ℕ → Header → Type 0
IsLong bytes h = (sixteen : ℕ) × (sixteen < 2 ^ 16) × (h.dscale < 2 ^ 14) × (h.lift ≡ long_lift sixteen)
    × (bytes ≡ to_le_bytes w16 (2 ^ 14 * bit h.minus + h.dscale) ++ to_le_bytes w16 sixteen)

-- the groups as digits of one whole number
abbrev pub joined : List ℕ → ℕ
joined [] = 0
joined (g ∷ gs) = g * 10000 ^ length gs + joined gs

-- each is below 10000, and neither the first nor the last is 0
abbrev pub all_below : List ℕ → Bool
all_below [] = true
all_below (g ∷ gs) = nat_lt g 10000 && all_below gs

abbrev pub are_groups : List ℕ → Bool
are_groups gs = all_below gs && nat_lt 0 (get_or gs 0 1) && nat_lt 0 (get_or gs (length gs - 1) 1)

-- Group i counts 10000 ^ (weight - i), so the last one counts 10000 ^ (weight + 1 - the number of groups).
-- With no groups the weight is 0 and the sign is plus.
pub record IsValue (h : Header) (gs : List ℕ) (d : Decimal) : Type 0 where
  pub places : d.places ≡ h.dscale
  pub sign : d.digits ≡ signed h.minus (nat_abs d.digits)
  pub size : nat_abs d.digits * 10000 ^ (length gs + 2 ^ 15) ≡ 10 ^ h.dscale * (joined gs * 10000 ^ (h.lift + 1))
  pub zero : length gs ≡ 0 → (h.lift ≡ 2 ^ 15) × (h.minus ≡ false)

pub record Numeric (p : List ℕ) (d : Decimal) : Type 0 where
  pub body : List ℕ
  pub head : List ℕ
  pub header : Header
  pub groups : List ℕ
  pub varlena : IsVarlena p body
  pub parts : body ≡ head ++ flat_map (to_le_bytes w16) groups
  pub form : IsShort head header ⊎ IsLong head header
  pub fit : IsTrue (are_groups groups)
  pub value : IsValue header groups d
