-- The number of a JSON tree, by which equal trees are found: the 64-bit FNV-1a hash by Fowler, Noll and Vo of bytes that say what the
-- tree is. Which bytes these are is this project's own: a number is fed by its value, and the members of an object are added up, so
-- that trees that are the same have the same number.
use Rattle.std.specs.Prelude.{◌==◌, ℕ, zero, suc, ◌+◌, ◌*◌, ◌/◌, ◌%◌, ◌^◌, true, false, List, [], ◌∷◌, ◌++◌, bit_xor, if◌then◌else◌, ℤ, pos, ◌-ℤ◌, int_lt, nat_abs}
use Rattle.std.specs.Int.{w32, w64, w128, to_le_bytes, cast_unsigned}
use Rattle.json_model.specs.Decimal.{Decimal}
use Rattle.json_model.specs.Tree.{Scalar, null, boolean, number, string, Tree, scalar, array, object, Elements, no_elements, element, Members, no_members, member}

-- ---- the hash of bytes

unfoldable pub fed_one : ℕ → ℕ → ℕ
fed_one state byte = bit_xor state byte * 1099511628211 % 2 ^ 64

-- the bytes in order
abbrev pub fed : ℕ → List ℕ → ℕ
fed state [] = state
fed state (b ∷ bs) = fed (fed_one state b) bs

abbrev pub hash : List ℕ → ℕ
hash bytes = fed 14695981039346656037 bytes

-- a number as eight bytes
unfoldable pub word : ℕ → List ℕ
word n = to_le_bytes w64 n

-- ---- the value of a decimal, as a mantissa that does not end in 0, times a power of ten

-- how many of 10 ^ 1 to 10 ^ k divide n
unfoldable pub powers_in : ℕ → ℕ → ℕ
powers_in n zero = 0
powers_in n (suc k) = (if n % 10 ^ suc k == 0 then 1 else 0) + powers_in n k

-- how many zeros n ends in; 0 has none
abbrev pub zeros : ℕ → ℕ
zeros n = powers_in n n

abbrev pub mantissa : Decimal → ℕ
mantissa d = nat_abs d.digits / 10 ^ zeros (nat_abs d.digits)

-- 0 for 0
abbrev pub exponent : Decimal → ℤ
exponent d = if mantissa d == 0 then pos 0 else pos (zeros (nat_abs d.digits)) -ℤ pos d.places

-- ---- the number of a tree

-- 1 for what is below 0
abbrev pub sign_byte : ℤ → ℕ
sign_byte z = if int_lt z (pos 0) then 1 else 0

-- an exponent as four bytes, in two's complement
unfoldable pub exponent_bytes : ℤ → List ℕ
exponent_bytes e = to_le_bytes w32 (cast_unsigned w32 e)

unfoldable pub mantissa_bytes : ℕ → List ℕ
mantissa_bytes m = to_le_bytes w128 m

unfoldable pub decimal_bytes : Decimal → List ℕ
decimal_bytes d = sign_byte d.digits ∷ exponent_bytes (exponent d) ++ mantissa_bytes (mantissa d)

abbrev pub scalar_bytes : Scalar → List ℕ
scalar_bytes null = 0 ∷ []
scalar_bytes (boolean false) = 1 ∷ []
scalar_bytes (boolean true) = 2 ∷ []
scalar_bytes (number d) = 3 ∷ decimal_bytes d
scalar_bytes (string s) = 4 ∷ s

-- a key ends before the byte 255, which no text has
abbrev pub member_number : List ℕ → ℕ → ℕ
member_number key value = hash (6 ∷ key ++ 255 ∷ word value)

abbrev mutual
  pub element_number : Tree → ℕ
  element_number (scalar s) = hash (scalar_bytes s)
  element_number (array ts) = hash (5 ∷ elements_bytes ts)
  element_number (object ms) = hash (7 ∷ word (members_sum ms))

  -- the numbers of the elements, in order
  pub elements_bytes : Elements → List ℕ
  elements_bytes no_elements = []
  elements_bytes (element t ts) = word (element_number t) ++ elements_bytes ts

  -- the numbers of the members, added up
  pub members_sum : Members → ℕ
  members_sum no_members = 0
  members_sum (member k t ms) = (member_number k (element_number t) + members_sum ms) % 2 ^ 64
