-- The computed reading, from left to right: what the code meets, one small function for each of the code's. What a user
-- believes is `Stands`; that both say the same is proved in `proofs/`.
use Rattle.std.specs.Prelude.{ℕ, zero, suc, ◌+◌, ◌-◌, ◌*◌, ◌/◌, ◌%◌, ◌^◌, Bool, true, false, not, ◌&&◌, List, [], ◌∷◌, length, take, drop, get_or, Option, Some, None, nat_lt, nat_le, ◌==◌, if◌then◌else◌, pos}
use Rattle.std.specs.List.{list_all}
use Rattle.std.specs.Int.{w16, w32, from_le_bytes}
use Rattle.json_model.specs.Decimal.{Decimal, signed}
use Rattle.json_model.specs.Tree.{Scalar, null, boolean, number, string}
use Rattle.json_model.specs.Keys.{key_before}
use Rattle.jsonb_layout.specs.Numeric.{short_lift, long_lift, joined, are_groups}
use Rattle.jsonb_layout.specs.declared.header.Header.{Header}
use Rattle.jsonb_layout.specs.Options.{◌>>=◌, only_if}
use Rattle.jsonb_layout.specs.Layout.{Item, pad}
use Rattle.jsonb_layout.specs.declared.form.Form.{Form}
use Rattle.jsonb_layout.specs.declared.form.Form.TheVariants.{Array, Object, Lone}

-- ---- numbers

unfoldable pub varlena_of : List ℕ → Option (List ℕ)
varlena_of p =
    if get_or p 0 0 % 2 == 1 then only_if (get_or p 0 0 == 2 * length p + 1) (Some (drop 1 p)) else only_if
    (nat_le 4 (length p) && from_le_bytes w32 (take 4 p) == 4 * length p) (Some (drop 4 p))

abbrev pub short_of : ℕ → Header
short_of w = record { minus = w / 2 ^ 13 % 2 == 1; dscale = w / 2 ^ 7 % 64; lift = short_lift (w % 128) }

abbrev pub long_of : ℕ → ℕ → Header
long_of w weight = record { minus = nat_le (2 ^ 14) w; dscale = w % 2 ^ 14; lift = long_lift weight }

abbrev pub header_with : ℕ → List ℕ → Option (Header × List ℕ)
header_with w bytes =
    if nat_lt w (2 ^ 15)
    then only_if (nat_le 4 (length bytes)) (Some (long_of w (from_le_bytes w16 (take 2 (drop 2 bytes))), drop 4 bytes))
    else only_if (nat_lt w (2 ^ 15 + 2 ^ 14)) (Some (short_of w, drop 2 bytes))

unfoldable pub header_of : List ℕ → Option (Header × List ℕ)
header_of bytes = only_if (nat_le 2 (length bytes)) (header_with (from_le_bytes w16 (take 2 bytes)) bytes)

unfoldable pub groups_of : List ℕ → Option (List ℕ)
groups_of [] = Some []
groups_of (a ∷ []) = None
groups_of (a ∷ b ∷ bytes) = groups_of bytes >>= λ gs. Some ((a + 256 * b) ∷ gs)

unfoldable pub value_of : Header → List ℕ → Option Decimal
value_of h gs =
    if length gs == 0
    then only_if (h.lift == 2 ^ 15 && not h.minus) (Some (record { digits = pos 0; places = h.dscale }))
    else let whole = 10 ^ h.dscale * (joined gs * 10000 ^ (h.lift + 1)) in
    let unit = 10000 ^ (length gs + 2 ^ 15) in
    only_if (whole % unit == 0) (Some (record { digits = signed h.minus (whole / unit); places = h.dscale }))

unfoldable pub numeric_of : List ℕ → Option Decimal
numeric_of p = do
  body ← varlena_of p
  h ← header_of body
  gs ← groups_of h.1
  only_if (are_groups gs) (value_of h.0 gs)

-- ---- items

-- where the reading of a container stands
pub record Place : Type 0 where
  pub index : ℕ
  pub at : ℕ
  pub words : List ℕ
  pub rest : List ℕ

-- how many bytes there are from a place on
abbrev pub size : Place → ℕ
size p = length p.words + length p.rest

-- the length of the piece that an entry word gives
unfoldable pub length_of : ℕ → ℕ → ℕ → Option ℕ
length_of index at word =
    if index % 32 == 0
    then only_if (nat_le (2 ^ 31) word && nat_le at (word % 2 ^ 28)) (Some (word % 2 ^ 28 - at))
    else only_if (nat_lt word (2 ^ 31)) (Some (word % 2 ^ 28))

-- the item that an entry word begins
abbrev pub item_with : ℕ → Place → Option (Item × Place)
item_with word p =
    length_of p.index p.at word >>= λ len.
    only_if (nat_le len (length p.rest)) (Some (
      record { kind = word / 2 ^ 28 % 8; piece = take len p.rest },
      record { index = p.index + 1; at = p.at + len; words = drop 4 p.words; rest = drop len p.rest },
    ))

unfoldable pub item_at : Place → Option (Item × Place)
item_at p = only_if (nat_le 4 (length p.words)) (item_with (from_le_bytes w32 (take 4 p.words)) p)

-- ---- scalars

unfoldable pub unpadded : ℕ → List ℕ → Option (List ℕ)
unpadded at piece = only_if (nat_le (pad at) (length piece) && list_all (λ b. b == 0) (take (pad at) piece)) (Some (drop (pad at) piece))

-- the scalar of an item at a place
unfoldable pub scalar_of : ℕ → Item → Option Scalar
scalar_of at x =
    if x.kind == 0 then Some (string x.piece) else
    if x.kind == 1 then (unpadded at x.piece >>= λ q. numeric_of q >>= λ d. Some (number d)) else
    if x.kind == 2 then only_if (length x.piece == 0) (Some (boolean false)) else
    if x.kind == 3 then only_if (length x.piece == 0) (Some (boolean true)) else
    if x.kind == 4 then only_if (length x.piece == 0) (Some null) else
    None

-- ---- keys

-- the key before, if any, comes before this one
abbrev pub follows : Option (List ℕ) → List ℕ → Bool
follows None k = true
follows (Some before) k = key_before before k

unfoldable pub keys_at : ℕ → Option (List ℕ) → Place → Option (List (List ℕ) × Place)
keys_at zero before p = Some ([], p)
keys_at (suc n) before p = do
  x ← item_at p
  ks ← only_if (x.0.kind == 0 && follows before x.0.piece) (keys_at n (Some x.0.piece) x.1)
  Some (x.0.piece ∷ ks.0, ks.1)

-- ---- the whole

abbrev pub items_in : Form → ℕ → ℕ
items_in Array count = count
items_in Object count = 2 * count
items_in Lone count = count

unfoldable pub form_of : ℕ → Option (Form × ℕ)
form_of word =
    let count = word % 2 ^ 28 in
    let flags = word / 2 ^ 28 in
    if flags == 4 then Some (Array, count) else
    if flags == 2 then Some (Object, count) else
    only_if (flags == 5 && count == 1) (Some (Lone, count))

-- the form, the count, and where the items begin, of the bytes behind the header word
abbrev pub begun : List ℕ → Form × ℕ → Option (Form × ℕ × Place)
begun body f = let size = 4 * items_in f.0 f.1 in
    only_if (nat_le size (length body) && nat_lt (length body - size) (2 ^ 28))
    (Some (f.0, f.1, record { index = 0; at = 0; words = take size body; rest = drop size body }))

-- the form and the count that the header word says
unfoldable pub form_at : List ℕ → Option (Form × ℕ)
form_at b = only_if (nat_le 4 (length b)) (form_of (from_le_bytes w32 (take 4 b)))

unfoldable pub opened : List ℕ → Option (Form × ℕ × Place)
opened b = form_at b >>= begun (drop 4 b)

abbrev pub ended : {A : Type 0} → Place → A → Option A
ended p x = only_if (length p.rest == 0) (Some x)

-- the one item of a root scalar
abbrev pub lone_in : Form → Place → Option Item
lone_in Array p = None
lone_in Object p = None
lone_in Lone p = item_at p >>= λ x. ended x.1 x.0

unfoldable pub lone_item : List ℕ → Option Item
lone_item b = opened b >>= λ o. lone_in o.0 o.2
