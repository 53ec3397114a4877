-- How a container lies in bytes: a header word, a word for each item, and the pieces (PostgreSQL, `jsonb.h`:
-- `JsonbContainer`, `JEntry`, `JB_OFFSET_STRIDE`). All words are little-endian. That no other shape stands for a tree is
-- this project's own.
use Rattle.std.specs.Prelude.{◌≡◌, ℕ, ◌+◌, ◌-◌, ◌*◌, ◌%◌, ◌^◌, ◌<◌, List, [], ◌∷◌, ◌++◌, length, if◌then◌else◌, ◌==◌}
use Rattle.std.specs.List.{flat_map, AllByRecursion}
use Rattle.std.specs.Int.{w32, to_le_bytes}
use Rattle.jsonb_layout.specs.declared.form.Form.{Form}
use Rattle.jsonb_layout.specs.declared.form.Form.TheVariants.{Array, Object, Lone}

pub record Item : Type 0 where
  pub kind : ℕ
  pub piece : List ℕ

-- how many zero bytes bring a place to a multiple of four
abbrev pub pad : ℕ → ℕ
pad at = (4 - at % 4) % 4

abbrev pub pieces : List Item → List ℕ
pieces xs = flat_map (λ x. x.piece) xs

-- the word of item number i, where `upto` is the sum of the lengths up to and with its own
abbrev pub entry : ℕ → ℕ → Item → ℕ
entry i upto x = if i % 32 == 0 then 2 ^ 31 + x.kind * 2 ^ 28 + upto else x.kind * 2 ^ 28 + length x.piece

-- the words of the items from number i on, `at` being the sum of the lengths before
abbrev pub entries : ℕ → ℕ → List Item → List ℕ
entries i at [] = []
entries i at (x ∷ xs) = entry i (at + length x.piece) x ∷ entries (i + 1) (at + length x.piece) xs

abbrev pub words : List ℕ → List ℕ
words ns = flat_map (to_le_bytes w32) ns

-- a container is an array, an object or a root scalar
abbrev pub flags : Form → ℕ
flags Array = 4
flags Object = 2
flags Lone = 5

-- how many items a count stands for
abbrev pub HasCount : Form → ℕ → ℕ → Type 0
HasCount Array count n = n ≡ count
HasCount Object count n = n ≡ 2 * count
HasCount Lone count n = (n ≡ count) × (count ≡ 1)

pub record Laid (b : List ℕ) (form : Form) (items : List Item) : Type 0 where
  pub count : ℕ
  pub counted : HasCount form count (length items)
  pub count_fits : count < 2 ^ 28
  pub kinds : AllByRecursion (λ x. x.kind < 8) items
  pub pieces_fit : length (pieces items) < 2 ^ 28
  pub bytes : b ≡ words ((flags form * 2 ^ 28 + count) ∷ entries 0 0 items) ++ pieces items
