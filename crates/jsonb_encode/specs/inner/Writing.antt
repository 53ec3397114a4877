-- What the writer has written, part by part.
use Rattle.std.specs.Prelude.{◌≡◌, ℕ, zero, suc, ◌+◌, ◌-◌, ◌*◌, ◌%◌, ◌^◌, ◌==◌, ◌⊎◌, ◌<◌, ◌≤◌, true, map, List, [], ◌∷◌, ◌++◌, length, replicate, ℤ, pos, ◌-ℤ◌, if◌then◌else◌}
use Rattle.std.specs.Int.{w32, to_le_bytes}
use Rattle.json_model.specs.Tree.{Tree, Elements}
use Rattle.json_model.specs.Keys.{rises}
use Rattle.json_model.specs.Parts.{elements_from}
use Rattle.json_model.specs.Rising.{KeysRiseInElements}
use Rattle.json_exact.specs.DecimalGroups.{group}
use Rattle.jsonb_layout.specs.Layout.{Item, pieces, entries, words, flags}
use Rattle.jsonb_layout.specs.Stands.{key_item}
use Rattle.jsonb_layout.specs.declared.form.Form.{Form}
use Rattle.jsonb_layout.specs.declared.form.Form.TheVariants.{Object, Lone}
use Rattle.jsonb_layout.specs.declared.header.Header.{Header}
use Rattle.jsonb_encode.specs.Encoded.{container, item, element_items, encoded}
use Rattle.jsonb_encode.specs.Limits.{AreSmall, ElementsAreSmall, IsWithinLimits, IsStorable, ElementsHaveExactNumbers}
use Rattle.jsonb_encode.specs.Number.{head}
use Rattle.jsonb_encode.specs.declared.error.EncodeError.{EncodeError}
use Rattle.jsonb_encode.specs.declared.error.EncodeError.TheVariants.{TooLarge, OutOfMemory}
use Rattle.jsonb_encode.specs.declared.kind.Kind.{Kind}
use Rattle.jsonb_encode.specs.declared.kind.Kind.TheVariants.{String, Number, False, True, Null, Container}
use Rattle.jsonb_encode.specs.declared.number_form.NumericForm.{NumericForm}
use Rattle.jsonb_encode.specs.declared.number_form.NumericForm.TheVariants.{Short, Long, ShortVarlena}

abbrev pub kind_number : Kind → ℕ
kind_number String = 0
kind_number Number = 1
kind_number False = 2
kind_number True = 3
kind_number Null = 4
kind_number Container = 5

-- A container of n items, of which these are written: the words of the others are still 0.
unfoldable pub opened : Form → ℕ → ℕ → List Item → List ℕ
opened form count n xs = words ((flags form * 2 ^ 28 + count) ∷ entries 0 0 xs) ++ (replicate (4 * (n - length xs)) 0 ++ pieces xs)

abbrev pub item_of : ℕ → List ℕ → Item
item_of kind piece = record { kind = kind; piece = piece }

-- the word of an entry, by the length of its piece
abbrev pub entry_word : ℕ → ℕ → ℕ → ℕ → ℕ
entry_word index kind upto n = if index % 32 == 0 then 2 ^ 31 + kind * 2 ^ 28 + upto else kind * 2 ^ 28 + n

-- what stands before the groups of a number, of which there are m
abbrev pub lead : NumericForm → Header → ℕ → List ℕ
lead Short h m = to_le_bytes w32 (4 * (4 + (length (head Short h) + 2 * m))) ++ head Short h
lead Long h m = to_le_bytes w32 (4 * (4 + (length (head Long h) + 2 * m))) ++ head Long h
lead ShortVarlena h m = (2 * (1 + (length (head ShortVarlena h) + 2 * m)) + 1) ∷ head ShortVarlena h

-- so many groups of n parts, from a place downwards
abbrev pub groups_down : ℤ → ℕ → ℕ → List ℕ
groups_down place zero n = []
groups_down place (suc k) n = groups_down place k n ++ group (place -ℤ pos k) n ∷ []

-- a tree is written as an item at a place of a payload, behind the bytes before
pub record IsWritten (form : NumericForm) (t : Tree) (at : ℕ) (before after : List ℕ) (kind : ℕ) : Type 0 where
  pub kind_is : (item form t at).kind ≡ kind
  pub bytes : after ≡ before ++ (item form t at).piece
  pub small : AreSmall form t
  pub value : IsStorable t

-- an array or object is written behind the bytes before
pub record IsWhole (form : NumericForm) (t : Tree) (before after : List ℕ) : Type 0 where
  pub bytes : after ≡ before ++ encoded form t
  pub small : AreSmall form t
  pub value : IsStorable t

-- why a tree is not written
abbrev pub IsUnwritten : NumericForm → Tree → EncodeError → Type 0
IsUnwritten form t e = (e ≡ OutOfMemory) ⊎ ((e ≡ TooLarge) × ¬ AreSmall form t)

-- what is known of the trees that are written of an array
pub record AreGood (form : NumericForm) (ts : Elements) : Type 0 where
  pub small : ElementsAreSmall form ts
  pub rise : KeysRiseInElements ts
  pub exact : ElementsHaveExactNumbers ts

-- a container of n items, of which these are written, stands behind the bytes before
pub record IsOpen (form : Form) (count n : ℕ) (xs : List Item) (before after : List ℕ) : Type 0 where
  pub bytes : after ≡ before ++ opened form count n xs
  pub small : length (pieces xs) < 2 ^ 28

-- the keys of an object as items
abbrev pub pair_keys : List (List ℕ × Tree) → List Item
pair_keys ps = map (λ p. key_item p.0) ps

-- the items of trees, behind those of keys
abbrev pub listed : NumericForm → List Item → List Tree → List Item
listed form ks us = ks ++ element_items form (elements_from us) (length (pieces ks))

-- the words of an object are written, with its keys behind them, and none of its values
pub record Keyed (ps : List (List ℕ × Tree)) (before after : List ℕ) : Type 0 where
  pub open_is : IsOpen Object (length ps) (2 * length ps) (pair_keys ps) before after
  pub few : length ps < 2 ^ 28
  pub rise : rises (map (λ p. p.0) ps) ≡ true

-- why they are not
abbrev pub IsUnkeyed : List (List ℕ × Tree) → EncodeError → Type 0
IsUnkeyed ps e = (e ≡ OutOfMemory) ⊎ ((e ≡ TooLarge) × ((2 ^ 28 ≤ length ps) ⊎ (2 ^ 28 ≤ length (pieces (pair_keys ps)))))

-- a tree is written as the one item of a container
pub record IsLone (form : NumericForm) (t : Tree) (before after : List ℕ) : Type 0 where
  pub bytes : after ≡ before ++ container Lone 1 (item form t 0 ∷ [])
  pub within : length (item form t 0).piece < 2 ^ 28
  pub value : IsStorable t

abbrev pub IsNotLone : NumericForm → Tree → EncodeError → Type 0
IsNotLone form t e = IsUnwritten form t e ⊎ ((e ≡ TooLarge) × (2 ^ 28 ≤ length (item form t 0).piece))

-- a tree is written as a root
pub record IsRoot (form : NumericForm) (t : Tree) (before after : List ℕ) : Type 0 where
  pub bytes : after ≡ before ++ encoded form t
  pub within : IsWithinLimits form t
  pub value : IsStorable t

abbrev pub IsNoRoot : NumericForm → Tree → EncodeError → Type 0
IsNoRoot form t e = (e ≡ OutOfMemory) ⊎ ((e ≡ TooLarge) × ¬ IsWithinLimits form t)
