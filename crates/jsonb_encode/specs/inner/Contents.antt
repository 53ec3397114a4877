-- What a container is written of: items that each are known once their place is.
use Rattle.std.specs.Prelude.{◌≡◌, ℕ, zero, suc, ◌+◌, ◌⊎◌, List, [], ◌∷◌, ◌++◌, length, map, string_bytes}
use Rattle.json_model.specs.Decimal.{Decimal}
use Rattle.json_model.specs.Tree.{number}
use Rattle.jsonb_layout.specs.Layout.{Item}
use Rattle.jsonb_layout.specs.Stands.{key_item}
use Rattle.jsonb_layout.specs.declared.form.Form.{Form}
use Rattle.jsonb_layout.specs.declared.form.Form.TheVariants.{Array, Object, Lone}
use Rattle.jsonb_encode.specs.Children.{child_item}
use Rattle.jsonb_encode.specs.Encoded.{container, scalar_item}
use Rattle.jsonb_encode.specs.Limits.{IsSmall}
use Rattle.jsonb_encode.specs.Literals.{IsNumeral, IsRefused, AreNumerals, AreRefused}
use Rattle.jsonb_encode.specs.declared.contents.Contents.{Contents}
use Rattle.jsonb_encode.specs.declared.contents.Contents.TheVariants.{Numeral, Numerals, Containers, KeyAndNumeral, KeyAndNull}
use Rattle.jsonb_encode.specs.declared.error.EncodeError.{EncodeError}
use Rattle.jsonb_encode.specs.declared.error.EncodeError.TheVariants.{TooLarge, OutOfMemory}
use Rattle.jsonb_encode.specs.declared.number_form.NumericForm.{NumericForm}

-- an item, by its place in the payload
abbrev pub Placed : Type 0
Placed = ℕ → Item

abbrev pub placed : List Placed → ℕ → List Item
placed [] at = []
placed (g ∷ gs) at = g at ∷ placed gs (at + length (g at).piece)

abbrev pub numeral_item : NumericForm → Decimal → Placed
numeral_item form w at = scalar_item form (number w) at

abbrev pub key_at : List ℕ → Placed
key_at key at = key_item key

abbrev pub null_at : Placed
null_at at = record { kind = 4; piece = [] }

-- it stands at this place of a list
abbrev pub IsAt : ℕ → List Placed → Placed → Type 0
IsAt i [] g = ⊥
IsAt zero (h ∷ hs) g = h ≡ g
IsAt (suc i) (h ∷ hs) g = IsAt i hs g

-- the items of what a container is written of
abbrev pub AreOf : NumericForm → Contents → List Placed → Type 0
AreOf form (Numeral t) gs = (w : Decimal) × IsNumeral form t.now w × (gs ≡ numeral_item form w ∷ [])
AreOf form (Numerals ts) gs = (ws : List Decimal) × AreNumerals form (map string_bytes ts.now) ws × (gs ≡ map (numeral_item form) ws)
AreOf form (Containers cs) gs = gs ≡ map (λ c. child_item c.items) cs.now
AreOf form (KeyAndNumeral k t) gs = (w : Decimal) × IsNumeral form t.now w × (gs ≡ key_at k.now ∷ numeral_item form w ∷ [])
AreOf form (KeyAndNull k) gs = gs ≡ key_at k.now ∷ null_at ∷ []

abbrev pub shape_of : Contents → Form
shape_of (Numeral t) = Lone
shape_of (Numerals ts) = Array
shape_of (Containers cs) = Array
shape_of (KeyAndNumeral k t) = Object
shape_of (KeyAndNull k) = Object

-- the count in the header
abbrev pub count_in : Contents → ℕ
count_in (Numeral t) = 1
count_in (Numerals ts) = length ts.now
count_in (Containers cs) = length cs.now
count_in (KeyAndNumeral k t) = 1
count_in (KeyAndNull k) = 1

-- how many items there are
abbrev pub items_in : Contents → ℕ
items_in (Numeral t) = 1
items_in (Numerals ts) = length ts.now
items_in (Containers cs) = length cs.now
items_in (KeyAndNumeral k t) = 2
items_in (KeyAndNull k) = 2

-- an item is written behind the bytes before
pub record IsItemWritten (x : Item) (before after : List ℕ) (kind : ℕ) : Type 0 where
  pub kind_is : x.kind ≡ kind
  pub bytes : after ≡ before ++ x.piece

-- a container is written behind the bytes before
pub record IsWrittenOf (c : Contents) (gs : List Placed) (before after : List ℕ) : Type 0 where
  pub bytes : after ≡ before ++ container (shape_of c) (count_in c) (placed gs 0)
  pub small : IsSmall (count_in c) (placed gs 0)

-- why it is not
abbrev pub IsUnwrittenOf : Contents → List Placed → EncodeError → Type 0
IsUnwrittenOf c gs e = (e ≡ OutOfMemory) ⊎ ((e ≡ TooLarge) × ¬ IsSmall (count_in c) (placed gs 0))

-- why a text of the contents has no bytes in the form
abbrev pub IsRefusedOf : NumericForm → Contents → EncodeError → Type 0
IsRefusedOf form (Numeral t) e = IsRefused form t.now e
IsRefusedOf form (Numerals ts) e = AreRefused form (map string_bytes ts.now) e
IsRefusedOf form (Containers cs) e = ⊥
IsRefusedOf form (KeyAndNumeral k t) e = IsRefused form t.now e
IsRefusedOf form (KeyAndNull k) e = ⊥

-- these are the bytes
pub record IsEncodedOf (form : NumericForm) (c : Contents) (b : List ℕ) : Type 0 where
  pub items : List Placed
  pub are : AreOf form c items
  pub whole : IsWrittenOf c items [] b

-- why there are none
abbrev pub IsNotEncodedOf : NumericForm → Contents → EncodeError → Type 0
IsNotEncodedOf form c e = IsRefusedOf form c e ⊎ ((gs : List Placed) × AreOf form c gs × IsUnwrittenOf c gs e)
