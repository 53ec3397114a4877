-- Classes by Rust's written grammar: the part of the pattern syntax of the crate `regex` (its documentation, section "Syntax") that is
-- spoken of here. Which part that is, is this project's own, and that the crate reads it so is not proved.
use Rattle.std.specs.Prelude.{◌≡◌, ℕ, Bool, true, false, not, ◌&&◌, ◌||◌, ◌==◌, nat_le, nat_lt, [], ◌∷◌, drop, Option, Some, None, option_and_then, if◌then◌else◌}
use lib.Utf8.{scalar}
use Rattle.pattern_model.specs.Text.{Text, is_at}
use Rattle.pattern_model.specs.Digits.{is_digit, hex}
use Rattle.pattern_model.specs.CodePoints.{code_point}
use Rattle.pattern_model.specs.Letters.{is_ascii_letter}
use Rattle.pattern_model.specs.Members.{is_within}

-- an ASCII character that is no letter, no digit, no `<` and no `>`: behind a backslash it stands for itself
abbrev pub is_punctuation : ℕ → Bool
is_punctuation c = nat_lt c 128 && not (is_ascii_letter c || (is_digit c || (c == 60 || c == 62)))

-- the escapes by a letter: \f \n \r \t \v
abbrev pub letter_escape : ℕ → Text → Option (ℕ × Text)
letter_escape c x =
    if c == 102 then Some (12, x)
    else if c == 110 then Some (10, x)
    else if c == 114 then Some (13, x)
    else if c == 116 then Some (9, x)
    else if c == 118 then Some (11, x)
    else None

abbrev pub if_scalar_value : ℕ × Text → Option (ℕ × Text)
if_scalar_value p = if scalar p.0 then Some p else None

-- A number: so many hex digits, or one or more between braces. It is that of a Unicode scalar value.
unfoldable pub number_escape : ℕ → Text → Option (ℕ × Text)
number_escape k x = option_and_then if_scalar_value (if is_at 123 x then code_point (drop 1 x) else hex k x)

-- an escape, behind its backslash: the character that it stands for, and what follows it
unfoldable pub escape : Text → Option (ℕ × Text)
escape [] = None
escape (c ∷ x) =
    if is_punctuation c then Some (c, x)
    else if c == 120 then number_escape 2 x
    else if c == 117 then number_escape 4 x
    else letter_escape c x

-- an atom of a class: an escape, or any character but `[`, `]` and the backslash
abbrev pub atom : Text → Option (ℕ × Text)
atom [] = None
atom (c ∷ x) = if c == 92 then escape x else if c == 91 || c == 93 then None else Some (c, x)

-- The items of a class from left to right: a character, a range, or a class in the class.
pub data Items : Type 0 where
  none : Items
  one : ℕ → Items → Items
  range : ℕ → ℕ → Items → Items
  nested : Bool → Items → Items → Items

abbrev pub flip : Bool → Bool → Bool
flip true b = not b
flip false b = b

-- some item has the code point; a class in the class has its members
abbrev pub some_has : Items → ℕ → Bool
some_has none c = false
some_has (one a more) c = c == a || some_has more c
some_has (range a b more) c = is_within a b c || some_has more c
some_has (nested negated inner more) c = flip negated (some_has inner c) || some_has more c

-- the members of a class, which is negated or not
abbrev pub rust_class_has : Bool → Items → ℕ → Bool
rust_class_has negated items c = flip negated (some_has items c)

-- a set operation: `&&`, `--` or `~~`
abbrev pub is_doubled : ℕ → Text → Bool
is_doubled c y = is_at c y && is_at c (drop 1 y)

abbrev pub is_operation : Text → Bool
is_operation y = is_doubled 38 y || (is_doubled 45 y || is_doubled 126 y)

-- an item may begin here: the class does not end, and there is no set operation
pub record BeginsItem (y : Text) : Type 0 where
  pub goes_on : is_at 93 y ≡ false
  pub no_operation : is_operation y ≡ false

-- behind an atom: a hyphen makes a range where neither `]` nor another hyphen follows it
abbrev pub has_range : Text → Bool
has_range y = is_at 45 y && not (is_at 93 (drop 1 y) || is_at 45 (drop 1 y))

-- A bracket opens a class, which a caret behind it negates.
abbrev pub Opens : Text → Bool → Text → Type 0
Opens y true inside = y ≡ 91 ∷ 94 ∷ inside
Opens y false inside = (y ≡ 91 ∷ inside) × (is_at 94 inside ≡ false)

abbrev pub NotEmpty : Items → Type 0
NotEmpty none = ⊥
NotEmpty _ = Unit {0}

-- y is these items, the bracket that closes them, and the rest
abbrev pub ReadsItems : Text → Items → Text → Type 0
ReadsItems y none rest = y ≡ 93 ∷ rest
ReadsItems y (one a more) rest =
    (after : Text) × BeginsItem y × (atom y ≡ Some (a, after)) × (has_range after ≡ false) × ReadsItems after more rest
ReadsItems y (range a b more) rest =
    (middle after : Text) × BeginsItem y × (atom y ≡ Some (a, middle)) × (has_range middle ≡ true)
    × (atom (drop 1 middle) ≡ Some (b, after)) × (nat_le a b ≡ true) × ReadsItems after more rest
ReadsItems y (nested negated inner more) rest =
    (inside after : Text) × BeginsItem y × Opens y negated inside × NotEmpty inner × ReadsItems inside inner after
    × ReadsItems after more rest

-- y is a class, of one item or more, and the rest
abbrev pub ReadsClass : Text → Bool → Items → Text → Type 0
ReadsClass y negated items rest = (inside : Text) × Opens y negated inside × NotEmpty items × ReadsItems inside items rest
