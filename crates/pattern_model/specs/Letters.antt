-- Which characters are letters and which are alphanumeric, by Unicode's Alphabetic property and its general categories.
-- ECMA-262 asks ID_Start and ID_Continue of names; that alphanumeric characters stand for these is this project's own.
use Rattle.std.specs.Prelude.{Bool, false, nat_le, true, ℕ, ◌&&◌, ◌||◌}
use Rattle.ucd_derived.specs.Binary.{is_alphabetic}
use Rattle.ucd_category.specs.GeneralCategory.{general_category}
use Rattle.ucd_category.specs.declared.GeneralCategory.{GeneralCategory}
use Rattle.ucd_category.specs.declared.GeneralCategory.TheVariants as categories

-- letters, and characters of the categories Nd, Nl and No
abbrev pub is_number : GeneralCategory → Bool
is_number categories.DecimalNumber = true
is_number categories.LetterNumber = true
is_number categories.OtherNumber = true
is_number _ = false

unfoldable pub is_alphanumeric : ℕ → Bool
is_alphanumeric c = is_alphabetic c || is_number (general_category c)

-- AsciiLetter
abbrev pub is_ascii_letter : ℕ → Bool
is_ascii_letter c = (nat_le 65 c && nat_le c 90) || (nat_le 97 c && nat_le c 122)
