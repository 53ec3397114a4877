-- Which texts are number literals (RFC 8259, section 6) that have bytes in a form, and why the others have none. The literals may
-- have any number of digits. The limits are this project's own.
use Rattle.std.specs.Prelude.{◌≡◌, ◌⊎◌, ℕ, List, [], ◌∷◌, map, IsTrue, false}
use Rattle.json_model.specs.Decimal.{Decimal}
use Rattle.json_model.specs.Parts.{elements_from}
use Rattle.json_model.specs.Tree.{number, Tree, scalar, array, object, no_members, member}
use Rattle.json_exact.specs.Literal.{IsLiteral}
use Rattle.json_exact.specs.Parsed.{IsInRange, IsNoLiteral}
use Rattle.jsonb_layout.specs.Stands.{Stands}
use Rattle.jsonb_encode.specs.Encoded.{encoded}
use Rattle.jsonb_encode.specs.Limits.{IsWithinLimits}
use Rattle.jsonb_encode.specs.Number.{fits}
use Rattle.jsonb_encode.specs.declared.error.EncodeError.{EncodeError}
use Rattle.jsonb_encode.specs.declared.error.EncodeError.TheVariants.{NotANumber, OutOfRange, DoesNotFit, TooLarge, OutOfMemory}
use Rattle.jsonb_encode.specs.declared.number_form.NumericForm.{NumericForm}

-- the text is a literal that writes w, which is in range and has the form
pub record IsNumeral (form : NumericForm) (text : List ℕ) (w : Decimal) : Type 0 where
  pub literal : IsLiteral text w
  pub in_range : IsInRange w
  pub fit : IsTrue (fits form w)

-- why a text has no bytes in a form
abbrev pub IsRefused : NumericForm → List ℕ → EncodeError → Type 0
IsRefused form text NotANumber = IsNoLiteral text
IsRefused form text OutOfRange = (w : Decimal) × IsLiteral text w × ¬ IsInRange w
IsRefused form text DoesNotFit = (w : Decimal) × IsLiteral text w × IsInRange w × (fits form w ≡ false)
IsRefused form text TooLarge = ⊥
IsRefused form text OutOfMemory = ⊥

-- the texts are literals that write these numbers, one after another
abbrev pub AreNumerals : NumericForm → List (List ℕ) → List Decimal → Type 0
AreNumerals form [] [] = Unit {0}
AreNumerals form [] (w ∷ ws) = ⊥
AreNumerals form (t ∷ ts) [] = ⊥
AreNumerals form (t ∷ ts) (w ∷ ws) = IsNumeral form t w × AreNumerals form ts ws

-- why texts have no bytes in a form: the first of them that has none
abbrev pub AreRefused : NumericForm → List (List ℕ) → EncodeError → Type 0
AreRefused form [] e = ⊥
AreRefused form (t ∷ ts) e = IsRefused form t e ⊎ (((w : Decimal) × IsNumeral form t w) × AreRefused form ts e)

-- the trees of a number, of numbers, and of a number under a key
abbrev pub number_tree : Decimal → Tree
number_tree w = scalar (number w)

abbrev pub numbers_tree : List Decimal → Tree
numbers_tree ws = array (elements_from (map number_tree ws))

abbrev pub member_tree : List ℕ → Decimal → Tree
member_tree key w = object (member key (number_tree w) no_members)

-- the bytes are those of the tree in the form, and stand for it
pub record AreBytesOf (form : NumericForm) (b : List ℕ) (t : Tree) : Type 0 where
  pub bytes : b ≡ encoded form t
  pub within : IsWithinLimits form t
  pub stands : Stands b t
