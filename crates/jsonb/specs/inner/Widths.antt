-- What is found in a number, by what its piece is; scalars in which nothing is found.
use Rattle.std.specs.Prelude.{◌≡◌, ℕ, List, Option, Some, None, option_map, false, true}
use Rattle.json_model.specs.Tree.{number}
use Rattle.jsonb_layout.specs.Options.{◌>>=◌}
use Rattle.jsonb_layout.specs.Layout.{Item}
use Rattle.jsonb_layout.specs.inner.Reading.{unpadded, numeric_of, scalar_of}
use Rattle.jsonb.specs.Found.{nothing, scalar_found}
use Rattle.jsonb.specs.declared.found.Found.{Found}
use Rattle.jsonb.specs.declared.scalar.Width.{Width}
use Rattle.jsonb.specs.declared.scalar.Width.TheVariants as widths

abbrev pub width_found : Width → Option Found
width_found widths.NoNumber = None
width_found widths.Narrow = Some nothing
width_found widths.Wide = Some (record { not_text = false; wide = true })

-- what is found in a number's piece at a place
abbrev pub number_found : ℕ → List ℕ → Option Found
number_found at piece = option_map scalar_found (unpadded at piece >>= λ q. numeric_of q >>= λ d. Some (number d))

-- an item at a place is a scalar in which nothing is found
abbrev pub IsPlain : ℕ → Item → Type 0
IsPlain at x = option_map scalar_found (scalar_of at x) ≡ Some nothing
