-- What the code tells of the groups of a number.
use Rattle.std.specs.Prelude.{ℕ, List, Bool, false, Option, Some, None, option_map}
use Rattle.jsonb_layout.specs.Numeric.{all_below, are_groups}
use Rattle.jsonb_layout.specs.declared.header.Header.{Header}
use Rattle.jsonb_layout.specs.inner.Narrow.{is_narrow}
use Rattle.jsonb_layout.specs.Options.{◌>>=◌, only_if}
use Rattle.jsonb_layout.specs.inner.Reading.{groups_of, value_of}

abbrev pub all_fit : Option (List ℕ) → Bool
all_fit None = false
all_fit (Some gs) = all_below gs

abbrev pub groups_fit_of : List ℕ → Bool
groups_fit_of bytes = all_fit (groups_of bytes)

-- whether the number is narrow, of its header and the bytes of its groups
abbrev pub rest_of : Header → List ℕ → Option Bool
rest_of h bytes = option_map is_narrow (groups_of bytes >>= λ gs. only_if (are_groups gs) (value_of h gs))
