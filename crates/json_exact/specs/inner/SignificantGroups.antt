-- What the groups of a number leave behind that are pushed one after another. This project's own.
use Rattle.std.specs.Prelude.{ℕ}
use Rattle.json_exact.specs.inner.SignificantDigits.{Pushed}
use Rattle.json_exact.specs.declared.significant_groups.SignificantGroups.{SignificantGroups}

-- the groups that were pushed are those of n, of which 11 are kept
abbrev pub HoldsGroups : SignificantGroups → ℕ → Type 0
HoldsGroups s n = Pushed 10000 10 s.groups s.len s.too_wide n
