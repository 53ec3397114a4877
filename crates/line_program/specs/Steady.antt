-- What contracts see of a source that never fails. This project's own.
use Rattle.std.specs.Prelude.{ℕ, List, drop}
use Rattle.line_program.specs.declared.steady.SteadySource.{SteadySource}

-- the bytes left
abbrev pub steady_left : SteadySource → List ℕ
steady_left source = drop source.place source.bytes.items
