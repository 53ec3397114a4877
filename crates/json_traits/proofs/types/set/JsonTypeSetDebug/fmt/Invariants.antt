use Rattle.std.proofs.Common.{◌≡◌, ℕ, List, ◌++◌}
use Rattle.std.specs.Prelude.{codes}
use Rattle.std.specs.Fmt.{HasWritten, IsPlainFormatter}
use Rattle.json_traits.specs.Iteration.{left}
use Rattle.json_traits.specs.Shown.{shown, more_names}
use Rattle.json_traits.proofs.types.set.JsonTypeSetDebug.fmt.Given as goal

abbrev pub invariant-loop-ty : goal.invariant-loop-ty
invariant-loop-ty g l =
    IsPlainFormatter l.fn.f → (done : List ℕ) × HasWritten g.W.Write.write_str_gives l.fn.f done l.f
    × (done ++ more_names (left l.ty-iterator) ++ codes ")" ≡ shown l.fn.self)
