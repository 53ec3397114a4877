-- What an instance is once the borrow of its value ends. This project's own.
use Rattle.std.specs.Prelude.{[], Result}
use Rattle.std.specs.Borrow.{Bor, Fml, MutBor, RattleType}
use Rattle.std.specs.Io.BufRead.{Rests}
use mir.Syntax.{named}
use Rattle.json_traits.specs.Instances.{IsKept}
use Rattle.json_traits.specs.contracts.lazy_instance.LazyInstance.{the_row}
use Rattle.json_traits.specs.declared.lazy_instance.LazyInstance.{LazyInstance}
use Rattle.json_traits.specs.declared.value_cow.ValueCow.{ValueCow}
use Rattle.json_traits.specs.declared.value_error.ValueError.{ValueError}

-- the instance holds the value that was handed out, beside its node, and is as before where there is none or it was there
abbrev pub KeepsValue : (N : RattleType) → MutBor (LazyInstance N.Denot) → Result (Bor ValueCow) ValueError → Fml
KeepsValue N s r = Rests (the_row (record { mir = named 0; lft = [] }) N) s (λ new. IsKept s.now new r)
