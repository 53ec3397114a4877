-- The trees of values that are borrowed or owned, and of values that are made where they are asked for. This project's own.
use Rattle.std.specs.Prelude.{Result, Ok, Err, ⊤}
use Rattle.json_model.specs.Tree.{Tree}
use Rattle.json_exact.specs.Trees.{tree as value_tree}
use Rattle.json_traits.specs.declared.value_cow.ValueCow.{ValueCow}
use Rattle.json_traits.specs.declared.value_cow.ValueCow.TheVariants.{Borrowed, Owned}
use Rattle.json_traits.specs.declared.value_error.ValueError.{ValueError}
use Rattle.json_traits.specs.declared.value_error.ValueError.TheVariants.{TooDeep, OutOfMemory}

abbrev pub cow_tree : ValueCow → Tree
cow_tree (Borrowed v) = value_tree v.now
cow_tree (Owned v) = value_tree v

abbrev pub IsOwned : ValueCow → Type 0
IsOwned (Borrowed v) = ⊥
IsOwned (Owned v) = ⊤

-- nothing was built: the value is borrowed, or there is none, and not for want of memory
abbrev pub TakesNoMemory : Result ValueCow ValueError → Type 0
TakesNoMemory (Ok (Borrowed v)) = ⊤
TakesNoMemory (Ok (Owned v)) = ⊥
TakesNoMemory (Err TooDeep) = ⊤
TakesNoMemory (Err OutOfMemory) = ⊥
