-- What an instance holds, and the tree that it stands for. This project's own.
use Rattle.std.specs.Prelude.{◌≡◌, ◌<◌, Option, Some, None, Result, IfOk, IsSome, OnErr}
use Rattle.std.specs.Borrow.{Bor}
use Rattle.json_model.specs.Nest.{nest}
use Rattle.json_model.specs.Tree.{Tree}
use Rattle.json_traits.specs.Cows.{cow_tree}
use Rattle.json_traits.specs.declared.lazy_instance.LazyInstance.{LazyInstance}
use Rattle.json_traits.specs.declared.lazy_instance.LazyInstance.TheVariants.{Ready, Deferred}
use Rattle.json_traits.specs.declared.value_cow.ValueCow.{ValueCow}
use Rattle.json_traits.specs.declared.value_error.ValueError.{ValueError}

-- the tree of a value that is there, and else another
abbrev pub tree_or : Option ValueCow → Tree → Tree
tree_or (Some c) t = cow_tree c
tree_or None t = t

module _ {N : Type 0} where
  -- the value that is there, if one is
  abbrev pub held : LazyInstance N → Option ValueCow
  held (Ready c) = Some c
  held (Deferred node cell) = cell

  -- the tree of the value that is there, and else of the node
  abbrev pub instance_tree : (N → Tree) → LazyInstance N → Tree
  instance_tree tree (Ready c) = cow_tree c
  instance_tree tree (Deferred node cell) = tree_or cell (tree node)

  -- the node whose value is not there
  abbrev pub waiting_node : LazyInstance N → Option N
  waiting_node (Ready c) = None
  waiting_node (Deferred node None) = Some node
  waiting_node (Deferred node (Some c)) = None

  -- the instance with a value in its cell, if the cell was empty
  abbrev pub filled_with : LazyInstance N → ValueCow → LazyInstance N
  filled_with (Deferred node None) c = Deferred node (Some c)
  filled_with (Ready d) c = Ready d
  filled_with (Deferred node (Some d)) c = Deferred node (Some d)

  -- what was asked for is there afterwards, in the cell if that was empty; an instance that gave none is as before
  abbrev pub IsKept : LazyInstance N → LazyInstance N → Result (Bor ValueCow) ValueError → Type 0
  IsKept old new r = IfOk r (λ c. (held new ≡ Some c.now) × (new ≡ filled_with old c.now)) × OnErr r (new ≡ old)

  -- no value is there, and the node hands out one that stands in memory
  abbrev pub Borrows : {V : Type 0} → (N → Option V) → LazyInstance N → Type 0
  Borrows value_of (Deferred node None) = IsSome (value_of node)
  Borrows value_of (Ready c) = ⊥
  Borrows value_of (Deferred node (Some c)) = ⊥

  -- no value is there, and the node nests more than 128 containers
  abbrev pub IsTooDeep : (N → Tree) → LazyInstance N → Type 0
  IsTooDeep tree i = (held i ≡ None) × (128 < nest (instance_tree tree i))
