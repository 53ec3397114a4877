use Rattle.std.proofs.Common.{◌≡◌, length, map}
use Rattle.std.specs.Prelude.{string_bytes}
use Rattle.pattern_tree.specs.Places.{has_all}
use Rattle.pattern_tree.proofs.places.Places.has_all.Given as goal

abbrev pub invariant-loop-name : goal.invariant-loop-name
invariant-loop-name l = has_all l.self (map string_bytes l.names.items) ≡ has_all l.fn.self (map string_bytes l.fn.names.items)

abbrev pub decreases-loop-name : goal.decreases-loop-name
decreases-loop-name l = length l.names.items
