use Rattle.std.proofs.Common.{◌≡◌, ◌-◌, ◌++◌}
use Rattle.jsonb.specs.Nested.{nested_bytes}
use Rattle.jsonb.proofs.encode.container.write_nested_arrays.Given as goal

abbrev pub invariant-loop-level : goal.invariant-loop-level
invariant-loop-level l = l.bytes.items ++ nested_bytes (l.depth - l.level) ≡ nested_bytes l.depth
