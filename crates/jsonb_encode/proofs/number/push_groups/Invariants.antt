use Rattle.std.proofs.Common.{◌≡◌, ◌++◌, nat_abs}
use Rattle.std.specs.Int.{w16, to_le_bytes}
use Rattle.std.specs.List.{flat_map}
use Rattle.jsonb_encode.specs.inner.Writing.{groups_down}
use Rattle.jsonb_encode.proofs.number.push_groups.Given as goal

abbrev pub invariant-loop-index : goal.invariant-loop-index
invariant-loop-index l =
    l.bytes.items ≡ l.fn.bytes.items ++ flat_map (to_le_bytes w16) (groups_down l.fn.span.first l.index (nat_abs l.decimal))
