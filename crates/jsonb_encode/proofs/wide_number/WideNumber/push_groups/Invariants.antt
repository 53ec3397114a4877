use Rattle.std.proofs.Common.{◌≡◌, ◌-◌, ◌/◌, ◌^◌, ◌++◌}
use Rattle.std.specs.Int.{w16, to_le_bytes}
use Rattle.std.specs.List.{flat_map}
use Rattle.json_exact.specs.Digits.{spread}
use Rattle.jsonb_encode.specs.inner.Wide.{size}
use Rattle.jsonb_encode.proofs.wide_number.WideNumber.push_groups.Given as goal

abbrev pub invariant-loop-index : goal.invariant-loop-index
invariant-loop-index l =
    l.bytes.items ≡ l.fn.bytes.items ++ flat_map (to_le_bytes w16) (spread 10000 l.index (size l.self / 10000 ^ (l.count - l.index)))
