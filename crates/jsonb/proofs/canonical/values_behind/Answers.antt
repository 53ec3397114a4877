use Rattle.std.proofs.Common.{arith}
use Rattle.jsonb.specs.inner.Views.{place}
use Rattle.jsonb.proofs.CanonicalLaws.{values_json}
use Rattle.jsonb.proofs.MemberLaws.{passes}
use Rattle.jsonb.proofs.Walks.{skip_behind}
use Rattle.jsonb.proofs.canonical.values_behind.Goals as goal

pub unreachable-requires : goal.unreachable-requires
unreachable-requires c = passes (record { keys = c.args.keys; stands = c.requires }) c.in_default.ensures

pub invariant_of-result : goal.invariant_of-result
invariant_of-result c =
    let o = c.args.keys in
    let b = skip_behind o.count (place o.start) (place c.in-Some.start) c.in-Some.ensures in
    record { words = omega (arith, b.words, o.words); room = omega (arith, b.end, o.room) }

pub invariant_of-result-2 : goal.invariant_of-result-2
invariant_of-result-2 c =
    let o = c.args.keys in
    record { stands = values_json o.count (place o.start) (place c.in-Some.start) c.requires c.in-Some.ensures }
