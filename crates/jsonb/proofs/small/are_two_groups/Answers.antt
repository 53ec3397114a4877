use Rattle.std.proofs.lemmas.Bool.{and_parts}
use Rattle.jsonb.proofs.SmallNumbers.{ten_are_narrow}
use Rattle.jsonb.proofs.small.are_two_groups.Goals as goal

pub returns-then-fit : goal.returns-then-fit
returns-then-fit c =
    λ yes head. let all = and_parts _ c.is_group-2.result c.if-fit.true in
    let both = and_parts c.is_plain.result c.is_group.result all.0 in
    ten_are_narrow c.args.bytes.now _ _ _ c.requires head c.from_le_bytes-word.ensures c.from_le_bytes.ensures c.from_le_bytes-last.ensures
    (c.is_plain.ensures both.0) (c.is_group.ensures both.1) (c.is_group-2.ensures all.1) (c.is_within.ensures yes)
