use Rattle.std.proofs.lemmas.Bool.{and_parts}
use Rattle.jsonb.proofs.SmallNumbers.{eight_are_narrow}
use Rattle.jsonb.proofs.small.is_one_group.Goals as goal

pub returns : goal.returns
returns c =
    λ yes head. let both = and_parts c.is_plain.result c.is_group.result yes in
    eight_are_narrow c.args.bytes.now _ _ c.requires head c.from_le_bytes.ensures c.from_le_bytes-2.ensures
    (c.is_plain.ensures both.0) (c.is_group.ensures both.1)
