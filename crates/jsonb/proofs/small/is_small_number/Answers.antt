use Rattle.std.proofs.Common.{arith}
use Rattle.std.proofs.lemmas.Bool.{and_parts}
use Rattle.jsonb.proofs.SmallNumbers.{told_at_once}
use Rattle.jsonb.proofs.small.is_small_number.Goals as goal

pub returns-then-bytes-eq8 : goal.returns-then-bytes-eq8
returns-then-bytes-eq8 c =
    λ yes. let both = and_parts c.begins.result c.is_one_group.result yes in
    told_at_once c.args.at c.args.piece.now c.split_at.result.1.now _ 32 c.if-piece-lt8.false (λ i. omega (arith, c.type_inv.piece i))
    c.front-front.ensures c.split_at.ensures.back (omega (arith, c.if-bytes-eq8.true)) (omega (arith, c.if-bytes-eq8.true))
    (c.begins.ensures both.0) (c.is_one_group.ensures both.1)

pub returns-then-begins : goal.returns-then-begins
returns-then-begins c =
    λ yes. told_at_once c.args.at c.args.piece.now c.split_at.result.1.now _ 40 c.if-piece-lt8.false (λ i. omega (arith, c.type_inv.piece i))
    c.front-front.ensures c.split_at.ensures.back (omega (arith, c.if-bytes-eq10.true)) (omega (arith, c.if-bytes-eq10.true))
    (c.begins-then-bytes-eq10.ensures c.if-begins.true) (c.are_two_groups.ensures yes)
