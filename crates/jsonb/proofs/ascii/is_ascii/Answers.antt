use Rattle.std.proofs.Common.{arith}
use Rattle.std.proofs.lemmas.Bool.{eqb-true}
use Rattle.jsonb.proofs.Texts.{ascii_more, ascii_ends}
use Rattle.jsonb.proofs.ascii.is_ascii.Goals as goal

pub loop-block-preserved : goal.loop-block-preserved
loop-block-preserved c =
    let e = c.in-Some.ensures.cases in
    ascii_more c.loop-block.invariant c.in-Some.block.now c.in-Some.behind.now c.ascii_of_block.result e.0 e.1 e.2
    (omega (arith, c.if-ascii_of_block-lt32.false)) c.ascii_of_block.ensures.ascii

pub returns-in-Some-last_chunk : goal.returns-in-Some-last_chunk
returns-in-Some-last_chunk c told =
    let e = c.in-Some-last_chunk.ensures.cases in
    let last = c.ascii_of_block-in-Some-last_chunk in
    ascii_ends c.loop-block.invariant c.in-Some-last_chunk.block.now last.result c.in_default.ensures.cases e.0 e.1.same (eqb-true _ 32 told)
    last.ensures.ascii
