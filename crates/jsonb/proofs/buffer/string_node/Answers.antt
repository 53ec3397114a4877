use Rattle.std.proofs.Common.{refl, arith}
use Rattle.jsonb.proofs.Texts.{text_true}
use Rattle.jsonb.proofs.buffer.string_node.Goals as goal

pub invariant_of-result : goal.invariant_of-result
invariant_of-result c = record { stands = rw (text_true c.as_bytes.result.now c.as_bytes.ensures.utf8) refl; short = refl; room = omega arith }
