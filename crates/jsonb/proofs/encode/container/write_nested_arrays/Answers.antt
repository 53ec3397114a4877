use Rattle.jsonb.proofs.Nestings.{goes_deeper}
use Rattle.jsonb.proofs.encode.container.write_nested_arrays.Goals as goal

pub loop-level-preserved : goal.loop-level-preserved
loop-level-preserved c =
    goes_deeper c.args.depth c.loop-level.level c.loop-level.bytes.items c.push_word.new.bytes.items c.push_word-in-loop-level.new.bytes.items
    c.loop-level-test.true c.loop-level.invariant c.in_ok-push_word.ensures c.in_ok-push_word-2.ensures
