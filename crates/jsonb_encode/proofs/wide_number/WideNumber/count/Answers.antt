use Rattle.std.proofs.Common.{arith}
use Rattle.jsonb_encode.proofs.WideDigits.{size_below}
use Rattle.jsonb_encode.proofs.wide_number.WideNumber.count.Goals as goal

pub loop-count-init : goal.loop-count-init
loop-count-init c =
    let n = c.args.self.now in
    record {
      below = size_below n.whole.now n.fraction.now n.zeros c.requires.whole c.requires.fraction;
      few = let a = c.requires.few in let b = c.requires.zeros in omega arith;
    }
