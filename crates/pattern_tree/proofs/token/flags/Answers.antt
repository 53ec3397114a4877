use Rattle.std.proofs.Common.{rules, arith}
use Rattle.std.specs.Str.{chars}
use Rattle.pattern_tree.proofs.FlagLaws.{flags_are}
use Rattle.pattern_tree.proofs.token.flags.Goals as goal

pub loop-c-init : goal.loop-c-init
loop-c-init c = (search rules, flags_are (chars c.args.x.now), omega arith)
