use Rattle.std.proofs.Common.{arith}
use Rattle.json_exact.specs.Groups.{groups_of}
use Rattle.json_exact.proofs.GroupLaws.{after_zero}
use Rattle.json_exact.proofs.decimal.groups_of.Goals as goal

pub loop-rest-init : goal.loop-rest-init
loop-rest-init c = record {
  fit = c.requires.groups;
  few = omega arith;
  held = (0, c.new-groups.ensures.holds, after_zero 10000 (groups_of c.args.bytes.now));
}
