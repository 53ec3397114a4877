use Rattle.json_exact.proofs.WordLaws.{words_order}
use Rattle.json_exact.proofs.group.compare_groups.Goals as goal

pub returns : goal.returns
returns c = let w = words_order c.args.left.now c.args.right.now c.told-left c.told-right c.fits-left c.fits-right in cc
