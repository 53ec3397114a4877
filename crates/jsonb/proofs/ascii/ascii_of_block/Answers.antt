use Rattle.jsonb.proofs.Texts.{all_low, some_high, few_low}
use Rattle.jsonb.proofs.ascii.ascii_of_block.Goals as goal

pub returns-then-high-eq0-clause-ascii : goal.returns-then-high-eq0-clause-ascii
returns-then-high-eq0-clause-ascii c = all_low c.args.block.now c.told-block c.if-high-eq0.true

pub returns-clause-ascii : goal.returns-clause-ascii
returns-clause-ascii c = some_high c.args.block.now c.told-block c.if-high-eq0.false

pub returns-clause-few : goal.returns-clause-few
returns-clause-few c = few_low c.args.block.now c.told-block c.if-high-eq0.false
