use Rattle.jsonb.proofs.RiseLaws.{stands_rises}
use Rattle.jsonb.proofs.laws.keys_rise.Goals as goal

pub returns : goal.returns
returns c = stands_rises c.args.bytes.now
