use Rattle.jsonb.proofs.Slices.{none_behind}
use Rattle.jsonb.proofs.laws.no_more.Goals as goal

pub returns : goal.returns
returns c = none_behind c.args.bytes.now c.args.more.now
