use Rattle.jsonb.proofs.Slices.{none_cut}
use Rattle.jsonb.proofs.laws.no_less.Goals as goal

pub returns : goal.returns
returns c = none_cut c.args.bytes.now c.args.cut
