use Rattle.jsonb.proofs.SmallNumbers.{begins_is}
use Rattle.std.proofs.lemmas.Bool.{eqb-true}
use Rattle.jsonb.proofs.small.begins.Goals as goal

pub returns : goal.returns
returns c = λ yes. begins_is c.args.front c.args.pad c.args.header c.requires.pad c.requires.header (eqb-true _ _ yes)
