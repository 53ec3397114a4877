use Rattle.std.proofs.Common.{rules}
use Rattle.std.specs.Str.{chars}
use Rattle.pattern_tree.proofs.ItemLemmas.{plain_result}
use Rattle.pattern_tree.proofs.token.token_from.Goals as goal

pub returns-else-c-eq91-clause-items : goal.returns-else-c-eq91-clause-items
returns-else-c-eq91-clause-items c =
    plain_result c.args.wide c.args.total c.args.c (chars c.args.x.now) c.plain_token.result (search rules) c.plain_token.ensures.some
