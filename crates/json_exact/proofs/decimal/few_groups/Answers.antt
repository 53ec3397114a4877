use Rattle.json_exact.proofs.FewLaws.{few_held}
use Rattle.json_exact.proofs.decimal.few_groups.Goals as goal

pub returns-clause-holds : goal.returns-clause-holds
returns-clause-holds c = few_held c.args.bytes.now _ c.requires.groups c.requires.few c.requires.first cc
