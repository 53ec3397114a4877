use Rattle.std.proofs.Common.{refl, sym}
use Rattle.json_exact.proofs.FewLaws.{group_at, no_group}
use Rattle.json_exact.proofs.decimal.group_or_zero.Goals as goal

pub returns-then-index-bytes : goal.returns-then-index-bytes
returns-then-index-bytes c = sym (no_group _ _ c.requires.groups c.if-index-bytes.true)

pub returns : goal.returns
returns c = group_at _ _ _ _ refl refl c.if-index-bytes.false
