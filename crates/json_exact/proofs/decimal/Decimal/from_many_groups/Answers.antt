use Rattle.std.proofs.Common.{rules, refl, arith}
use Rattle.json_exact.specs.Digits.{joined}
use Rattle.json_exact.specs.Groups.{groups_of}
use Rattle.json_exact.proofs.FieldLaws.{wide_moved}
use Rattle.json_exact.proofs.GroupLaws.{worth, not_wide, lifts}
use Rattle.json_exact.proofs.decimal.Decimal.from_many_groups.Goals as goal

pub returns-then-not-is_narrow-clause-value : goal.returns-then-not-is_narrow-clause-value
returns-then-not-is_narrow-clause-value c = λ q e narrow.
    let a = (c.is_narrow.ensures _ c.groups_of-kept.ensures.holds).1
    (wide_moved (joined 10000 (groups_of c.args.groups.now)) q _ _ (worth c.args.weight c.args.groups.now _ q c.requires.groups refl e) narrow) in
    let b = c.if-not-is_narrow.true in
    absurd cc

pub from_significant-requires-clause-kept : goal.from_significant-requires-clause-kept
from_significant-requires-clause-kept c =
    not_wide _ _ _ _ c.groups_of-kept.ensures.holds ((c.is_narrow.ensures _ c.groups_of-kept.ensures.holds).0 c.if-not-is_narrow.false)

pub from_significant-requires-clause-exact : goal.from_significant-requires-clause-exact
from_significant-requires-clause-exact c = (
  joined 10000 (groups_of c.args.groups.now),
  c.requires.exact.0,
  c.groups_of-kept.ensures.holds,
  (c.is_narrow.ensures _ c.groups_of-kept.ensures.holds).0 c.if-not-is_narrow.false,
  worth c.args.weight c.args.groups.now _ c.requires.exact.0 c.requires.groups
      (lifts _ c.args.weight (search rules) c.lifted.ensures) c.requires.exact.1,
)

pub from_significant-requires-clause-low : goal.from_significant-requires-clause-low
from_significant-requires-clause-low c = let g = c.groups_of-kept.ensures.len in omega arith

pub returns-clause-value : goal.returns-clause-value
returns-clause-value c = λ q e. c.from_significant.ensures.value _ q c.groups_of-kept.ensures.holds
    (worth c.args.weight c.args.groups.now _ q c.requires.groups (lifts _ c.args.weight (search rules) c.lifted.ensures) e)
