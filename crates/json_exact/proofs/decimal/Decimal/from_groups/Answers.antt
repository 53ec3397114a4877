use Rattle.std.proofs.Common.{rules, sym, subst, ℤ, w16, arith}
use Rattle.std.proofs.lemmas.Int.{to_z-of_z}
use Rattle.json_exact.specs.Digits.{joined}
use Rattle.json_exact.specs.Groups.{groups_of, AreWorth}
use Rattle.json_exact.proofs.DigitLaws.{above_none}
use Rattle.json_exact.proofs.FewLaws.{few_are_narrow}
use Rattle.json_exact.proofs.GroupLaws.{worth, lifts}
use Rattle.json_exact.proofs.decimal.Decimal.from_groups.Goals as goal

pub few_groups-kept-requires : goal.few_groups-kept-requires
few_groups-kept-requires c = record {
  groups = c.requires.groups;
  few = omega arith;
  first = (let p = above_none _ c.if-group_or_zero-eq0.false in omega arith);
}

pub from_significant-requires-clause-exact : goal.from_significant-requires-clause-exact
from_significant-requires-clause-exact c = (
  joined 10000 (groups_of c.args.groups.now),
  c.requires.exact.0,
  c.few_groups-kept.ensures.holds,
  few_are_narrow c.args.groups.now c.requires.groups (search rules),
  worth c.args.weight c.args.groups.now _ c.requires.exact.0 c.requires.groups
      (lifts _ c.args.weight (search rules) c.lifted.ensures) c.requires.exact.1,
)

pub returns-clause-value : goal.returns-clause-value
returns-clause-value c = λ q e. c.from_significant.ensures.value _ q c.few_groups-kept.ensures.holds
    (worth c.args.weight c.args.groups.now _ q c.requires.groups (lifts _ c.args.weight (search rules) c.lifted.ensures) e)

pub returns-then-count-gt-FEW_GROUPS-clause-value : goal.returns-then-count-gt-FEW_GROUPS-clause-value
returns-then-count-gt-FEW_GROUPS-clause-value c = λ q e. c.in_ok-decimal.ensures.value q
    (subst (λ (w : ℤ). AreWorth w (groups_of c.args.groups.now) q) (sym (to_z-of_z w16 c.args.weight (search rules))) e)
