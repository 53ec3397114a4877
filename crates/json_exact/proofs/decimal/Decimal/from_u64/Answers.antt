use Rattle.std.proofs.Common.{◌*◌, arith}
use Rattle.json_exact.specs.Exact.{parts}
use Rattle.json_exact.proofs.GroupLaws.{not_wide}
use Rattle.json_exact.proofs.MachineLaws.{few_digits, all_up}
use Rattle.json_exact.proofs.decimal.Decimal.from_u64.Goals as goal

pub from_significant-requires-clause-kept : goal.from_significant-requires-clause-kept
from_significant-requires-clause-kept c = not_wide _ _ _ _ c.of_number-groups.ensures.holds (few_digits c.args.value (omega arith))

pub from_significant-requires-clause-exact : goal.from_significant-requires-clause-exact
from_significant-requires-clause-exact c =
    (c.args.value, c.args.value * parts, c.of_number-groups.ensures.holds, few_digits c.args.value (omega arith), all_up c.args.value)

pub returns-clause-value : goal.returns-clause-value
returns-clause-value c = c.from_significant.ensures.value c.args.value (c.args.value * parts) c.of_number-groups.ensures.holds (all_up c.args.value)
