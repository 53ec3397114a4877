use Rattle.std.proofs.Common.{◌/◌, arith}
use Rattle.jsonb.proofs.numeric.zeros.Goals as goal

pub returns-then-group-ne0-2-clause-last : goal.returns-then-group-ne0-2-clause-last
returns-then-group-ne0-2-clause-last c = (c.args.group / 10, omega arith, λ h. omega arith)

pub returns-then-group-ne0-3-clause-last : goal.returns-then-group-ne0-3-clause-last
returns-then-group-ne0-3-clause-last c = (c.args.group / 100, omega arith, λ h. omega arith)

pub returns-clause-last : goal.returns-clause-last
returns-clause-last c = (c.args.group / 1000, omega arith, λ h. omega arith)
