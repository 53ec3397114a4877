use Rattle.std.proofs.Common.{rules}
use Rattle.json_exact.specs.declared.number_error.NumberError.TheVariants.{NotANumber, TooWide, OutOfRange}
use Rattle.json_exact.proofs.ParseLaws.{ok_not_refused, err_refused}
use Rattle.json_exact.proofs.decimal.Decimal.parse.Goals as goal

pub returns-in_err-decimal-clause-not_a_number : goal.returns-in_err-decimal-clause-not_a_number
returns-in_err-decimal-clause-not_a_number c =
    err_refused c.from_residual.result c.in_err-decimal.field-0.0 NotANumber c.args.text.now (search rules) c.in_err-decimal.ensures.read

pub returns-in_err-decimal-clause-too_wide : goal.returns-in_err-decimal-clause-too_wide
returns-in_err-decimal-clause-too_wide c =
    err_refused c.from_residual.result c.in_err-decimal.field-0.0 TooWide c.args.text.now (search rules) c.in_err-decimal.ensures.read

pub returns-in_err-decimal-clause-out_of_range : goal.returns-in_err-decimal-clause-out_of_range
returns-in_err-decimal-clause-out_of_range c =
    err_refused c.from_residual.result c.in_err-decimal.field-0.0 OutOfRange c.args.text.now (search rules) c.in_err-decimal.ensures.read

pub returns-clause-not_a_number : goal.returns-clause-not_a_number
returns-clause-not_a_number c =
    ok_not_refused c.in_ok-decimal.decimal NotANumber c.args.text.now (c.in_ok-decimal.ensures.read.0, c.in_ok-decimal.ensures.read.1)

pub returns-clause-too_wide : goal.returns-clause-too_wide
returns-clause-too_wide c =
    ok_not_refused c.in_ok-decimal.decimal TooWide c.args.text.now (c.in_ok-decimal.ensures.read.0, c.in_ok-decimal.ensures.read.1)

pub returns-clause-out_of_range : goal.returns-clause-out_of_range
returns-clause-out_of_range c =
    ok_not_refused c.in_ok-decimal.decimal OutOfRange c.args.text.now (c.in_ok-decimal.ensures.read.0, c.in_ok-decimal.ensures.read.1)
