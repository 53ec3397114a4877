use Rattle.std.proofs.Common.{rules, sym, subst, ◌∙◌, ◌≡◌, ℕ, ◌-◌, ◌*◌, ◌^◌, nat_abs}
use Rattle.json_exact.specs.declared.number_error.NumberError.TheVariants.{NotANumber, TooWide, OutOfRange}
use Rattle.json_exact.proofs.ParseLaws.{ok_not_refused, err_refused}
use Rattle.json_model.specs.Decimal.{Decimal as Written}
use Rattle.json_exact.specs.Parsed.{IsNumber}
use Rattle.json_exact.proofs.WorthLaws.{one_record, exact_as_written}
use Rattle.json_exact.proofs.number.Number.parse.Goals as goal

pub returns-in_err-decimal-clause-not_a_number : goal.returns-in_err-decimal-clause-not_a_number
returns-in_err-decimal-clause-not_a_number c =
    err_refused c.from_residual.result c.in_err-decimal.field-0.0 NotANumber c.args.text.now (search rules) c.in_err-decimal.ensures.read

pub returns-in_err-decimal-clause-too_wide : goal.returns-in_err-decimal-clause-too_wide
returns-in_err-decimal-clause-too_wide c =
    err_refused c.from_residual.result c.in_err-decimal.field-0.0 TooWide c.args.text.now (search rules) c.in_err-decimal.ensures.read

pub returns-in_err-decimal-clause-out_of_range : goal.returns-in_err-decimal-clause-out_of_range
returns-in_err-decimal-clause-out_of_range c =
    err_refused c.from_residual.result c.in_err-decimal.field-0.0 OutOfRange c.args.text.now (search rules) c.in_err-decimal.ensures.read

pub new-requires-clause-exact : goal.new-requires-clause-exact
new-requires-clause-exact c =
    let (w, n, worth, places) = c.in_ok-decimal.ensures.read in
    subst (λ (k : ℕ). (q : ℕ) × (nat_abs c.in_ok-decimal.decimal ≡ q * 10 ^ (16383 - k))) (sym places)
    (exact_as_written c.in_ok-decimal.decimal w worth n.in_range.1)

pub returns-clause-read : goal.returns-clause-read
returns-clause-read c =
    let (w, n, worth, places) = c.in_ok-decimal.ensures.read in
    subst (λ (v : Written). IsNumber c.args.text.now v)
    (one_record c.in_ok-decimal.decimal w c.new.result worth c.new.ensures.worth (sym places ∙ sym c.new.ensures.places)) n

pub returns-clause-not_a_number : goal.returns-clause-not_a_number
returns-clause-not_a_number c =
    ok_not_refused c.new.result NotANumber c.args.text.now (c.in_ok-decimal.ensures.read.0, c.in_ok-decimal.ensures.read.1)

pub returns-clause-too_wide : goal.returns-clause-too_wide
returns-clause-too_wide c = ok_not_refused c.new.result TooWide c.args.text.now (c.in_ok-decimal.ensures.read.0, c.in_ok-decimal.ensures.read.1)

pub returns-clause-out_of_range : goal.returns-clause-out_of_range
returns-clause-out_of_range c =
    ok_not_refused c.new.result OutOfRange c.args.text.now (c.in_ok-decimal.ensures.read.0, c.in_ok-decimal.ensures.read.1)
