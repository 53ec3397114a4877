use Rattle.std.proofs.Common.{refl, sym}
use Rattle.json_exact.proofs.NumberLaws.{places_of, worth_of}
use Rattle.json_exact.proofs.number.Number.new.Goals as goal

pub returns-clause-places : goal.returns-clause-places
returns-clause-places c = sym (places_of (record { decimal = c.args.decimal; fraction_digits = c.args.fraction_digits }) _ refl)

pub returns-clause-worth : goal.returns-clause-worth
returns-clause-worth c =
    worth_of (record { decimal = c.args.decimal; fraction_digits = c.args.fraction_digits }) _
    (record { few = c.requires.few; exact = c.requires.exact }) refl
