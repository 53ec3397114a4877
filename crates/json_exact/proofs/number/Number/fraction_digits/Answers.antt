use Rattle.json_exact.proofs.NumberLaws.{places_of}
use Rattle.json_exact.proofs.number.Number.fraction_digits.Goals as goal

pub returns-clause-places : goal.returns-clause-places
returns-clause-places c = places_of c.self.inside _ c.self.view_is
