use Rattle.jsonb_encode.proofs.NumberStands.{number_stands}
use Rattle.jsonb_encode.proofs.laws.numbers_stand.Goals as goal

pub returns : goal.returns
returns c = λ f d range fit. number_stands f d range fit
