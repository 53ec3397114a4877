use Rattle.json_elements.proofs.SameNumbers.{same_number}
use Rattle.json_elements.proofs.laws.the_same_have_one_number.Goals as goal

pub returns : goal.returns
returns c = same_number
