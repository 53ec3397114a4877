use Rattle.jsonb_encode.proofs.TreeStands.{tree_stands}
use Rattle.jsonb_encode.proofs.laws.encoded_bytes_stand.Goals as goal

pub returns : goal.returns
returns c = λ f t value fit within. tree_stands f t value fit within
