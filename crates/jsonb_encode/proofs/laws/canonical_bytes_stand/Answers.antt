use Rattle.jsonb_encode.proofs.Canonical.{canonical_stands}
use Rattle.jsonb_encode.proofs.laws.canonical_bytes_stand.Goals as goal

pub returns : goal.returns
returns c = λ t b h. canonical_stands t b h
