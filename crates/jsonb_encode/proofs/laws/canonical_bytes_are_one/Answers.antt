use Rattle.jsonb_encode.proofs.Canonical.{canonical_one, canonical_is}
use Rattle.jsonb_encode.proofs.laws.canonical_bytes_are_one.Goals as goal

pub returns-clause-one : goal.returns-clause-one
returns-clause-one c = λ t b d h k. canonical_one t b d h k

pub returns-clause-written : goal.returns-clause-written
returns-clause-written c = λ t b h. canonical_is t b h
