use Rattle.jsonb_encode.proofs.Canonical.{canonical_sound}
use Rattle.jsonb_encode.proofs.CanonicalValues.{canonical_written}
use Rattle.jsonb_encode.proofs.laws.values_have_canonical_bytes.Goals as goal

pub returns-clause-some : goal.returns-clause-some
returns-clause-some c = λ t value within. canonical_written t value within

pub returns-clause-only_storable : goal.returns-clause-only_storable
returns-clause-only_storable c = λ t b h. (canonical_sound t b h).0

pub returns-clause-only_within_limits : goal.returns-clause-only_within_limits
returns-clause-only_within_limits c = λ t b h. (canonical_sound t b h).1
