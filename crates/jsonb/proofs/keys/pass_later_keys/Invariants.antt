use Rattle.jsonb.specs.inner.Views.{place}
use Rattle.jsonb.proofs.KeyEnds.{EndsSoFar}
use Rattle.jsonb.proofs.keys.pass_later_keys.Given as goal

abbrev pub invariant-loop : goal.invariant-loop
invariant-loop l = EndsSoFar l.count l.counter l.before l.first (place l.current) (place l.fn.here)
