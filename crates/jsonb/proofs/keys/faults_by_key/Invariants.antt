use Rattle.std.specs.Prelude.{option_map}
use Rattle.jsonb.specs.inner.Views.{place}
use Rattle.jsonb.proofs.KeyLoop.{KeysSoFar}
use Rattle.jsonb.proofs.keys.faults_by_key.Given as goal

abbrev pub invariant-loop : goal.invariant-loop
invariant-loop l = KeysSoFar l.found l.count l.counter (option_map (λ x. x.now) l.before) (place l.current) (place l.start)
