use Rattle.jsonb.specs.inner.Views.{place}
use Rattle.jsonb.proofs.Walks.{Passes}
use Rattle.jsonb.proofs.walk.pass.Given as goal

abbrev pub invariant-loop : goal.invariant-loop
invariant-loop l = Passes l.count l.counter (place l.current) (place l.start)
