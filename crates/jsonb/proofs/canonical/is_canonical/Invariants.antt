use Rattle.jsonb.specs.inner.Canonical.{pending_weight}
use Rattle.jsonb.proofs.CanonicalLaws.{IsLeft}
use Rattle.jsonb.proofs.canonical.is_canonical.Given as goal

abbrev pub invariant-loop-values : goal.invariant-loop-values
invariant-loop-values l = IsLeft l.fn.node l.pending.items

abbrev pub decreases-loop-values : goal.decreases-loop-values
decreases-loop-values l = pending_weight l.pending.items
