use Rattle.std.proofs.Common.{◌<◌, ℕ}
use Rattle.distinct_places.proofs.paired.is_apart.Given as goal

abbrev pub invariant-loop-before : goal.invariant-loop-before
invariant-loop-before g l = (j : ℕ) → j < l.before → g.P.Places.same l.places j l.place → ⊥
