use Rattle.distinct_places.specs.Apart.{AreApart}
use Rattle.distinct_places.proofs.paired.are_apart.Given as goal

abbrev pub invariant-loop-place : goal.invariant-loop-place
invariant-loop-place g l = AreApart (g.P.Places.same l.places) l.place
