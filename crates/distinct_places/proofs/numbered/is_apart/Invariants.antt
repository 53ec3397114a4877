use Rattle.std.proofs.Common.{ℕ, suc}
use Rattle.std.specs.Prelude.{Option, None, Some}
use Rattle.distinct_places.specs.inner.Newest.{IsLeft}
use Rattle.distinct_places.proofs.numbered.is_apart.Given as goal

abbrev pub invariant-loop-cursor : goal.invariant-loop-cursor
invariant-loop-cursor g l = IsLeft (g.P.Places.same l.places) l.numbers l.place l.cursor

abbrev left : Option ℕ → ℕ
left None = 0
left (Some p) = suc p

abbrev pub decreases-loop-cursor : goal.decreases-loop-cursor
decreases-loop-cursor g l = left l.cursor
