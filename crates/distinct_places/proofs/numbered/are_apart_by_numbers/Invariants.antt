use Rattle.std.proofs.Common.{◌≡◌, ◌<◌, ℕ, length, slice_index, slice_index_or, nat_eq}
use Rattle.std.specs.Prelude.{Option}
use Rattle.std.specs.HashMap.{get}
use Rattle.distinct_places.specs.Apart.{AreApart}
use Rattle.distinct_places.specs.inner.Newest.{IsNewest}
use Rattle.distinct_places.proofs.numbered.are_apart_by_numbers.Given as goal

abbrev pub invariant-loop-place : goal.invariant-loop-place
invariant-loop-place g l = record {
  len : length l.older.items ≡ l.place;
  older : (j : ℕ) (d : Option ℕ) → j < l.place → IsNewest l.numbers j (slice_index l.numbers j) (slice_index_or l.older.items j d);
  newest : (h : ℕ) → IsNewest l.numbers l.place h (get nat_eq l.newest h);
  apart : AreApart (g.P.Places.same l.places) l.place;
}
