-- What an iterator gives up to its first end; of calls after the end nothing is said. This project's own.
use Rattle.std.specs.Prelude.{List, Option}
use Rattle.std.specs.Iterator.{AlwaysYields}

-- every run of calls from s, up to the first `None`, gives items that v takes to ys, in order
pub record Gives {S A B : Type 0} (steps : S → Option A → S → Type 0) (v : A → B) (s : S) (ys : List B) : Type 0 where
  pub always : AlwaysYields steps v s ys
