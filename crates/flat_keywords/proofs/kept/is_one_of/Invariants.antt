use Rattle.std.proofs.Common.{take}
use Rattle.flat_keywords.specs.inner.Passes.{IsListed}
use Rattle.flat_keywords.proofs.kept.is_one_of.Given as goal

abbrev pub invariant-loop-place : goal.invariant-loop-place
invariant-loop-place g l = IsListed (g.N.HasTree.tree l.node) (take l.place l.values) → ⊥
