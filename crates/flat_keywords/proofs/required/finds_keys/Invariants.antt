use Rattle.std.proofs.Common.{take}
use Rattle.json_model.specs.Parts.{pairs_of}
use Rattle.flat_keywords.specs.inner.Passes.{HasKeys}
use Rattle.flat_keywords.proofs.required.finds_keys.Given as goal

abbrev pub invariant-loop-place : goal.invariant-loop-place
invariant-loop-place g l = HasKeys (take l.place l.names) (pairs_of (g.N.Object.HasTree.tree l.object))
