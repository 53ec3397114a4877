use Rattle.std.proofs.Common.{ℕ, ◌<◌}
use Rattle.judge_c.specs.Many.{IsCodedAt}
use Rattle.judge_c.specs.inner.Read.{IsChecked}
use Rattle.judge_c.proofs.documents.judge_all.Given as goal

abbrev pub invariant-loop-i : goal.invariant-loop-i
invariant-loop-i g l = (j : ℕ) → j < l.i → IsCodedAt (IsChecked (g.R.Rules.passes l.rules)) l.documents l.offsets l.codes j
