use Rattle.std.proofs.Common.{◌≤◌}
use Rattle.json_model.specs.Tree.{Tree}
use Rattle.jsonb_layout.specs.Stands.{Stands}
use Rattle.judge.specs.Made.{AreValid}
use Rattle.judge.proofs.make.count_valid.Given as goal

abbrev pub invariant-loop-number : goal.invariant-loop-number
invariant-loop-number l = record {
  few : l.valid ≤ l.number;
  are : (k : Tree) → Stands l.keywords.items k → AreValid k l.number l.valid;
}
