use Rattle.std.proofs.Common.{ℕ, ◌+◌, ◌/◌, ◌≤◌, ◌≡◌, length}
use Rattle.json_exact.specs.Digits.{joined}
use Rattle.json_exact.specs.Groups.{groups_of, AreGroups}
use Rattle.json_exact.specs.inner.SignificantGroups.{HoldsGroups}
use Rattle.json_exact.proofs.GroupLaws.{after}
use Rattle.json_exact.proofs.decimal.groups_of.Given as goal

abbrev pub invariant-loop-rest : goal.invariant-loop-rest
invariant-loop-rest l = record {
  fit : AreGroups l.rest;
  few : l.groups.len + length l.rest / 2 ≤ length l.bytes / 2;
  held : (n : ℕ) × HoldsGroups l.groups n × (after 10000 n (groups_of l.rest) ≡ joined 10000 (groups_of l.bytes));
}

abbrev pub decreases-loop-rest : goal.decreases-loop-rest
decreases-loop-rest l = length l.rest
