use Rattle.std.proofs.Common.{◌≡◌, ◌≤◌, All, drop}
use Rattle.json_exact.proofs.group.last_index.Given as goal

-- the groups that were passed are 0
abbrev pub invariant-loop-index : goal.invariant-loop-index
invariant-loop-index l = record {
  within : 1 ≤ l.index;
  most : l.index ≤ 11;
  passed : All (λ g. g ≡ 0) (drop l.index l.groups);
}
