use Rattle.std.proofs.Common.{ℕ, ◌+◌, ◌*◌, ◌^◌, ◌≤◌, ◌<◌, ◌≡◌}
use Rattle.json_exact.specs.inner.SignificantGroups.{HoldsGroups}
use Rattle.json_exact.proofs.RegroupLaws.{read}
use Rattle.json_exact.proofs.regrouping.regrouped.Given as goal

-- whole groups are held, and the digits behind them
abbrev pub invariant-loop-index : goal.invariant-loop-index
invariant-loop-index l = record {
  few : l.filled < 4;
  below : l.group < 10 ^ l.filled;
  whole : (k : ℕ) × (l.padding + l.index ≡ 4 * k + l.filled) × (l.groups.len ≤ k);
  held : (n : ℕ) × HoldsGroups l.groups n × (n * 10 ^ l.filled + l.group ≡ read 0 l.digits l.index);
}
