use Rattle.std.proofs.Common.{◌/◌, ◌^◌, ◌≡◌, ◌≤◌, nat_abs}
use Rattle.json_exact.proofs.decimal.Decimal.whole_magnitude.Given as goal

-- the digits from the first down to the place, read as one number
abbrev pub invariant-loop-place : goal.invariant-loop-place
invariant-loop-place l = record {
  within : 16383 ≤ l.place;
  so_far : l.magnitude ≡ nat_abs l.self / 10 ^ l.place;
}
