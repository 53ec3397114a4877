use Rattle.std.proofs.Common.{ℕ, ◌+◌, ◌-◌, ◌≤◌, ◌≡◌, map, length, take}
use Rattle.json_exact.specs.inner.Reading.{digit_count}
use Rattle.json_exact.specs.inner.SignificantDigits.{Holds}
use Rattle.json_exact.proofs.GroupLaws.{after}
use Rattle.json_exact.proofs.literal.push_digits.Given as goal

abbrev pub invariant-loop-rest : goal.invariant-loop-rest
invariant-loop-rest l = record {
  counted : digit_count l.bytes ≡ l.count + digit_count l.rest;
  few : l.count + length l.rest ≡ length l.bytes;
  room : l.digits.len ≤ l.initial.digits.len + l.count;
  held : (n : ℕ) → Holds l.initial.digits n
      → (m : ℕ) × Holds l.digits m
      × (after 10 m (map (λ c. c - 48) (take (digit_count l.rest) l.rest)) ≡ after 10 n (map (λ c. c - 48) (take (digit_count l.bytes) l.bytes)));
}

abbrev pub decreases-loop-rest : goal.decreases-loop-rest
decreases-loop-rest l = length l.rest
