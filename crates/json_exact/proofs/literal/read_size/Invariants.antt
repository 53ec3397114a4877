use Rattle.std.proofs.Common.{ℕ, ◌-◌, ◌≡◌, map, length}
use Rattle.json_exact.specs.inner.Reading.{all_digits, capped}
use Rattle.json_exact.proofs.GroupLaws.{after}
use Rattle.json_exact.proofs.literal.read_size.Given as goal

abbrev pub invariant-loop-rest : goal.invariant-loop-rest
invariant-loop-rest l = record {
  all : all_digits l.bytes ≡ all_digits l.rest;
  so_far : (n : ℕ) × (l.size ≡ capped n) × (after 10 n (map (λ c. c - 48) l.rest) ≡ after 10 0 (map (λ c. c - 48) l.bytes));
}

abbrev pub decreases-loop-rest : goal.decreases-loop-rest
decreases-loop-rest l = length l.rest
