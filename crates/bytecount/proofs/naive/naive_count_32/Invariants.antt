use Rattle.std.proofs.Common.{◌≡◌, take, count_by}
use Rattle.std.specs.Prelude.{◌==◌}
use Rattle.bytecount.proofs.naive.naive_count_32.Given as goal

abbrev pub invariant-loop-byte : goal.invariant-loop-byte
invariant-loop-byte l = l.total ≡ count_by (λ b. b == l.needle) (take l.byte-index l.haystack)
