use Rattle.std.proofs.Common.{ℕ, ◌<◌, get_or}
use Rattle.jsonb.proofs.ascii.ascii_of_short.Given as goal

abbrev pub invariant-loop-index : goal.invariant-loop-index
invariant-loop-index l = (i : ℕ) → i < l.index → get_or l.bytes i 0 < 128
