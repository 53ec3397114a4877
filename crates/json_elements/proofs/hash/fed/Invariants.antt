use Rattle.std.proofs.Common.{◌≡◌, drop}
use Rattle.json_elements.specs.Number.{fed as fed_bytes}
use Rattle.json_elements.proofs.hash.fed.Given as goal

abbrev pub invariant-loop-byte : goal.invariant-loop-byte
invariant-loop-byte l = fed_bytes l.all (drop l.byte-index l.bytes) ≡ fed_bytes l.state l.bytes
