use Rattle.std.proofs.Common.{◌≡◌, ◌∷◌, take}
use Rattle.jsonb_layout.specs.Layout.{words}
use Rattle.jsonb.proofs.encode.container.assemble.Given as goal

abbrev pub invariant-loop-entry : goal.invariant-loop-entry
invariant-loop-entry l = l.bytes.items ≡ words (l.flags ∷ take l.entry-index l.entries)
