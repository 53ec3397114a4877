use Rattle.std.proofs.Common.{List, take}
use Rattle.jsonb_encode.specs.inner.Contents.{Placed, placed, AreOf, shape_of}
use Rattle.jsonb_encode.specs.inner.Writing.{IsOpen}
use Rattle.jsonb_encode.proofs.contents.Contents.write.Given as goal

abbrev pub invariant-loop-index : goal.invariant-loop-index
invariant-loop-index l = (gs : List Placed) → AreOf l.form l.self gs
    → IsOpen (shape_of l.self) l.count l.items (placed (take l.index gs) 0) l.fn.bytes.items l.bytes.items
