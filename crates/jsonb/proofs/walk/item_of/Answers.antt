use Rattle.std.proofs.Common.{arith}
use Rattle.jsonb.specs.inner.Views.{place}
use Rattle.jsonb.proofs.PieceLaws.{item_none, item_some}
use Rattle.jsonb.proofs.walk.item_of.Goals as goal

pub returns-in_err-piece : goal.returns-in_err-piece
returns-in_err-piece c =
    rw c.from_residual.ensures
    (item_none (place c.args.start) c.args.word (omega arith) (omega arith) c.in_err-piece.ensures.read)

pub returns : goal.returns
returns c =
    rw c.new-item.ensures
    (item_some (place c.args.start) c.args.word (omega arith) (omega arith) c.in_ok-piece.piece.now (place c.in_ok-piece.behind)
    c.in_ok-piece.ensures.read)
