use Rattle.jsonb.proofs.KeyLoop.{keys_begin, key_none, key_stops, key_goes_on, keys_done}
use Rattle.jsonb.proofs.keys.faults_by_key.Goals as goal

pub loop-init : goal.loop-init
loop-init c = keys_begin _ _

pub returns-in_err-item : goal.returns-in_err-item
returns-in_err-item c = rw c.from_residual.ensures (key_none c.loop.invariant c.loop-test.true c.in_err-item.ensures)

pub returns-then-not-is_key : goal.returns-then-not-is_key
returns-then-not-is_key c = key_stops c.loop.invariant c.loop-test.true c.in_ok-item.ensures c.if-not-is_key.ensures

pub loop-preserved : goal.loop-preserved
loop-preserved c =
    rw (c.with-found.ensures, c.is_text-text.ensures, c.piece-piece.ensures.piece)
    (key_goes_on c.loop.invariant c.loop-test.true c.in_ok-item.ensures c.if-not-is_key.ensures)

pub returns : goal.returns
returns c = keys_done c.loop.invariant c.loop-test.false
