use Rattle.std.proofs.Common.{subst, sym, arith}
use Rattle.jsonb.specs.inner.Views.{place}
use Rattle.jsonb.specs.inner.Widths.{IsPlain}
use Rattle.jsonb.proofs.NextItem.{piece_is}
use Rattle.jsonb.proofs.PlainLaws.{item_is}
use Rattle.jsonb.proofs.Scalars.{scalars_left, scalars_plain}
use Rattle.jsonb.proofs.search.pass_plain.Goals as goal

pub loop-left-init : goal.loop-left-init
loop-left-init c = scalars_left c.args.frame.now.left (place c.args.frame.now.start) c.if-frame-left.false

pub first_item-requires : goal.first_item-requires
first_item-requires c = omega (arith, c.loop-left-test.true, c.loop-left.invariant.room)

pub is_plain-requires : goal.is_plain-requires
is_plain-requires c =
    rw c.piece.ensures.piece (piece_is (place c.loop-left.current) (place c.in-Some.behind) c.in-Some.item (sym c.in-Some.ensures))

pub loop-left-preserved : goal.loop-left-preserved
loop-left-preserved c =
    scalars_plain c.loop-left.invariant c.loop-left-test.true (place c.in-Some.behind) c.in-Some.item c.in-Some.ensures
    (subst (IsPlain c.loop-left.current.at) (item_is _ _ c.in-Some.item c.number.ensures c.piece.ensures.piece)
    (c.is_plain.ensures c.if-not-is_plain.false))
