use Rattle.std.proofs.Common.{refl, sym, subst, ◌∙◌, arith}
use Rattle.jsonb.specs.Found.{nothing}
use Rattle.jsonb.specs.inner.Widths.{IsPlain}
use Rattle.jsonb.proofs.PlainLaws.{item_is}
use Rattle.jsonb.proofs.FoundLaws.{both_nothing}
use Rattle.std.proofs.lemmas.Bool.{eqb-false}
use Rattle.jsonb.specs.inner.Views.{place}
use Rattle.jsonb.proofs.NextItem.{piece_is}
use Rattle.jsonb.proofs.FrameLaws.{few_values}
use Rattle.jsonb.proofs.Scalars.{added_left, added_miss, added_stop, added_more, added_done}
use Rattle.jsonb.proofs.search.read_scalars.Goals as goal
use Rattle.jsonb.proofs.search.read_scalars.Goals.{then-not-is_plain+in-Some-scalar_faults, else-not-is_plain}

pub loop-left-init : goal.loop-left-init
loop-left-init c = added_left c.args.found.now c.args.frame.now.left (place c.args.frame.now.start) c.if-frame-left.false

pub first_item-requires : goal.first_item-requires
first_item-requires c = omega (arith, c.loop-left-test.true, c.loop-left.invariant.read.room)

pub returns-then-frame-left-clause-found : goal.returns-then-frame-left-clause-found
returns-then-frame-left-clause-found c = few_values c.args.frame.now.left (place c.args.frame.now.start) c.if-frame-left.true

pub returns-in_default-clause-found : goal.returns-in_default-clause-found
returns-in_default-clause-found c = added_miss c.loop-left.invariant c.loop-left-test.true c.in_default.ensures

pub is_plain-requires : goal.is_plain-requires
is_plain-requires c =
    rw c.piece.ensures.piece (piece_is (place c.loop-left.current) (place c.in-Some.behind) c.in-Some.item (sym c.in-Some.ensures))

pub returns-in_default-scalar_faults-clause-found : goal.returns-in_default-scalar_faults-clause-found
returns-in_default-scalar_faults-clause-found c =
    added_stop c.loop-left.invariant c.loop-left-test.true (place c.in-Some.behind) c.in-Some.item c.in-Some.ensures
    (eqb-false c.in-Some.item.kind 5 (sym c.if-is_container.ensures)) c.in_default-scalar_faults.ensures

pub loop-left-preserved : goal.loop-left-preserved
loop-left-preserved c =
    let x = c.in-Some.item in
    let other = eqb-false x.kind 5 (sym c.if-is_container.ensures) in
    let more = added_more c.loop-left.invariant c.loop-left-test.true (place c.in-Some.behind) x c.in-Some.ensures other in
    elim c.if-not-is_plain.branch [
      | then-not-is_plain+in-Some-scalar_faults w ↦
          more w.in-Some-scalar_faults.more c.if-not-is_plain.found (w.found-is ∙ w.with.ensures) w.in-Some-scalar_faults.ensures
      | else-not-is_plain w ↦
          let plain = c.is_plain.ensures w.if-not-is_plain.false in
          more nothing c.if-not-is_plain.found (w.found-is ∙ sym (both_nothing _))
          (sym (subst (IsPlain c.loop-left.current.at) (item_is _ _ x c.number.ensures c.piece.ensures.piece) plain))
    ]

pub returns-clause-found : goal.returns-clause-found
returns-clause-found c =
    added_done c.args.frame.now (record { left = c.loop-left.left; start = c.loop-left.current }) c.loop-left.invariant refl refl refl
