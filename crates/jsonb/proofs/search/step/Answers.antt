use Rattle.std.proofs.Common.{Bool, None, Some, length, subst, sym, ap, refl, ◌-◌, ◌∙◌, arith}
use Rattle.std.proofs.lemmas.Bool.{eqb-true, eqb-false, false≢true}
use Rattle.std.proofs.lemmas.Result.{err_from_is_err_and}
use Rattle.jsonb_layout.specs.inner.Reading.{unpadded}
use Rattle.jsonb.specs.declared.found.Found.{Found}
use Rattle.jsonb.specs.declared.frame.Frame.{Frame}
use Rattle.jsonb.specs.Found.{nothing, both}
use Rattle.jsonb.specs.inner.Frames.{container_found, frame_found, IsAdded}
use Rattle.jsonb.specs.inner.Views.{place}
use Rattle.jsonb.proofs.FoundLaws.{both_nothing, both_assoc}
use Rattle.jsonb.proofs.FrameLaws.{past_end, scalar_none, scalar_some, is_inside, inside_none, inside_some}
use Rattle.jsonb.proofs.AdvanceLaws.{NextValue, item_there, popped_none, popped_some, no_item, refused_item, took_is, took_scalar, took_inside, not_put_off}
use Rattle.jsonb.proofs.Scalars.{others_there, others_refused}
use Rattle.jsonb.proofs.search.step.Goals as goal

pub returns-then-not-is_empty : goal.returns-then-not-is_empty
returns-then-not-is_empty c =
    past_end c.args.frame.now.left (place c.args.frame.now.start) c.if-frame-eq0.true (eqb-false _ 0 (sym c.if-not-is_empty.ensures))

pub returns-in_default : goal.returns-in_default
returns-in_default c =
    let e = c.in_default.ensures in (
      nothing,
      sym (both_nothing c.args.found.now),
      popped_none c.args.frame.now c.args.suspended.now.items c.pop.new.self.items c.if-frame-eq0.true (eqb-true _ 0 (sym c.if-not-is_empty.ensures))
          _ e.items e.rest (λ h. false≢true (e.variant.1 h)),
    )

pub returns-then-frame-eq0 : goal.returns-then-frame-eq0
returns-then-frame-eq0 c = (
  nothing,
  sym (both_nothing c.args.found.now),
  popped_some c.args.frame.now c.args.suspended.now.items c.pop.new.self.items c.if-frame-eq0.true (eqb-true _ 0 (sym c.if-not-is_empty.ensures))
      c.in-Some.next c.in-Some.ensures.items,
)

pub returns-in_default-next_item : goal.returns-in_default-next_item
returns-in_default-next_item c = no_item c.args.frame.now c.if-frame-eq0.false c.in_default-next_item.ensures

pub returns-in_default-scalar_faults : goal.returns-in_default-scalar_faults
returns-in_default-scalar_faults c =
    let x = c.in-Some-next_item.item in
    let next = item_there c.args.frame.now x (place c.in-Some-next_item.start) c.if-frame-eq0.false c.in-Some-next_item.ensures in
    let at = c.args.frame.now.start.at in
    refused_item next (scalar_none at x (eqb-false x.kind 5 (sym c.if-not-is_container.ensures)) c.in_default-scalar_faults.ensures)

pub returns-in_default-unpad : goal.returns-in_default-unpad
returns-in_default-unpad c =
    let x = c.in-Some-next_item.item in
    let next = item_there c.args.frame.now x (place c.in-Some-next_item.start) c.if-frame-eq0.false c.in-Some-next_item.ensures in
    let at = c.args.frame.now.start.at in
    let five = eqb-true x.kind 5 (sym c.if-not-is_container.ensures) in
    refused_item next (inside_none at x five (c.in_default-unpad.ensures.read ∙ ap (unpadded at) c.piece.ensures.piece))

pub returns-in_err-suspend : goal.returns-in_err-suspend
returns-in_err-suspend c =
    let x = c.in-Some-next_item.item in
    let next = item_there c.args.frame.now x (place c.in-Some-next_item.start) c.if-frame-eq0.false c.in-Some-next_item.ensures in
    let at = c.args.frame.now.start.at in
    let five = eqb-true x.kind 5 (sym c.if-not-is_container.ensures) in
    let b = c.in-Some-unpad.bytes.now in
    let e = c.in-Some-unpad.ensures.read ∙ ap (unpadded at) c.piece.ensures.piece in
    let p = err_from_is_err_and c.from_residual.result c.from_residual.ensures.1 in
    rw (p.1, p.2) (not_put_off next c.in_err-suspend.field-0.0 (is_inside at x b five e) c.in_err-suspend.ensures.cause)

pub returns-then-not-enter : goal.returns-then-not-enter
returns-then-not-enter c =
    let x = c.in-Some-next_item.item in
    let next = item_there c.args.frame.now x (place c.in-Some-next_item.start) c.if-frame-eq0.false c.in-Some-next_item.ensures in
    let at = c.args.frame.now.start.at in
    let five = eqb-true x.kind 5 (sym c.if-not-is_container.ensures) in
    let b = c.in-Some-unpad.bytes.now in
    let e = c.in-Some-unpad.ensures.read ∙ ap (unpadded at) c.piece.ensures.piece in
    let h = subst (λ (t : Bool). IsAdded (container_found b) c.args.found.now c.enter.new.found c.enter.new.frame t) c.if-not-enter.true
    c.enter.ensures.found in
    refused_item next (inside_some at x b five e ∙ h)

pub returns : goal.returns
returns c =
    let x = c.in-Some-next_item.item in
    let next = item_there c.args.frame.now x (place c.in-Some-next_item.start) c.if-frame-eq0.false c.in-Some-next_item.ensures in
    let at = c.args.frame.now.start.at in
    let five = eqb-true x.kind 5 (sym c.if-not-is_container.ensures) in
    let b = c.in-Some-unpad.bytes.now in
    let e = c.in-Some-unpad.ensures.read ∙ ap (unpadded at) c.piece.ensures.piece in
    let h = subst (λ (t : Bool). IsAdded (container_found b) c.args.found.now c.enter.new.found c.enter.new.frame t) c.if-not-enter.false
    c.enter.ensures.found in
    let value : NextValue next = record { found = h.0; inner = Some c.enter.new.frame; is = inside_some at x b five e ∙ h.2 } in
    let weight = c.enter.ensures.weight c.if-not-enter.false in (
      h.0,
      h.1,
      took_inside next value c.args.suspended.now.items c.suspend.new.suspended.items c.enter.new.frame refl (is_inside at x b five e)
          (omega (arith, weight, c.in-Some-unpad.ensures.len, ap length c.piece.ensures.piece)) c.in_ok-suspend.ensures.found
          c.in_ok-suspend.ensures.weight,
    )

pub returns-then-not-read_scalars : goal.returns-then-not-read_scalars
returns-then-not-read_scalars c =
    let x = c.in-Some-next_item.item in
    let next = item_there c.args.frame.now x (place c.in-Some-next_item.start) c.if-frame-eq0.false c.in-Some-next_item.ensures in
    let at = c.args.frame.now.start.at in
    let f = c.in-Some-scalar_faults in
    let value : NextValue next =
    record { found = f.more; inner = None; is = scalar_some at x f.more (eqb-false x.kind 5 (sym c.if-not-is_container.ensures)) f.ensures } in
    let rest : Frame = record { left = c.args.frame.now.left - 1; start = c.in-Some-next_item.start } in
    let added = λ (t : Bool). IsAdded (frame_found rest) c.with.result c.read_scalars.new.found c.read_scalars.new.frame t in
    others_refused c.args.frame.now rest f.more (took_is next value rest refl refl refl)
    (subst added c.if-not-read_scalars.true c.read_scalars.ensures.found)

pub returns-then-not-is_container : goal.returns-then-not-is_container
returns-then-not-is_container c =
    let x = c.in-Some-next_item.item in
    let next = item_there c.args.frame.now x (place c.in-Some-next_item.start) c.if-frame-eq0.false c.in-Some-next_item.ensures in
    let at = c.args.frame.now.start.at in
    let f = c.in-Some-scalar_faults in
    let value : NextValue next =
    record { found = f.more; inner = None; is = scalar_some at x f.more (eqb-false x.kind 5 (sym c.if-not-is_container.ensures)) f.ensures } in
    let rest : Frame = record { left = c.args.frame.now.left - 1; start = c.in-Some-next_item.start } in
    let added = λ (t : Bool). IsAdded (frame_found rest) c.with.result c.read_scalars.new.found c.read_scalars.new.frame t in
    let h = subst added c.if-not-read_scalars.false c.read_scalars.ensures.found in (
      both f.more h.0,
      h.1 ∙ ap (λ (a : Found). both a h.0) c.with.ensures ∙ both_assoc c.args.found.now f.more h.0,
      others_there f.more h.0 (took_is next value rest refl refl refl) c.args.suspended.now.items
          (took_scalar next value rest refl refl refl c.args.suspended.now.items) h.2 (c.read_scalars.ensures.shorter c.if-not-read_scalars.false),
    )
