use Rattle.std.proofs.Common.{inr, refl, ap, ◌∙◌, length, length-append, arith}
use Rattle.json_model.proofs.KindLaws.{if_object_is, object_some}
use Rattle.json_model.specs.Parts.{pairs_of}
use Rattle.json_traits.proofs.GivesLaws.{left_item, left_end}
use Rattle.flat_keywords.specs.Names.{reading_of}
use Rattle.flat_keywords.proofs.Compiling.{starts, free_now, goes_on, stops, stops_at_copied, stops_with_memory, ends, fault_read, name_read, took_read}
use Rattle.flat_keywords.proofs.checks.Checks.compile_draft.Goals as goal

pub loop-name-init : goal.loop-name-init
loop-name-init g c =
    let t = g.N.HasTree.tree c.args.root.now in
    let same = if_object_is t c.in-Some.ensures in
    record {
      can = rw c.into_iter-name-iterator.ensures.into_iter_gives c.members-name-items.ensures.can;
      ends = rw c.into_iter-name-iterator.ensures.into_iter_gives c.members-name-items.ensures.ends;
      left = rw (c.into_iter-name-iterator.ensures.into_iter_gives, ← same) c.members-name-items.ensures.gives;
      place = refl;
      counted = c.len-count.ensures ∙ ap (λ u. length (pairs_of u)) same;
      reads = c.of-reading.ensures ∙ ap (reading_of c.args.draft) same;
      walked = starts c.args.draft t c.empty-checks.result (rw (object_some t c.in-Some.ensures) refl)
          (rw (← same) c.members-name-items.ensures.rise) c.empty-checks.ensures.passes c.empty-checks.ensures.free c.empty-checks.ensures.memory;
    }

pub take_member-requires : goal.take_member-requires
take_member-requires g c κs =
    let t = g.N.HasTree.tree c.args.root.now in
    let k = length c.loop-name.yielded in
    let r = left_item {j = c.next.new.self} (pairs_of t) k c.loop-name.invariant.left c.in-Some-2.ensures.steps in (
      (refl, tt),
      λ w e. free_now c.args.draft t c.loop-name.checks k (c.in-Some-2.name.now, g.N.HasTree.tree c.in-Some-2.value) r.0
          c.loop-name.invariant.walked w
          (name_read _ (reading_of c.args.draft t) c.in-Some-2.name.now w c.loop-name.invariant.reads e),
    )

pub returns-in-Err-clause-right : goal.returns-in-Err-clause-right
returns-in-Err-clause-right g c =
    let t = g.N.HasTree.tree c.args.root.now in
    let k = length c.loop-name.yielded in
    let r = left_item {j = c.next.new.self} (pairs_of t) k c.loop-name.invariant.left c.in-Some-2.ensures.steps in
    stops c.args.draft t c.loop-name.checks k (c.in-Some-2.name.now, g.N.HasTree.tree c.in-Some-2.value) r.0 c.loop-name.invariant.walked
    c.loop-name.member c.in-Err.error c.loop-name.invariant.place
    (fault_read _ (reading_of c.args.draft t) c.loop-name.member (c.in-Some-2.name.now, g.N.HasTree.tree c.in-Some-2.value)
    c.in-Err.error c.loop-name.invariant.reads c.in-Err.ensures.err)

pub returns-in-Err-clause-memory : goal.returns-in-Err-clause-memory
returns-in-Err-clause-memory g c =
    let t = g.N.HasTree.tree c.args.root.now in
    let k = length c.loop-name.yielded in
    let r = left_item {j = c.next.new.self} (pairs_of t) k c.loop-name.invariant.left c.in-Some-2.ensures.steps in
    stops_at_copied c.args.draft t c.loop-name.checks k (c.in-Some-2.name.now, g.N.HasTree.tree c.in-Some-2.value) r.0
    c.loop-name.invariant.walked c.loop-name.member c.in-Err.error
    (fault_read _ (reading_of c.args.draft t) c.loop-name.member (c.in-Some-2.name.now, g.N.HasTree.tree c.in-Some-2.value)
    c.in-Err.error c.loop-name.invariant.reads c.in-Err.ensures.err)

pub returns-in-Err-clause-free : goal.returns-in-Err-clause-free
returns-in-Err-clause-free g c =
    let t = g.N.HasTree.tree c.args.root.now in
    let k = length c.loop-name.yielded in
    let r = left_item {j = c.next.new.self} (pairs_of t) k c.loop-name.invariant.left c.in-Some-2.ensures.steps in
    stops_with_memory c.args.draft t c.loop-name.checks k (c.in-Some-2.name.now, g.N.HasTree.tree c.in-Some-2.value) r.0
    c.loop-name.invariant.walked c.loop-name.member c.in-Err.error
    (fault_read _ (reading_of c.args.draft t) c.loop-name.member (c.in-Some-2.name.now, g.N.HasTree.tree c.in-Some-2.value)
    c.in-Err.error c.loop-name.invariant.reads c.in-Err.ensures.err)

pub loop-name-preserved : goal.loop-name-preserved
loop-name-preserved g c =
    let t = g.N.HasTree.tree c.args.root.now in
    let k = length c.loop-name.yielded in
    let r = left_item {j = c.next.new.self} (pairs_of t) k c.loop-name.invariant.left c.in-Some-2.ensures.steps in
    record {
      can = c.in-Some-2.ensures.goes.keeps;
      ends = (c.in-Some-2.ensures.goes.on c.loop-name.invariant.ends).1;
      left = simp length-append r.1;
      place = simp length-append (let e = c.loop-name.invariant.place in omega arith);
      counted = c.loop-name.invariant.counted;
      reads = c.loop-name.invariant.reads;
      walked = simp length-append (goes_on c.args.draft t c.loop-name.checks k (c.in-Some-2.name.now, g.N.HasTree.tree c.in-Some-2.value) r.0
          c.loop-name.invariant.walked c.take_member.new.self
          (took_read _ (reading_of c.args.draft t) c.loop-name.checks (c.in-Some-2.name.now, g.N.HasTree.tree c.in-Some-2.value)
          c.take_member.new.self c.loop-name.invariant.reads c.in-Ok.ensures.ok));
    }

pub returns-clause-right : goal.returns-clause-right
returns-clause-right g c =
    let t = g.N.HasTree.tree c.args.root.now in
    let k = length c.loop-name.yielded in
    inr (ends c.args.draft t c.loop-name.checks k (left_end {u = c.next.new.self} (pairs_of t) k c.loop-name.invariant.left
    c.in-None.ensures.steps) c.loop-name.invariant.walked)
