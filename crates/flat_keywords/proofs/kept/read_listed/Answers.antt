use Rattle.std.proofs.Common.{refl, length, length-append}
use Rattle.json_model.proofs.KindLaws.{array_some}
use Rattle.json_model.specs.Parts.{elements_of}
use Rattle.json_traits.proofs.GivesLaws.{left_item, left_end}
use Rattle.flat_keywords.proofs.KeptValues.{deep_at, ends, goes_on}
use Rattle.flat_keywords.proofs.kept.read_listed.Goals as goal

pub returns-in-Err-TooDeep : goal.returns-in-Err-TooDeep
returns-in-Err-TooDeep g c =
    let t = g.N.HasTree.tree c.args.value.now in
    let k = length c.loop-element.yielded in
    let r = left_item {j = c.next.new.self} (elements_of t) k c.loop-element.invariant.left c.in-Some-element.ensures.steps in
    let deep = c.own_value.ensures.deep.0 (let is = c.in-Err-TooDeep.is in let error = c.in-Err-TooDeep.field-0-is in cc) in
    (refl, rw (array_some t c.in-Some.ensures) refl, deep_at (elements_of t) k (g.N.HasTree.tree c.in-Some-element.element) r.0.here deep)

pub loop-element-preserved : goal.loop-element-preserved
loop-element-preserved g c =
    let t = g.N.HasTree.tree c.args.value.now in
    let k = length c.loop-element.yielded in
    let r = left_item {j = c.next.new.self} (elements_of t) k c.loop-element.invariant.left c.in-Some-element.ensures.steps in
    let kept = goes_on (elements_of t) c.loop-element.listed.items c.push.new.self.items c.in-Ok.kept k
    (g.N.HasTree.tree c.in-Some-element.element) r.0 c.loop-element.invariant.kept c.in-Ok-push.ensures.items c.in-Ok.ensures.tree
    (λ deep. let is = c.in-Ok.is in let e = c.own_value.ensures.deep.1 deep in cc) in
    record {
      can = c.in-Some-element.ensures.goes.keeps;
      ends = (c.in-Some-element.ensures.goes.on c.loop-element.invariant.ends).1;
      left = simp length-append r.1;
      kept = simp length-append kept;
    }

pub returns : goal.returns
returns g c =
    let t = g.N.HasTree.tree c.args.value.now in
    let k = length c.loop-element.yielded in
    ends t c.loop-element.listed.items k (rw (array_some t c.in-Some.ensures) refl)
    (left_end {u = c.next.new.self} (elements_of t) k c.loop-element.invariant.left c.in-None.ensures.steps) c.loop-element.invariant.kept
