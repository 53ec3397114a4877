use Rattle.std.proofs.Common.{sym, ap, ◌∙◌, length, length-append, arith}
use Rattle.json_model.proofs.KindLaws.{if_array_is}
use Rattle.json_model.specs.Parts.{elements_of}
use Rattle.json_traits.proofs.GivesLaws.{left_item, left_end}
use Rattle.flat_keywords.specs.Validity.{AreTypeNames}
use Rattle.flat_keywords.proofs.TypeLists.{of_list, starts, no_name, twice, goes_on, ends}
use Rattle.flat_keywords.proofs.read.read_type_list.Goals as goal

pub loop-element-init : goal.loop-element-init
loop-element-init g c =
    let t = g.N.HasTree.tree c.args.value.now in
    let same = if_array_is t c.in_ok-list.ensures in
    record {
      can = rw c.into_iter-element-iterator.ensures.into_iter_gives c.elements-element-items.ensures.can;
      ends = rw c.into_iter-element-iterator.ensures.into_iter_gives c.elements-element-items.ensures.ends;
      left = rw (c.into_iter-element-iterator.ensures.into_iter_gives, ← same) c.elements-element-items.ensures.gives;
      named = starts (elements_of t) c.empty-set.result c.empty-set.ensures;
    }

pub returns-in_default : goal.returns-in_default
returns-in_default g c =
    let t = g.N.HasTree.tree c.args.value.now in
    let k = length c.loop-element.yielded in
    let r = left_item {j = c.next.new.self} (elements_of t) k c.loop-element.invariant.left c.in-Some.ensures.steps in
    λ names. no_name (elements_of t) c.loop-element.set k (g.N.HasTree.tree c.in-Some.element) r.0
    c.loop-element.invariant.named (rw (← c.in_default.is) c.read_type.ensures)
    ((of_list t AreTypeNames c.in_ok-list.ensures).0 names)

pub returns-then-contains : goal.returns-then-contains
returns-then-contains g c =
    let t = g.N.HasTree.tree c.args.value.now in
    let k = length c.loop-element.yielded in
    let r = left_item {j = c.next.new.self} (elements_of t) k c.loop-element.invariant.left c.in-Some.ensures.steps in
    λ names. twice (elements_of t) c.loop-element.set k (g.N.HasTree.tree c.in-Some.element) r.0 c.loop-element.invariant.named
    c.in-Some-read_type.json_type c.in-Some-read_type.ensures
    (sym c.contains.ensures ∙ c.if-contains.true)
    ((of_list t AreTypeNames c.in_ok-list.ensures).0 names)

pub loop-element-preserved : goal.loop-element-preserved
loop-element-preserved g c =
    let t = g.N.HasTree.tree c.args.value.now in
    let k = length c.loop-element.yielded in
    let r = left_item {j = c.next.new.self} (elements_of t) k c.loop-element.invariant.left c.in-Some.ensures.steps in
    record {
      can = c.in-Some.ensures.goes.keeps;
      ends = (c.in-Some.ensures.goes.on c.loop-element.invariant.ends).1;
      left = simp length-append r.1;
      named = simp length-append (goes_on (elements_of t) c.loop-element.set k
          (g.N.HasTree.tree c.in-Some.element) r.0 c.loop-element.invariant.named c.in-Some-read_type.json_type c.insert-set.result
          c.in-Some-read_type.ensures (sym c.contains.ensures ∙ c.if-contains.false) c.insert-set.ensures);
    }

pub returns : goal.returns
returns g c =
    let t = g.N.HasTree.tree c.args.value.now in
    let k = length c.loop-element.yielded in
    let some = ap length (ap elements_of (if_array_is t c.in_ok-list.ensures)) in
    let e = ends (elements_of t) c.loop-element.set k
    (left_end {u = c.next.new.self} (elements_of t) k c.loop-element.invariant.left c.in-None.ensures.steps)
    (let n = c.if-len-eq0.false in let l = c.len.ensures in omega arith) c.loop-element.invariant.named in
    ((of_list t AreTypeNames c.in_ok-list.ensures).1 e.0, e.1)
