use Rattle.std.proofs.Common.{ℕ, List, length, length-append, arith, ◌∙◌, sym, subst}
use Rattle.std.specs.Prelude.{IsSome}
use Rattle.std.proofs.lemmas.Slice.Eq.{bytes_eq-Decides}
use Rattle.json_model.specs.Parts.{lookup, pairs_of}
use Rattle.json_traits.proofs.GivesLaws.{left_item}
use Rattle.flat_keywords.proofs.RequiredKeys.{is_key, one_more}
use Rattle.flat_keywords.proofs.required.passed_keys.Goals as goal

pub loop-key-init : goal.loop-key-init
loop-key-init g c = record {
  can = rw c.into_iter-key-iterator.ensures.into_iter_gives c.members-key-items.ensures.can;
  ends = rw c.into_iter-key-iterator.ensures.into_iter_gives c.members-key-items.ensures.ends;
  left = rw c.into_iter-key-iterator.ensures.into_iter_gives c.members-key-items.ensures.gives;
  within = omega arith;
  keys = tt;
}

pub loop-key-preserved : goal.loop-key-preserved
loop-key-preserved g c =
    let ps = pairs_of (g.N.Object.HasTree.tree c.args.object.now) in
    let k = length c.loop-key.yielded in
    let r = left_item {j = c.next.new.self} ps k c.loop-key.invariant.left c.in-Some.ensures.steps in
    record {
      can = c.in-Some.ensures.goes.keeps;
      ends = (c.in-Some.ensures.goes.on c.loop-key.invariant.ends).1;
      left = simp length-append r.1;
      within = c.loop-key.invariant.within;
      keys = c.loop-key.invariant.keys;
    }

pub loop-key-preserved-then-eq : goal.loop-key-preserved-then-eq
loop-key-preserved-then-eq g c =
    let ps = pairs_of (g.N.Object.HasTree.tree c.args.object.now) in
    let k = length c.loop-key.yielded in
    let r = left_item {j = c.next.new.self} ps k c.loop-key.invariant.left c.in-Some.ensures.steps in
    record {
      can = c.in-Some.ensures.goes.keeps;
      ends = (c.in-Some.ensures.goes.on c.loop-key.invariant.ends).1;
      left = simp length-append r.1;
      within = omega (arith, c.if-passed-names.true);
      keys =
          let same = (bytes_eq-Decides c.as_str.result.now c.in-Some.key.now).0 (sym c.if-eq.ensures) in
          let name = sym same ∙ c.as_str.ensures.value in
          one_more c.loop-key.passed c.args.names.now c.index-names-passed.result ps c.if-passed-names.true c.index-names-passed.is
          (subst (λ (key : List ℕ). IsSome (lookup key ps)) name (is_key ps k (c.in-Some.key.now, g.N.HasTree.tree c.in-Some.field-0-1) r.0.here))
          c.loop-key.invariant.keys;
    }
